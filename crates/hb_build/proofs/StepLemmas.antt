-- A step that completes a node: what it answers, in one place for all nodes.
use Rattle.std.proofs.Common.{◌≡◌, ℕ, ◌+◌, ◌≤◌, List, [], ◌∷◌, ◌++◌, Some, None, sym, ◌∙◌, subst, length}
use Rattle.hb_draft.specs.Made.{made_of}
use Rattle.hb_build.specs.{Said.said_of, Pile.Slot, Pile.piled}
use Rattle.hb_build.specs.declared.{builder.Builder.Builder, held.Held.Held, held.Spot.Spot, faults.ParseFail.ParseFail}
use Rattle.hb_build.specs.Acts.{Work, Answer, Goes, Fails, complete, passed}
use Rattle.hb_build.specs.Sound.{pile_of, work_of, trees_in, IsGood, IsSound}
use Rattle.hb_build.proofs.NodeLemmas.{IsOneMore, IsPut, IsWithin, within, node-goes, complete-fails, is_over, sound-put}
use Rattle.hb_tree.specs.{Tree.Tree, Counts.height}

-- The answer is that of a complete node with its own token at p, whose highest part has this height. These things and
-- trees are left, the node on top.
pub record IsStep (b : Builder) (answer : Answer) (p : Spot) (highest : ℕ) (w : Work) (things : List Held) (hand : List Tree) : Type 0 where
  pub make : ℕ → Tree
  pub slot : Tree → Slot
  pub pile : List Slot
  pub is : answer ≡ complete p make slot pile w
  pub places : w.said.places ≡ (work_of b).said.places
  pub high : height (make (length (work_of b).said.places)) ≡ 1 + highest
  pub more : IsOneMore (pile_of b) (slot (make (length (work_of b).said.places)) ∷ pile)
  pub top : piled things hand ≡ slot (make (length (work_of b).said.places)) ∷ pile
  pub matched : trees_in things ≤ length hand
  pub good : IsGood (length b.draft.table.names) (length b.draft.table.classes) (piled things hand)

module _ (b : Builder) (sound : IsSound b) (answer : Answer) (p : Spot) (highest : ℕ) (w : Work) (things : List Held) (hand : List Tree) (s : IsStep b answer p highest w things hand) where
  pub step-fails : (fault : ParseFail) → passed (1 + highest) (length b.draft.table.nodes) (is_over b.scope) p.at ≡ Some fault → answer ≡ Fails fault
  step-fails fault e = s.is ∙ complete-fails b sound p s.make s.slot s.pile w s.places highest s.high s.more fault e

  pub step-goes : passed (1 + highest) (length b.draft.table.nodes) (is_over b.scope) p.at ≡ None
      → (new : Builder) → IsPut b new things hand
      → (place : ℕ × ℕ) → place ≡ (p.line, p.column) → said_of (made_of new.draft) ≡ record w.said { places = w.said.places ++ place ∷ [] } → new.depth ≡ w.depth
      → (answer ≡ Goes (work_of new)) × IsSound new
  step-goes e new put place place_is said depth =
      let limits : IsWithin (1 + highest) (length b.draft.table.nodes) (is_over b.scope) = within (1 + highest) (length b.draft.table.nodes) (is_over b.scope) p.at e in
      let more : IsOneMore (pile_of b) (piled things hand) = subst (λ (x : List Slot). IsOneMore (pile_of b) x) (sym s.top) s.more in (
        s.is ∙ node-goes b sound p s.make s.slot s.pile w s.places highest s.high s.more e new things hand put s.top place place_is said depth,
        sound-put b new things hand sound put s.matched s.good more limits.few,
      )
