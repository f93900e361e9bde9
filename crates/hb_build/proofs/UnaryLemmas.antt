-- A node over one expression, whose own token lies below it.
use Rattle.std.proofs.Common.{◌≡◌, ℕ, ◌+◌, ◌≤◌, List, [], ◌∷◌, ◌++◌, Some, None, refl, sym, ◌∙◌, ap, ap₂, subst, length, arith, slice_get}
use Rattle.std.specs.Option.{option_map}
use Rattle.hb_tree.specs.declared.limits.TheConstants.{HEIGHT_MAX}
use Rattle.hb_tree.specs.Tree.{Tree, IsExpr}
use Rattle.hb_tree.specs.Counts.{height, nodes_in, calls_in, names_assigned_in}
use Rattle.hb_draft.specs.{Unfinished.in_hand, Unfinished.HasExprs, Unfinished.unary_over, Made.made_of}
use Rattle.hb_build.specs.Said.{said_of}
use Rattle.hb_build.specs.declared.{builder.Builder.Builder, held.Held.Held, held.Spot.Spot, faults.ParseFail.ParseFail}
use Rattle.hb_build.specs.declared.held.Held.TheVariants as held
use Rattle.hb_build.specs.Pile.{Slot, Operand, Own, piled, names_since}
use Rattle.hb_build.specs.Acts.{Work, Answer, Goes, Fails, Lost, complete, passed, with_operand, with_own}
use Rattle.hb_build.specs.Sound.{things_of, pile_of, work_of, trees_in, IsGood, IsSound}
use Rattle.hb_build.proofs.TakeLemmas.{top-operand, top-own}
use Rattle.hb_build.proofs.NodeLemmas.{IsOneMore, IsPut, IsWithin, within, node-goes, complete-fails, is_over, sound-put}

-- what a node over one expression counts
pub record IsUnary (op : ℕ → Tree → Tree) : Type 0 where
  pub kind : (id : ℕ) (e : Tree) → IsExpr (op id e)
  pub high : (id : ℕ) (e : Tree) → height (op id e) ≡ 1 + height e
  pub nodes : (id : ℕ) (e : Tree) → nodes_in (op id e) ≡ 1 + nodes_in e
  pub calls : (id : ℕ) (e : Tree) → calls_in (op id e) ≡ calls_in e
  pub names : (id : ℕ) (e : Tree) → names_assigned_in (op id e) ≡ names_assigned_in e

more-unary : (op : ℕ → Tree → Tree) → IsUnary op → (id : ℕ) (e : Tree) (p : Spot) (pile : List Slot) → IsOneMore (Operand e ∷ Own p ∷ pile) (Operand (op id e) ∷ pile)
more-unary op is id e p pile = record {
  body = refl;
  nodes = omega (arith, is.nodes id e);
  calls = omega (arith, is.calls id e);
  names = ap (λ (xs : List ℕ). names_since pile ++ xs) (is.names id e);
  outer = refl;
  scopes = refl;
  pending = refl;
}

-- the last in hand is an expression that may be part of a node
pub one-part : (hand : List Tree) (e : Tree) (others : List Tree) → hand ≡ e ∷ others → IsExpr e → 1 + height e ≤ HEIGHT_MAX → HasExprs 1 hand
one-part hand e others is kind low =
    let P = λ (x : List Tree). HasExprs 1 x in
    subst P (sym is) (record { enough = omega arith; exprs = (record { kind = kind; low = omega (arith, low) }, tt) })

pub first-height : (hand : List Tree) (e : Tree) (others : List Tree) (h : ℕ) → hand ≡ e ∷ others → option_map height (slice_get hand 0) ≡ Some h → h ≡ height e
first-height hand e others h is eq =
    let same : Some (height e) ≡ Some h = ap (λ (x : List Tree). option_map height (slice_get x 0)) (sym is) ∙ eq in cc

-- an expression over the own token of its node
pub record UnaryTop (b : Builder) : Type 0 where
  pub rest : List Held
  pub spot : Spot
  pub e : Tree
  pub others : List Tree
  pub things_are : things_of b ≡ held.Operand ∷ held.Own spot ∷ rest
  pub hand_is : in_hand b.draft ≡ e ∷ others

pub unary-top : (b : Builder) (go : Tree → Spot → List Slot → Answer) → (with_operand (pile_of b) (λ e pile. with_own pile (go e)) ≡ Lost → ⊥) → UnaryTop b
unary-top b go kept =
    let one = top-operand (things_of b) (in_hand b.draft) (λ e pile. with_own pile (go e)) kept in
    let two = top-own one.0 one.2 (go one.1) one.5 in
    record { rest = two.0; spot = two.1; e = one.1; others = one.2; things_are = one.3 ∙ ap (λ (x : List Held). held.Operand ∷ x) two.2; hand_is = one.4 }

-- the same by what was taken off
abbrev pub retop : (b : Builder) (t : UnaryTop b) (mid rest : List Held) (spot : Spot) → mid ≡ held.Own t.spot ∷ t.rest → mid ≡ held.Own spot ∷ rest → UnaryTop b
retop b t mid rest spot was is = record { rest = rest; spot = spot; e = t.e; others = t.others; things_are = t.things_are ∙ ap (λ (x : List Held). held.Operand ∷ x) (sym was ∙ is); hand_is = t.hand_is }

-- what a step of such an action leads to, from the limits that were checked
module _ (b : Builder) (sound : IsSound b) (op : ℕ → Tree → Tree) (is : IsUnary op) (t : UnaryTop b) (w : Work) (places : w.said.places ≡ (work_of b).said.places) (highest : ℕ) (high : highest ≡ height t.e) where
  abbrev pub answer : Answer
  answer = with_operand (pile_of b) (λ e pile. with_own pile (λ q pile. complete q (λ id. op id e) Operand pile w))

  pile_is : pile_of b ≡ Operand t.e ∷ Own t.spot ∷ piled t.rest t.others
  pile_is = ap₂ piled t.things_are t.hand_is

  answer-is : answer ≡ complete t.spot (λ id. op id t.e) Operand (piled t.rest t.others) w
  answer-is = ap (λ (x : List Slot). with_operand x (λ e pile. with_own pile (λ q pile. complete q (λ id. op id e) Operand pile w))) pile_is

  more : (id : ℕ) → IsOneMore (pile_of b) (Operand (op id t.e) ∷ piled t.rest t.others)
  more id = let P = λ (x : List Slot). IsOneMore x (Operand (op id t.e) ∷ piled t.rest t.others) in subst P (sym pile_is) (more-unary op is id t.e t.spot (piled t.rest t.others))

  high_is : (id : ℕ) → height (op id t.e) ≡ 1 + highest
  high_is id = omega (arith, is.high id t.e, high)

  good_of : IsGood (length b.draft.table.names) (length b.draft.table.classes) (Operand t.e ∷ Own t.spot ∷ piled t.rest t.others)
  good_of = let P = λ (x : List Slot). IsGood (length b.draft.table.names) (length b.draft.table.classes) x in subst P pile_is sound.good

  pub part : IsExpr t.e
  part = good_of.0

  pub unary-fails : (fault : ParseFail) → passed (1 + highest) (length b.draft.table.nodes) (is_over b.scope) t.spot.at ≡ Some fault → answer ≡ Fails fault
  unary-fails fault e = answer-is ∙ complete-fails b sound t.spot (λ id. op id t.e) Operand (piled t.rest t.others) w places highest (high_is _) (more _) fault e

  matched-after : (id : ℕ) → trees_in (held.Operand ∷ t.rest) ≤ length (op id t.e ∷ t.others)
  matched-after id =
      let h : trees_in (held.Operand ∷ held.Own t.spot ∷ t.rest) ≤ length (t.e ∷ t.others) =
      subst (λ (x : List Held). trees_in x ≤ length (t.e ∷ t.others)) t.things_are (subst (λ (x : List Tree). trees_in (things_of b) ≤ length x) t.hand_is sound.matched) in
      omega (arith, h)

  pub unary-goes : passed (1 + highest) (length b.draft.table.nodes) (is_over b.scope) t.spot.at ≡ None
      → (new : Builder) → IsPut b new (held.Operand ∷ t.rest) (unary_over op (length (work_of b).said.places) (in_hand b.draft))
      → (place : ℕ × ℕ) → place ≡ (t.spot.line, t.spot.column) → said_of (made_of new.draft) ≡ record w.said { places = w.said.places ++ place ∷ [] } → new.depth ≡ w.depth
      → (answer ≡ Goes (work_of new)) × IsSound new
  unary-goes e new before place place_is said depth =
      let node : Tree = op (length (work_of b).said.places) t.e in
      let limits : IsWithin (1 + highest) (length b.draft.table.nodes) (is_over b.scope) = within (1 + highest) (length b.draft.table.nodes) (is_over b.scope) t.spot.at e in
      let put : IsPut b new (held.Operand ∷ t.rest) (op (length (work_of b).said.places) t.e ∷ t.others) =
      subst (λ (x : List Tree). IsPut b new (held.Operand ∷ t.rest) (unary_over op (length (work_of b).said.places) x)) t.hand_is before in
      let sound-after : IsSound new = sound-put b new (held.Operand ∷ t.rest) (op (length (work_of b).said.places) t.e ∷ t.others) sound put (matched-after (length (work_of b).said.places))
      (is.kind _ t.e, good_of.1) (more _) limits.few in (
        answer-is ∙ node-goes b sound t.spot (λ id. op id t.e) Operand (piled t.rest t.others) w places highest (high_is _) (more _) e new (held.Operand ∷ t.rest)
            (op (length (work_of b).said.places) t.e ∷ t.others) put refl place place_is said depth,
        sound-after,
      )
