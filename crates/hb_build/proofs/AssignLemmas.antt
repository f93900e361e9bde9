-- An assignment, whose expression lies over its variable.
use Rattle.std.proofs.Common.{◌≡◌, ℕ, ◌+◌, ◌<◌, ◌≤◌, List, [], ◌∷◌, ◌++◌, None, Some, refl, sym, ◌∙◌, ap, ap₂, subst, length, arith}
use Rattle.std.proofs.lemmas.List.{append_assoc}
use Rattle.hb_types.specs.declared.ids.NameId.{NameId}
use Rattle.hb_tree.specs.{Tree.Tree, Tree.TAssign, Tree.IsExpr, Counts.height, Counts.names_assigned_in}
use Rattle.hb_build.specs.Said.{said_of}
use Rattle.hb_build.specs.declared.{builder.Builder.Builder, held.Held.Held, held.Spot.Spot, faults.ParseFail.ParseFail}
use Rattle.hb_build.specs.declared.held.Held.TheVariants as held
use Rattle.hb_build.specs.Pile.{Slot, Operand, Target, piled, names_since}
use Rattle.hb_build.specs.Acts.{Work, Answer, Goes, Fails, Lost, complete, closed, passed, with_operand, with_target}
use Rattle.hb_build.specs.Sound.{things_of, pile_of, work_of, trees_in, IsGood, IsSound}
use Rattle.hb_build.proofs.TakeLemmas.{top-operand, top-target}
use Rattle.hb_build.proofs.NodeLemmas.{IsOneMore, IsPut, IsWithin, within, node-goes, complete-fails, is_over, sound-put}
use Rattle.hb_draft.specs.{Unfinished.in_hand, Unfinished.unary_over, Made.made_of}

abbrev pub assign : ℕ → ℕ → Tree → Tree
assign x id e = TAssign id x e

more-assign : (x id : ℕ) (e : Tree) (p : Spot) (pile : List Slot) → IsOneMore (Operand e ∷ Target x p ∷ pile) (Operand (assign x id e) ∷ pile)
more-assign x id e p pile = record {
  body = refl;
  nodes = omega arith;
  calls = refl;
  names = sym (append_assoc (names_since pile) (x ∷ []) (names_assigned_in e));
  outer = refl;
  scopes = refl;
  pending = refl;
}

-- an expression over the variable of its assignment
pub record AssignTop (b : Builder) : Type 0 where
  pub rest : List Held
  pub x : NameId
  pub spot : Spot
  pub e : Tree
  pub others : List Tree
  pub things_are : things_of b ≡ held.Operand ∷ held.Target x spot ∷ rest
  pub hand_is : in_hand b.draft ≡ e ∷ others

-- what an assignment leads to from this pile
abbrev pub assigned : List Slot → Work → Answer
assigned pile w = with_operand pile (λ e pile. with_target pile (λ x q pile. complete q (λ id. TAssign id x e) Operand pile (closed w)))

pub assign-top : (b : Builder) → (assigned (pile_of b) (work_of b) ≡ Lost → ⊥) → AssignTop b
assign-top b kept =
    let go : Tree → ℕ → Spot → List Slot → Answer = λ e x q pile. complete q (λ id. TAssign id x e) Operand pile (closed (work_of b)) in
    let one = top-operand (things_of b) (in_hand b.draft) (λ e pile. with_target pile (go e)) kept in
    let two = top-target one.0 one.2 (go one.1) one.5 in
    record { rest = two.0; x = two.1; spot = two.2; e = one.1; others = one.2; things_are = one.3 ∙ ap (λ (y : List Held). held.Operand ∷ y) two.3; hand_is = one.4 }

-- the same by what was taken off
abbrev pub retop : (b : Builder) (t : AssignTop b) (mid rest : List Held) (x : NameId) (spot : Spot) → mid ≡ held.Target t.x t.spot ∷ t.rest → mid ≡ held.Target x spot ∷ rest → AssignTop b
retop b t mid rest x spot was is =
    record { rest = rest; x = x; spot = spot; e = t.e; others = t.others; things_are = t.things_are ∙ ap (λ (y : List Held). held.Operand ∷ y) (sym was ∙ is); hand_is = t.hand_is }

-- what the action leads to, from the limits that were checked
module _ (b : Builder) (sound : IsSound b) (t : AssignTop b) (highest : ℕ) (high : highest ≡ height t.e) where
  abbrev number : ℕ
  number = length (work_of b).said.places

  abbrev node : Tree
  node = assign t.x.0 number t.e

  abbrev below : List Slot
  below = piled t.rest t.others

  pile_is : pile_of b ≡ Operand t.e ∷ Target t.x.0 t.spot ∷ below
  pile_is = ap₂ piled t.things_are t.hand_is

  answer-is : assigned (pile_of b) (work_of b) ≡ complete t.spot (λ id. assign t.x.0 id t.e) Operand below (closed (work_of b))
  answer-is = ap (λ (y : List Slot). assigned y (work_of b)) pile_is

  more : IsOneMore (pile_of b) (Operand node ∷ below)
  more = let P = λ (y : List Slot). IsOneMore y (Operand node ∷ below) in subst P (sym pile_is) (more-assign t.x.0 number t.e t.spot below)

  high_is : height node ≡ 1 + highest
  high_is = omega (arith, high)

  good_of : IsGood (length b.draft.table.names) (length b.draft.table.classes) (Operand t.e ∷ Target t.x.0 t.spot ∷ below)
  good_of = let P = λ (y : List Slot). IsGood (length b.draft.table.names) (length b.draft.table.classes) y in subst P pile_is sound.good

  pub value : IsExpr t.e
  value = good_of.0

  pub known : t.x.0 < length b.draft.table.names
  known = good_of.1.0

  pub assign-fails : (fault : ParseFail) → passed (1 + highest) (length b.draft.table.nodes) (is_over b.scope) t.spot.at ≡ Some fault → assigned (pile_of b) (work_of b) ≡ Fails fault
  assign-fails fault e = answer-is ∙ complete-fails b sound t.spot (λ id. assign t.x.0 id t.e) Operand below (closed (work_of b)) refl highest high_is more fault e

  matched-after : trees_in (held.Operand ∷ t.rest) ≤ length (node ∷ t.others)
  matched-after =
      let h : trees_in (held.Operand ∷ held.Target t.x t.spot ∷ t.rest) ≤ length (t.e ∷ t.others) =
      subst (λ (y : List Held). trees_in y ≤ length (t.e ∷ t.others)) t.things_are (subst (λ (y : List Tree). trees_in (things_of b) ≤ length y) t.hand_is sound.matched) in
      omega (arith, h)

  pub assign-goes : passed (1 + highest) (length b.draft.table.nodes) (is_over b.scope) t.spot.at ≡ None
      → (new : Builder) → IsPut b new (held.Operand ∷ t.rest) (unary_over (assign t.x.0) (length (work_of b).said.places) (in_hand b.draft))
      → (place : ℕ × ℕ) → place ≡ (t.spot.line, t.spot.column) → said_of (made_of new.draft) ≡ record (work_of b).said { places = (work_of b).said.places ++ place ∷ [] }
      → new.depth ≡ (closed (work_of b)).depth
      → (assigned (pile_of b) (work_of b) ≡ Goes (work_of new)) × IsSound new
  assign-goes e new before place place_is said depth =
      let limits : IsWithin (1 + highest) (length b.draft.table.nodes) (is_over b.scope) = within (1 + highest) (length b.draft.table.nodes) (is_over b.scope) t.spot.at e in
      let put : IsPut b new (held.Operand ∷ t.rest) (node ∷ t.others) =
      subst (λ (y : List Tree). IsPut b new (held.Operand ∷ t.rest) (unary_over (assign t.x.0) number y)) t.hand_is before in
      let sound-after : IsSound new = sound-put b new (held.Operand ∷ t.rest) (node ∷ t.others) sound put matched-after (tt, good_of.1.1) more limits.few in (
        answer-is ∙ node-goes b sound t.spot (λ id. assign t.x.0 id t.e) Operand below (closed (work_of b)) refl highest high_is more e new (held.Operand ∷ t.rest) (node ∷ t.others) put refl place place_is said depth,
        sound-after,
      )
