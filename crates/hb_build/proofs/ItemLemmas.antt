-- The expression on top becomes an item of a block, or an argument of a call.
use Rattle.std.proofs.Common.{◌≡◌, ◌≤◌, ◌+◌, List, ◌∷◌, length, sym, ap, ap₂, ◌∙◌, arith, subst}
use Rattle.hb_tree.specs.Tree.{Tree, IsExpr}
use Rattle.hb_draft.specs.Unfinished.{in_hand}
use Rattle.hb_build.proofs.{PushLemmas.KeepsRest, TakeLemmas.top-operand}
use Rattle.hb_build.specs.declared.{builder.Builder.Builder, held.Held.Held}
use Rattle.hb_build.specs.declared.held.Held.TheVariants as held
use Rattle.hb_build.specs.Pile.{Slot, Operand, piled}
use Rattle.hb_build.specs.Sound.{IsSound, IsGood, trees_in, things_of, pile_of, work_of}
use Rattle.hb_build.specs.Acts.{Work, Answer, Lost, with_operand}
use Rattle.hb_build.proofs.RelaidLemmas.{IsSameCount, sound-relaid, work-relaid}

-- an expression lies on top
pub record HasOperand (b : Builder) : Type 0 where
  pub rest : List Held
  pub e : Tree
  pub others : List Tree
  pub things_are : things_of b ≡ held.Operand ∷ rest
  pub hand_is : in_hand b.draft ≡ e ∷ others

pub has-operand : (b : Builder) (go : Tree → List Slot → Answer) → (with_operand (pile_of b) go ≡ Lost → ⊥) → HasOperand b
has-operand b go kept =
    let t = top-operand (things_of b) (in_hand b.draft) go kept in
    record { rest = t.0; e = t.1; others = t.2; things_are = t.3; hand_is = t.4 }

pub pile-of-operand : (b : Builder) (t : HasOperand b) → pile_of b ≡ Operand t.e ∷ piled t.rest t.others
pile-of-operand b t = ap₂ piled t.things_are t.hand_is

-- what it becomes
pub record IsUse (thing : Held) (slot : Tree → Slot) : Type 0 where
  pub lies : (things : List Held) (e : Tree) (hand : List Tree) → piled (thing ∷ things) (e ∷ hand) ≡ slot e ∷ piled things hand
  pub trees : (things : List Held) → trees_in (thing ∷ things) ≡ 1 + trees_in things
  pub same : (e : Tree) (pile : List Slot) → IsSameCount (Operand e ∷ pile) (slot e ∷ pile)

-- the builder once it did
module _ (old new : Builder) (t : HasOperand old) (thing : Held) (slot : Tree → Slot) (is_use : IsUse thing slot) (keeps : KeepsRest old new) (things : things_of new ≡ thing ∷ t.rest) where
  lies : piled (thing ∷ t.rest) (in_hand old.draft) ≡ slot t.e ∷ piled t.rest t.others
  lies = ap (piled (thing ∷ t.rest)) t.hand_is ∙ is_use.lies t.rest t.e t.others

  pub sound-used : new.scope ≡ old.scope → IsSound old
      → IsGood (length old.draft.table.names) (length old.draft.table.classes) (slot t.e ∷ piled t.rest t.others) → IsSound new
  sound-used scope sound good =
      let matched : trees_in (thing ∷ t.rest) ≤ length (in_hand old.draft) = omega (arith, is_use.trees t.rest, sound.matched, ap trees_in t.things_are) in
      sound-relaid old new (thing ∷ t.rest) keeps scope things sound matched (rw lies good)
      (subst (λ pile. IsSameCount pile (piled (thing ∷ t.rest) (in_hand old.draft))) (sym (pile-of-operand old t)) (rw lies (is_use.same t.e (piled t.rest t.others))))

  pub work-used : new.depth ≡ old.depth → work_of new ≡ record (work_of old) { pile = slot t.e ∷ piled t.rest t.others }
  work-used depth = work-relaid old new (thing ∷ t.rest) keeps depth things ∙ ap (λ (pile : List Slot). let w : Work = record (work_of old) { pile = pile } in w) lies

-- what is known of the expression and of the pile below it
pub good-operand : (b : Builder) (t : HasOperand b) → IsSound b → IsExpr t.e × IsGood (length b.draft.table.names) (length b.draft.table.classes) (piled t.rest t.others)
good-operand b t sound =
    let all = sound.good in
    subst (IsGood (length b.draft.table.names) (length b.draft.table.classes)) (pile-of-operand b t) all
