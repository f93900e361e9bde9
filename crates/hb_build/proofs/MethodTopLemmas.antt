-- What lies on top where a method is named.
use Rattle.std.proofs.Common.{◌≡◌, ℕ, List, ◌∷◌, sym, ap, ◌∙◌}
use Rattle.hb_types.specs.declared.ids.ClassId.{ClassId}
use Rattle.hb_tree.specs.Tree.{Tree}
use Rattle.hb_draft.specs.Unfinished.{in_hand}
use Rattle.hb_build.specs.{Pile.Slot, Sound.things_of, Sound.pile_of}
use Rattle.hb_build.specs.declared.{builder.Builder.Builder, held.Held.Held, held.Spot.Spot}
use Rattle.hb_build.specs.declared.held.Held.TheVariants as held
use Rattle.hb_build.specs.Acts.{Answer, Lost, with_operand, with_class}
use Rattle.hb_build.proofs.TakeLemmas.{top-operand, top-class}

-- an expression over a class
pub record HasComputed (b : Builder) : Type 0 where
  pub rest : List Held
  pub class : ClassId
  pub spot : Spot
  pub e : Tree
  pub others : List Tree
  pub things_are : things_of b ≡ held.Operand ∷ held.Class class spot ∷ rest
  pub hand_is : in_hand b.draft ≡ e ∷ others

pub has-computed : (b : Builder) (go : Tree → ℕ → Spot → List Slot → Answer) → (with_operand (pile_of b) (λ e pile. with_class pile (go e)) ≡ Lost → ⊥) → HasComputed b
has-computed b go kept =
    let t = top-operand (things_of b) (in_hand b.draft) (λ e pile. with_class pile (go e)) kept in
    let u = top-class t.0 t.2 (go t.1) t.5 in
    record { rest = u.0; class = u.1; spot = u.2; e = t.1; others = t.2; things_are = t.3 ∙ ap (λ (r : List Held). held.Operand ∷ r) u.3; hand_is = t.4 }

-- as they were taken off
pub taken : (b : Builder) (t : HasComputed b) (class : ClassId) (spot : Spot) (rest : List Held) (dropped : List Held) → dropped ≡ held.Class t.class t.spot ∷ t.rest
    → dropped ≡ held.Class class spot ∷ rest → things_of b ≡ held.Operand ∷ held.Class class spot ∷ rest
taken b t class spot rest dropped was is = t.things_are ∙ ap (λ (r : List Held). held.Operand ∷ r) (sym was ∙ is)
