-- Where an action is not lost, what it takes lies on top.
use Rattle.std.proofs.Common.{◌≡◌, ℕ, List, [], ◌∷◌, refl}
use Rattle.hb_types.specs.declared.{ids.ClassId.ClassId, ids.NameId.NameId, types.Ty.Ty}
use Rattle.hb_tree.specs.Tree.{Tree}
use Rattle.hb_build.specs.declared.{held.Held.Held, held.Spot.Spot}
use Rattle.hb_build.specs.declared.held.Held.TheVariants as held
use Rattle.hb_build.specs.Pile.{Slot, piled}
use Rattle.hb_build.specs.Acts.{Answer, Lost, with_operand, with_closed, with_own, with_declaring, with_name, with_target, with_called, with_class, with_type, with_block, with_body, with_setup, with_script, with_method}

pub top-operand : (things : List Held) (hand : List Tree) (go : Tree → List Slot → Answer) → (with_operand (piled things hand) go ≡ Lost → ⊥)
    → (rest : List Held) × (e : Tree) × (others : List Tree) × (things ≡ held.Operand ∷ rest) × (hand ≡ e ∷ others) × (go e (piled rest others) ≡ Lost → ⊥)
top-operand (held.Operand ∷ rest) (e ∷ others) go kept = (rest, e, others, refl, refl, kept)
top-operand (held.Closed ∷ rest) [] go kept = absurd (kept refl)
top-operand (held.Item ∷ rest) [] go kept = absurd (kept refl)
top-operand (held.Argument ∷ rest) [] go kept = absurd (kept refl)
top-operand (held.Computed c ∷ rest) [] go kept = absurd (kept refl)
top-operand _ _ _ kept = absurd (kept refl)

pub top-closed : (things : List Held) (hand : List Tree) (go : Tree → List Slot → Answer) → (with_closed (piled things hand) go ≡ Lost → ⊥)
    → (rest : List Held) × (e : Tree) × (others : List Tree) × (things ≡ held.Closed ∷ rest) × (hand ≡ e ∷ others) × (go e (piled rest others) ≡ Lost → ⊥)
top-closed (held.Operand ∷ rest) [] go kept = absurd (kept refl)
top-closed (held.Closed ∷ rest) (e ∷ others) go kept = (rest, e, others, refl, refl, kept)
top-closed (held.Item ∷ rest) [] go kept = absurd (kept refl)
top-closed (held.Argument ∷ rest) [] go kept = absurd (kept refl)
top-closed (held.Computed c ∷ rest) [] go kept = absurd (kept refl)
top-closed _ _ _ kept = absurd (kept refl)

pub top-own : (things : List Held) (hand : List Tree) (go : Spot → List Slot → Answer) → (with_own (piled things hand) go ≡ Lost → ⊥)
    → (rest : List Held) × (p : Spot) × (things ≡ held.Own p ∷ rest) × (go p (piled rest hand) ≡ Lost → ⊥)
top-own (held.Operand ∷ rest) [] go kept = absurd (kept refl)
top-own (held.Closed ∷ rest) [] go kept = absurd (kept refl)
top-own (held.Item ∷ rest) [] go kept = absurd (kept refl)
top-own (held.Argument ∷ rest) [] go kept = absurd (kept refl)
top-own (held.Computed c ∷ rest) [] go kept = absurd (kept refl)
top-own (held.Own p ∷ rest) hand go kept = (rest, p, refl, kept)
top-own _ _ _ kept = absurd (kept refl)

pub top-declaring : (things : List Held) (hand : List Tree) (go : Spot → List Slot → Answer) → (with_declaring (piled things hand) go ≡ Lost → ⊥)
    → (rest : List Held) × (p : Spot) × (things ≡ held.Declaring p ∷ rest) × (go p (piled rest hand) ≡ Lost → ⊥)
top-declaring (held.Operand ∷ rest) [] go kept = absurd (kept refl)
top-declaring (held.Closed ∷ rest) [] go kept = absurd (kept refl)
top-declaring (held.Item ∷ rest) [] go kept = absurd (kept refl)
top-declaring (held.Argument ∷ rest) [] go kept = absurd (kept refl)
top-declaring (held.Computed c ∷ rest) [] go kept = absurd (kept refl)
top-declaring (held.Declaring p ∷ rest) hand go kept = (rest, p, refl, kept)
top-declaring _ _ _ kept = absurd (kept refl)

pub top-name : (things : List Held) (hand : List Tree) (go : ℕ → Spot → List Slot → Answer) → (with_name (piled things hand) go ≡ Lost → ⊥)
    → (rest : List Held) × (x : NameId) × (p : Spot) × (things ≡ held.Word x p ∷ rest) × (go x.0 p (piled rest hand) ≡ Lost → ⊥)
top-name (held.Operand ∷ rest) [] go kept = absurd (kept refl)
top-name (held.Closed ∷ rest) [] go kept = absurd (kept refl)
top-name (held.Item ∷ rest) [] go kept = absurd (kept refl)
top-name (held.Argument ∷ rest) [] go kept = absurd (kept refl)
top-name (held.Computed c ∷ rest) [] go kept = absurd (kept refl)
top-name (held.Word x p ∷ rest) hand go kept = (rest, x, p, refl, kept)
top-name _ _ _ kept = absurd (kept refl)

pub top-target : (things : List Held) (hand : List Tree) (go : ℕ → Spot → List Slot → Answer) → (with_target (piled things hand) go ≡ Lost → ⊥)
    → (rest : List Held) × (x : NameId) × (p : Spot) × (things ≡ held.Target x p ∷ rest) × (go x.0 p (piled rest hand) ≡ Lost → ⊥)
top-target (held.Operand ∷ rest) [] go kept = absurd (kept refl)
top-target (held.Closed ∷ rest) [] go kept = absurd (kept refl)
top-target (held.Item ∷ rest) [] go kept = absurd (kept refl)
top-target (held.Argument ∷ rest) [] go kept = absurd (kept refl)
top-target (held.Computed c ∷ rest) [] go kept = absurd (kept refl)
top-target (held.Target x p ∷ rest) hand go kept = (rest, x, p, refl, kept)
top-target _ _ _ kept = absurd (kept refl)

pub top-called : (things : List Held) (hand : List Tree) (go : ℕ → Spot → List Slot → Answer) → (with_called (piled things hand) go ≡ Lost → ⊥)
    → (rest : List Held) × (x : NameId) × (p : Spot) × (things ≡ held.Called x p ∷ rest) × (go x.0 p (piled rest hand) ≡ Lost → ⊥)
top-called (held.Operand ∷ rest) [] go kept = absurd (kept refl)
top-called (held.Closed ∷ rest) [] go kept = absurd (kept refl)
top-called (held.Item ∷ rest) [] go kept = absurd (kept refl)
top-called (held.Argument ∷ rest) [] go kept = absurd (kept refl)
top-called (held.Computed c ∷ rest) [] go kept = absurd (kept refl)
top-called (held.Called x p ∷ rest) hand go kept = (rest, x, p, refl, kept)
top-called _ _ _ kept = absurd (kept refl)

pub top-class : (things : List Held) (hand : List Tree) (go : ℕ → Spot → List Slot → Answer) → (with_class (piled things hand) go ≡ Lost → ⊥)
    → (rest : List Held) × (c : ClassId) × (p : Spot) × (things ≡ held.Class c p ∷ rest) × (go c.0 p (piled rest hand) ≡ Lost → ⊥)
top-class (held.Operand ∷ rest) [] go kept = absurd (kept refl)
top-class (held.Closed ∷ rest) [] go kept = absurd (kept refl)
top-class (held.Item ∷ rest) [] go kept = absurd (kept refl)
top-class (held.Argument ∷ rest) [] go kept = absurd (kept refl)
top-class (held.Computed c ∷ rest) [] go kept = absurd (kept refl)
top-class (held.Class c p ∷ rest) hand go kept = (rest, c, p, refl, kept)
top-class _ _ _ kept = absurd (kept refl)

pub top-type : (things : List Held) (hand : List Tree) (go : Ty → List Slot → Answer) → (with_type (piled things hand) go ≡ Lost → ⊥)
    → (rest : List Held) × (y : Ty) × (things ≡ held.Type y ∷ rest) × (go y (piled rest hand) ≡ Lost → ⊥)
top-type (held.Operand ∷ rest) [] go kept = absurd (kept refl)
top-type (held.Closed ∷ rest) [] go kept = absurd (kept refl)
top-type (held.Item ∷ rest) [] go kept = absurd (kept refl)
top-type (held.Argument ∷ rest) [] go kept = absurd (kept refl)
top-type (held.Computed c ∷ rest) [] go kept = absurd (kept refl)
top-type (held.Type y ∷ rest) hand go kept = (rest, y, refl, kept)
top-type _ _ _ kept = absurd (kept refl)

pub top-block : (things : List Held) (hand : List Tree) (go : List Slot → Answer) → (with_block (piled things hand) go ≡ Lost → ⊥)
    → (rest : List Held) × (things ≡ held.Block ∷ rest) × (go (piled rest hand) ≡ Lost → ⊥)
top-block (held.Operand ∷ rest) [] go kept = absurd (kept refl)
top-block (held.Closed ∷ rest) [] go kept = absurd (kept refl)
top-block (held.Item ∷ rest) [] go kept = absurd (kept refl)
top-block (held.Argument ∷ rest) [] go kept = absurd (kept refl)
top-block (held.Computed c ∷ rest) [] go kept = absurd (kept refl)
top-block (held.Block ∷ rest) hand go kept = (rest, refl, kept)
top-block _ _ _ kept = absurd (kept refl)

pub top-body : (things : List Held) (hand : List Tree) (go : List Slot → Answer) → (with_body (piled things hand) go ≡ Lost → ⊥)
    → (rest : List Held) × (things ≡ held.Body ∷ rest) × (go (piled rest hand) ≡ Lost → ⊥)
top-body (held.Operand ∷ rest) [] go kept = absurd (kept refl)
top-body (held.Closed ∷ rest) [] go kept = absurd (kept refl)
top-body (held.Item ∷ rest) [] go kept = absurd (kept refl)
top-body (held.Argument ∷ rest) [] go kept = absurd (kept refl)
top-body (held.Computed c ∷ rest) [] go kept = absurd (kept refl)
top-body (held.Body ∷ rest) hand go kept = (rest, refl, kept)
top-body _ _ _ kept = absurd (kept refl)

pub top-setup : (things : List Held) (hand : List Tree) (go : List Slot → Answer) → (with_setup (piled things hand) go ≡ Lost → ⊥)
    → (rest : List Held) × (things ≡ held.Setup ∷ rest) × (go (piled rest hand) ≡ Lost → ⊥)
top-setup (held.Operand ∷ rest) [] go kept = absurd (kept refl)
top-setup (held.Closed ∷ rest) [] go kept = absurd (kept refl)
top-setup (held.Item ∷ rest) [] go kept = absurd (kept refl)
top-setup (held.Argument ∷ rest) [] go kept = absurd (kept refl)
top-setup (held.Computed c ∷ rest) [] go kept = absurd (kept refl)
top-setup (held.Setup ∷ rest) hand go kept = (rest, refl, kept)
top-setup _ _ _ kept = absurd (kept refl)

pub top-script : (things : List Held) (hand : List Tree) (go : ℕ → List Slot → Answer) → (with_script (piled things hand) go ≡ Lost → ⊥)
    → (rest : List Held) × (x : NameId) × (things ≡ held.Script x ∷ rest) × (go x.0 (piled rest hand) ≡ Lost → ⊥)
top-script (held.Operand ∷ rest) [] go kept = absurd (kept refl)
top-script (held.Closed ∷ rest) [] go kept = absurd (kept refl)
top-script (held.Item ∷ rest) [] go kept = absurd (kept refl)
top-script (held.Argument ∷ rest) [] go kept = absurd (kept refl)
top-script (held.Computed c ∷ rest) [] go kept = absurd (kept refl)
top-script (held.Script x ∷ rest) hand go kept = (rest, x, refl, kept)
top-script _ _ _ kept = absurd (kept refl)

-- a method with a name, or with an expression that computes it
pub data MethodTop (things : List Held) (hand : List Tree) (plain : ℕ → ℕ → List Slot → Answer) (computed : ℕ → Tree → List Slot → Answer) : Type 0 where
  Plainly : (rest : List Held) (c : ClassId) (m : NameId) → things ≡ held.Named c m ∷ rest → (plain c.0 m.0 (piled rest hand) ≡ Lost → ⊥) → MethodTop things hand plain computed
  Computedly : (rest : List Held) (c : ClassId) (e : Tree) (others : List Tree) → things ≡ held.Computed c ∷ rest → hand ≡ e ∷ others → (computed c.0 e (piled rest others) ≡ Lost → ⊥)
      → MethodTop things hand plain computed

pub top-method : (things : List Held) (hand : List Tree) (plain : ℕ → ℕ → List Slot → Answer) (computed : ℕ → Tree → List Slot → Answer)
    → (with_method (piled things hand) plain computed ≡ Lost → ⊥) → MethodTop things hand plain computed
top-method (held.Operand ∷ rest) [] plain computed kept = absurd (kept refl)
top-method (held.Closed ∷ rest) [] plain computed kept = absurd (kept refl)
top-method (held.Item ∷ rest) [] plain computed kept = absurd (kept refl)
top-method (held.Argument ∷ rest) [] plain computed kept = absurd (kept refl)
top-method (held.Computed c ∷ rest) (e ∷ others) plain computed kept = Computedly rest c e others refl refl kept
top-method (held.Named c m ∷ rest) hand plain computed kept = Plainly rest c m refl kept
top-method _ _ _ _ kept = absurd (kept refl)
