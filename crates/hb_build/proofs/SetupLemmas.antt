-- What lies on top where the setup ends, and what its end makes of the builder.
use Rattle.std.proofs.Common.{◌≡◌, List, ◌∷◌, refl, ap, ◌∙◌}
use Rattle.hb_tree.specs.Tree.{Tree}
use Rattle.hb_draft.specs.Unfinished.{in_hand}
use Rattle.hb_build.proofs.{TakeLemmas.top-closed, TakeLemmas.top-setup, BegunLemmas.IsMark}
use Rattle.hb_build.specs.{Pile.Slot, Pile.Setup, Sound.things_of, Sound.pile_of}
use Rattle.hb_build.specs.declared.{builder.Builder.Builder, held.Held.Held}
use Rattle.hb_build.specs.declared.held.Held.TheVariants as held
use Rattle.hb_build.specs.Acts.{Answer, Lost, with_closed, with_setup}

pub record HasSetup (b : Builder) : Type 0 where
  pub rest : List Held
  pub block : Tree
  pub others : List Tree
  pub things_are : things_of b ≡ held.Closed ∷ held.Setup ∷ rest
  pub hand_is : in_hand b.draft ≡ block ∷ others

pub has-setup : (b : Builder) (go : Tree → List Slot → Answer) → (with_closed (pile_of b) (λ e pile. with_setup pile (go e)) ≡ Lost → ⊥) → HasSetup b
has-setup b go kept =
    let t = top-closed (things_of b) (in_hand b.draft) (λ e pile. with_setup pile (go e)) kept in
    let u = top-setup t.0 t.2 (go t.1) t.5 in
    record { rest = u.0; block = t.1; others = t.2; things_are = t.3 ∙ ap (λ (r : List Held). held.Closed ∷ r) u.1; hand_is = t.4 }

pub is-setup : IsMark held.Setup Setup
is-setup = record { lies = λ things hand. refl; trees = λ things. refl; scopes = λ pile. refl; marks_are = λ pile. refl; pending = λ pile. refl }
