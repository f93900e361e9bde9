use Rattle.std.proofs.Common.{◌≡◌, ◌∷◌, refl, sym, ap, ◌∙◌}
use Rattle.hb_build.specs.{Pile.Setup, Acts.Goes}
use Rattle.hb_build.specs.declared.builder.Builder.{Builder}
use Rattle.hb_build.specs.declared.held.Held.TheVariants as held
use Rattle.hb_build.specs.Sound.{IsCount, pile_of, things_of}
use Rattle.hb_build.proofs.PushLemmas.{things-over}
use Rattle.hb_build.proofs.BegunLemmas.{IsMark, Begins, sound-begun, work-begun, count-empty}
use Rattle.hb_build.proofs.builder.Builder.begin_setup.Goals as goal

pub returns : goal.returns
returns c =
    let old : Builder = c.args.self.now in
    let begun : Builder = c.begin_scope.new.self in
    let new : Builder = record begun { held = c.push.new.self } in
    let rest = c.in_ok-begin_scope.ensures.rest in
    let scope = c.in_ok-begin_scope.ensures.scope in
    let is : IsMark held.Setup Setup = record { lies = λ things hand. refl; trees = λ things. refl; scopes = λ pile. refl; marks_are = λ pile. refl; pending = λ pile. refl } in
    let begins : Begins old new = record {
      draft = ap (λ b. b.draft) rest;
      outer = c.in_ok-begin_scope.ensures.outer;
      declaring = ap (λ b. b.declaring) rest;
      scripts = ap (λ b. b.scripts) rest;
      depth = ap (λ b. b.depth) rest;
    } in
    let things : things_of new ≡ held.Setup ∷ things_of old =
    things-over new.held.items begun.held.items held.Setup c.in_ok-push.ensures.items ∙ ap (λ (b : Builder). held.Setup ∷ things_of b) rest in
    let count : IsCount new.scope (Setup ∷ pile_of old) =
    count-empty new.scope (Setup ∷ pile_of old) (ap (λ s. s.is_body) scope) refl (ap (λ s. s.variables.items) scope ∙ c.new.ensures.items) refl in (
      ap Goes (sym (work-begun old new held.Setup Setup is begins things)),
      sound-begun old new held.Setup Setup is begins things c.requires.fits.0 c.requires.fits.0.good count,
    )
