use Rattle.std.proofs.Common.{◌≡◌, ◌∷◌, reverse, refl, sym, ap, ◌∙◌}
use Rattle.hb_draft.specs.Unfinished.{in_hand}
use Rattle.hb_build.proofs.{PushLemmas.things-over, PiledLemmas.parameters-piled}
use Rattle.hb_build.specs.{Pile.Body, Pile.parameters_on, Acts.Goes}
use Rattle.hb_build.specs.declared.builder.Builder.{Builder}
use Rattle.hb_build.specs.declared.held.Held.TheVariants as held
use Rattle.hb_build.specs.Sound.{IsCount, pile_of, things_of, numbers, parameters_of}
use Rattle.hb_build.proofs.BegunLemmas.{IsMark, Begins, sound-begun, work-begun, count-params}
use Rattle.hb_build.proofs.builder.Builder.begin_body.Goals as goal

pub returns : goal.returns
returns c =
    let old : Builder = c.args.self.now in
    let begun : Builder = c.begin_scope.new.self in
    let new : Builder = record begun { held = c.push.new.self } in
    let rest = c.in_ok-begin_scope.ensures.rest in
    let scope = c.in_ok-begin_scope.ensures.scope in
    let is : IsMark held.Body Body = record { lies = λ things hand. refl; trees = λ things. refl; scopes = λ pile. refl; marks_are = λ pile. refl; pending = λ pile. refl } in
    let begins : Begins old new = record {
      draft = ap (λ b. b.draft) rest;
      outer = c.in_ok-begin_scope.ensures.outer;
      declaring = ap (λ b. b.declaring) rest;
      scripts = ap (λ b. b.scripts) rest;
      depth = ap (λ b. b.depth) rest;
    } in
    let things : things_of new ≡ held.Body ∷ things_of old =
    things-over new.held.items begun.held.items held.Body c.in_ok-push.ensures.items ∙ ap (λ (b : Builder). held.Body ∷ things_of b) rest in
    let params : numbers new.scope.variables.items ≡ parameters_on (pile_of old) =
    ap (λ s. numbers s.variables.items) scope ∙ c.in_ok-params.ensures ∙ ap (λ items. parameters_of (reverse items)) c.deref.ensures.value ∙ sym (parameters-piled (things_of old) (in_hand old.draft)) in
    let count : IsCount new.scope (Body ∷ pile_of old) =
    count-params new.scope _ _ (pile_of old) c.requires.fits.0.good (ap (λ s. s.is_body) scope) (ap (λ s. s.nodes) scope) (ap (λ s. s.calls) scope) params in (
      ap Goes (sym (work-begun old new held.Body Body is begins things)),
      sound-begun old new held.Body Body is begins things c.requires.fits.0 c.requires.fits.0.good count,
    )
