use Rattle.std.proofs.Common.{◌≡◌, ◌∷◌, List, length, reverse, refl, sym, ap, ◌∙◌, inl, arith, true, false}
use Rattle.std.specs.Prelude.{nat_le}
use Rattle.std.proofs.{lemmas.Bool.cond-true, lemmas.Bool.cond-false, lemmas.Bool.Decides.nat_tests}
use Rattle.hb_types.specs.declared.{types.Ty.Ty, types.TheConstants.PARAMS_MAX}
use Rattle.hb_draft.specs.Unfinished.{in_hand}
use Rattle.hb_build.proofs.{TakeLemmas.top-type, PiledLemmas.types-piled, PushLemmas.KeepsRest, PushLemmas.things-over}
use Rattle.hb_build.specs.declared.{builder.Builder.Builder, held.Spot.Spot}
use Rattle.hb_build.specs.declared.held.Held.TheVariants as held
use Rattle.hb_build.specs.declared.faults.ParseFail.TheVariants as fail
use Rattle.hb_build.specs.declared.faults.Limit.TheVariants as limit
use Rattle.hb_build.specs.Pile.{Slot, ParameterType, piled, types_on}
use Rattle.hb_build.specs.Sound.{work_of, things_of, parameter_types_of}
use Rattle.hb_build.specs.Acts.{Work, Answer, Goes, with_type, fails_if}
use Rattle.hb_build.proofs.RelaidLemmas.{pile-was, good-was, sound-becomes, work-becomes}
use Rattle.hb_build.proofs.builder.Builder.add_parameter_type.Goals as goal

-- the action over what lies on top
abbrev go : Spot → Work → Ty → List Slot → Answer
go p w y pile = fails_if (nat_le PARAMS_MAX (length (types_on pile))) (fail.TooMany limit.Parameters p.at) (Goes (record w { pile = ParameterType y ∷ pile }))

pub take_type-ty-requires : goal.take_type-ty-requires
take_type-ty-requires c =
    let t = top-type (things_of c.args.self.now) (in_hand c.args.self.now.draft) (go c.args.spot (work_of c.args.self.now)) c.requires.fits.1 in
    (t.1, t.0, t.2)

pub returns-then-len-ge-PARAMS_MAX : goal.returns-then-len-ge-PARAMS_MAX
returns-then-len-ge-PARAMS_MAX c =
    let old : Builder = c.args.self.now in
    let rest = reverse c.take_type-ty.new.held.items in
    let hand = in_hand old.draft in
    let before = held.Type c.take_type-ty.result ∷ rest in
    let types : c.in_ok-parameter_types.field-0.items ≡ types_on (piled rest hand) =
    c.in_ok-parameter_types.ensures ∙ ap (λ items. parameter_types_of (reverse items)) c.deref.ensures.value ∙ sym (types-piled rest hand) in
    let count : c.len.result ≡ length (types_on (piled rest hand)) = omega (arith, ap length types) in
    let full : nat_le PARAMS_MAX (length (types_on (piled rest hand))) ≡ true = let many = c.if-len-ge-PARAMS_MAX.true in grind (arith, nat_tests) in
    inl (ap (λ pile. with_type pile (go c.args.spot (work_of old))) (pile-was old before hand c.take_type-ty.ensures refl) ∙ cond-true _ _ _ full)

pub returns : goal.returns
returns c =
    let old : Builder = c.args.self.now in
    let new : Builder = record old { held = c.push.new.self } in
    let rest = reverse c.take_type-ty.new.held.items in
    let hand = in_hand old.draft in
    let before = held.Type c.take_type-ty.result ∷ rest in
    let after = held.ParameterType c.take_type-ty.result ∷ rest in
    let types : c.in_ok-parameter_types.field-0.items ≡ types_on (piled rest hand) =
    c.in_ok-parameter_types.ensures ∙ ap (λ items. parameter_types_of (reverse items)) c.deref.ensures.value ∙ sym (types-piled rest hand) in
    let count : c.len.result ≡ length (types_on (piled rest hand)) = omega (arith, ap length types) in
    let few = c.if-len-ge-PARAMS_MAX.false in
    let room : nat_le PARAMS_MAX (length (types_on (piled rest hand))) ≡ false = grind (arith, nat_tests) in
    let keeps : KeepsRest old new = record { draft = refl; outer = refl; declaring = refl; scripts = refl } in
    let things : things_of new ≡ after = things-over new.held.items c.take_type-ty.new.held.items (held.ParameterType c.take_type-ty.result) c.in_ok-push.ensures.items in
    let good = good-was old before hand c.take_type-ty.ensures refl c.requires.fits.0 in (
      ap (λ pile. with_type pile (go c.args.spot (work_of old))) (pile-was old before hand c.take_type-ty.ensures refl) ∙ cond-false _ _ _ room
          ∙ ap Goes (sym (work-becomes old new after hand keeps refl refl things)),
      sound-becomes old new before after hand keeps refl c.take_type-ty.ensures refl things c.requires.fits.0 refl (good.0, omega (arith, count, few), good.1)
          (record { body = refl; nodes = refl; calls = refl; names = refl; outer = refl; scopes = refl; pending = refl }),
    )
