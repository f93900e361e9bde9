use Rattle.std.proofs.Common.{◌≡◌, ℕ, ◌<◌, ◌∷◌, List, length, reverse, refl, sym, ap, ap₂, ◌∙◌}
use Rattle.std.proofs.lemmas.Option.{slice_get_within}
use Rattle.hb_draft.specs.Unfinished.{in_hand}
use Rattle.hb_build.proofs.{TakeLemmas.top-class, SpellingLemmas.IsName-of_kind, GoodLemmas.sound-name, GoodLemmas.work-name, PushLemmas.KeepsRest, PushLemmas.things-over}
use Rattle.hb_build.specs.declared.{builder.Builder.Builder, held.Spot.Spot}
use Rattle.hb_build.specs.declared.held.Held.TheVariants as held
use Rattle.hb_build.specs.{Pile.Slot, Pile.Named, Pile.piled, Sound.IsSound, Sound.work_of, Sound.things_of}
use Rattle.hb_build.specs.Acts.{Work, Answer, Goes, with_class, numbered, number}
use Rattle.hb_build.proofs.RelaidLemmas.{pile-was, good-was, sound-becomes, work-becomes}
use Rattle.hb_build.proofs.builder.Builder.name_method.Goals as goal

-- the action over what lies on top
abbrev go : List ℕ → Work → ℕ → Spot → List Slot → Answer
go bytes w c q pile = Goes (record (numbered bytes w) { pile = Named c (number bytes w) ∷ pile })

pub take_class-requires : goal.take_class-requires
take_class-requires c =
    let t = top-class (things_of c.args.self.now) (in_hand c.args.self.now.draft) (go c.args.bytes.now (work_of c.args.self.now)) c.requires.fits.1 in
    (t.1, t.2, t.0, t.3)

pub name-requires-clause-word : goal.name-requires-clause-word
name-requires-clause-word c = IsName-of_kind c.args.bytes.now c.requires.token

pub returns : goal.returns
returns c =
    let old : Builder = c.args.self.now in
    let bytes = c.args.bytes.now in
    let named : Builder = record old { draft = c.name.new.self } in
    let new : Builder = record named { held = c.push.new.self } in
    let class = c.take_class.result.0 in
    let x = c.in_ok-name.name in
    let rest = reverse c.take_class.new.held.items in
    let before = held.Class class c.take_class.result.1 ∷ rest in
    let after = held.Named class x ∷ rest in
    let hand = in_hand old.draft in
    let kept = c.in_ok-name.ensures.name.hand in
    let sound : IsSound named = sound-name old c.name.new.self bytes c.requires.fits.0 c.in_ok-name.ensures.name in
    let same : work_of named ≡ numbered bytes (work_of old) = work-name old c.name.new.self bytes c.in_ok-name.ensures.name c.in_ok-name.ensures.made in
    let known : x.0 < length c.name.new.self.table.names = slice_get_within _ _ _ c.in_ok-name.ensures.number in
    let keeps : KeepsRest named new = record { draft = refl; outer = refl; declaring = refl; scripts = refl } in
    let things : things_of new ≡ after = things-over new.held.items c.take_class.new.held.items (held.Named class x) c.in_ok-push.ensures.items in
    let good = good-was named before hand c.take_class.ensures kept sound in
    let goes = λ (w : Work) (n : ℕ). let v : Work = record w { pile = Named class.0 n ∷ piled rest hand } in v in (
      ap (λ pile. with_class pile (go bytes (work_of old))) (pile-was old before hand c.take_class.ensures refl)
          ∙ ap Goes (ap₂ goes (sym same) (sym c.in_ok-name.ensures.index) ∙ sym (work-becomes named new after hand keeps refl kept things)),
      sound-becomes named new before after hand keeps refl c.take_class.ensures kept things sound refl (good.0, known, good.1)
          (record { body = refl; nodes = refl; calls = refl; names = refl; outer = refl; scopes = refl; pending = refl }),
    )
