use Rattle.std.proofs.Common.{ℕ, ◌≡◌, ◌<◌, length, refl, sym, ap, ◌∙◌}
use Rattle.std.proofs.{lemmas.Option.slice_get_within, lemmas.Bool.cond-false}
use Rattle.hb_build.proofs.{SpellingLemmas.IsName-of_kind, GoodLemmas.sound-name, GoodLemmas.work-name}
use Rattle.hb_build.specs.{Acts.push, Acts.numbered, Acts.Goes, Pile.Word, Sound.IsSound, Sound.work_of, Sound.pile_of}
use Rattle.hb_build.specs.declared.held.Held.TheVariants as held
use Rattle.hb_build.specs.declared.builder.Builder.{Builder}
use Rattle.hb_build.proofs.PushLemmas.{IsLight, KeepsRest, sound-over, work-over}
use Rattle.hb_build.proofs.LightLemmas.{light-word, quiet-word, count-over}
use Rattle.hb_build.proofs.builder.Builder.hold_name.Goals as goal

pub name-requires-clause-word : goal.name-requires-clause-word
name-requires-clause-word c = IsName-of_kind c.args.bytes.now c.requires.token

pub returns : goal.returns
returns c =
    let named : Builder = record c.args.self.now { draft = c.name.new.self } in
    let new : Builder = record named { held = c.push.new.self } in
    let sound : IsSound named = sound-name c.args.self.now c.name.new.self c.args.bytes.now c.requires.fits.0 c.in_ok-name.ensures.name in
    let same : work_of named ≡ numbered c.args.bytes.now (work_of c.args.self.now) =
    work-name c.args.self.now c.name.new.self c.args.bytes.now c.in_ok-name.ensures.name c.in_ok-name.ensures.made in
    let x = c.in_ok-name.name in
    let thing = held.Word x c.args.spot in
    let slot = Word x.0 c.args.spot in
    let light : IsLight thing slot = light-word x c.args.spot in
    let keeps : KeepsRest named new = record { draft = refl; outer = refl; declaring = refl; scripts = refl } in
    let known : x.0 < length c.name.new.self.table.names = slice_get_within _ _ _ c.in_ok-name.ensures.number in
    let done : IsSound new = sound-over named new thing slot keeps c.in_ok-push.ensures.items light sound (known, sound.good) (count-over named.scope slot (pile_of named) (quiet-word x.0 c.args.spot) sound.counts.0) in
    let over : work_of new ≡ push slot (work_of named) = work-over named new thing slot keeps c.in_ok-push.ensures.items light refl in
    let word = λ (n : ℕ). push (Word n c.args.spot) (numbered c.args.bytes.now (work_of c.args.self.now)) in
    (cond-false _ _ _ c.in_ok-begins.ensures ∙ ap Goes (ap word (sym c.in_ok-name.ensures.index) ∙ sym (ap (push slot) same) ∙ sym over), done)
