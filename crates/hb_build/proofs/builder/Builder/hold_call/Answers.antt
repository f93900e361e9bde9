use Rattle.std.proofs.Common.{ℕ, ◌≡◌, ◌<◌, ◌∷◌, ◌++◌, [], length, sym, ap, ◌∙◌, subst}
use Rattle.std.proofs.{lemmas.Option.slice_get_within, lemmas.Bool.cond-false}
use Rattle.hb_build.proofs.{SpellingLemmas.IsName-of_kind, GoodLemmas.sound-name, GoodLemmas.work-name, LightLemmas.light-called, ScopeLemmas.count-called, ScopeLemmas.few-called}
use Rattle.hb_build.specs.{Acts.push, Acts.numbered, Acts.Goes, Pile.Called}
use Rattle.hb_build.specs.Sound.{IsSound, IsCount, work_of, pile_of}
use Rattle.hb_build.specs.declared.held.Held.TheVariants as held
use Rattle.hb_build.specs.declared.builder.Builder.{Builder}
use Rattle.hb_build.proofs.PushLemmas.{IsLight, KeepsRest, sound-over, work-over}
use Rattle.hb_build.proofs.builder.Builder.hold_call.Goals as goal

pub name-requires-clause-word : goal.name-requires-clause-word
name-requires-clause-word c = IsName-of_kind c.args.bytes.now c.requires.token

pub returns : goal.returns
returns c =
    let old = c.args.self.now in
    let named : Builder = record old { draft = c.name.new.self } in
    let counted : Builder = c.calls.new.self in
    let new : Builder = record counted { held = c.push.new.self } in
    let x = c.in_ok-name.name in
    let thing = held.Called x c.args.spot in
    let slot = Called x.0 c.args.spot in
    let sound : IsSound named = sound-name old c.name.new.self c.args.bytes.now c.requires.fits.0 c.in_ok-name.ensures.name in
    let same : work_of named ≡ numbered c.args.bytes.now (work_of old) = work-name old c.name.new.self c.args.bytes.now c.in_ok-name.ensures.name c.in_ok-name.ensures.made in
    let is = c.in_ok-calls.ensures.1 in
    let items : new.held.items ≡ named.held.items ++ thing ∷ [] = c.in_ok-push.ensures.items ∙ ap (λ b. b.held.items ++ thing ∷ []) is in
    let light : IsLight thing slot = light-called x c.args.spot in
    let keeps : KeepsRest named new = record { draft = ap (λ b. b.draft) is; outer = ap (λ b. b.outer) is; declaring = ap (λ b. b.declaring) is; scripts = ap (λ b. b.scripts) is } in
    let known : x.0 < length c.name.new.self.table.names = slice_get_within _ _ _ c.in_ok-name.ensures.number in
    let count : IsCount new.scope (slot ∷ pile_of named) = subst (λ s. IsCount s (slot ∷ pile_of named)) (sym (ap (λ b. b.scope) is))
    (count-called named.scope (pile_of named) x.0 c.args.spot sound.counts.0 c.in_ok-calls.ensures.0) in
    let done : IsSound new = sound-over named new thing slot keeps items light sound (known, sound.good) count in
    let over : work_of new ≡ push slot (work_of named) = work-over named new thing slot keeps items light (ap (λ b. b.depth) is) in
    let call = λ (n : ℕ). push (Called n c.args.spot) (numbered c.args.bytes.now (work_of old)) in
    let few = few-called old.scope (pile_of old) x.0 c.args.spot c.requires.fits.0.counts.0 c.in_ok-calls.ensures.0 in
    (cond-false _ _ _ few ∙ ap Goes (ap call (sym c.in_ok-name.ensures.index) ∙ sym (ap (push slot) same) ∙ sym over), done)
