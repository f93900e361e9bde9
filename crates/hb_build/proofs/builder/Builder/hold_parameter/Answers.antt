use Rattle.std.proofs.Common.{◌≡◌, ◌<◌, ℕ, ◌∷◌, length, reverse, refl, sym, ap, ap₂, ◌∙◌, inl, arith, true, false}
use Rattle.std.specs.{Prelude.nat_le, Prelude.nat_eq, List.list_any}
use Rattle.std.proofs.{lemmas.Option.slice_get_within, lemmas.Bool.cond-true, lemmas.Bool.cond-false, lemmas.Bool.Decides.nat_tests, lemmas.List.length-map}
use Rattle.hb_types.specs.declared.types.TheConstants.{PARAMS_MAX}
use Rattle.hb_draft.specs.Unfinished.{in_hand}
use Rattle.hb_build.proofs.{SpellingLemmas.IsName-of_kind, ScopeLemmas.is_member-numbers, PiledLemmas.parameters-piled, GoodLemmas.sound-name, GoodLemmas.work-name}
use Rattle.hb_build.proofs.{PushLemmas.KeepsRest, PushLemmas.things-over}
use Rattle.hb_build.specs.declared.builder.Builder.{Builder}
use Rattle.hb_build.specs.declared.held.Held.TheVariants as held
use Rattle.hb_build.specs.Pile.{Parameter, parameters_on}
use Rattle.hb_build.specs.Sound.{IsSound, work_of, things_of, pile_of, numbers, parameters_of}
use Rattle.hb_build.specs.Acts.{Work, Goes, number, numbered}
use Rattle.hb_build.proofs.RelaidLemmas.{good-was, sound-becomes, work-becomes}
use Rattle.hb_build.proofs.builder.Builder.hold_parameter.Goals as goal

pub name-requires-clause-word : goal.name-requires-clause-word
name-requires-clause-word c = IsName-of_kind c.args.bytes.now c.requires.token

pub returns-then-contains : goal.returns-then-contains
returns-then-contains c =
    let old : Builder = c.args.self.now in
    let params : numbers c.in_ok-params.params.items ≡ parameters_on (pile_of old) =
    c.in_ok-params.ensures ∙ ap (λ items. parameters_of (reverse items)) c.deref.ensures.value ∙ sym (parameters-piled (things_of old) (in_hand old.draft)) in
    let member : list_any (nat_eq (number c.args.bytes.now (work_of old))) (parameters_on (pile_of old)) ≡ true =
    ap₂ (λ n xs. list_any (nat_eq n) xs) (sym c.in_ok-name.ensures.index) (sym params) ∙ sym (is_member-numbers c.in_ok-params.params.items c.in_ok-name.name)
    ∙ ap (list_any (λ y. nat_eq y.0 c.in_ok-name.name.0)) (sym c.deref-2.ensures.value) ∙ sym c.contains.ensures.value ∙ c.if-contains.true in
    inl (cond-true _ _ _ member)

pub returns-then-len-ge-PARAMS_MAX : goal.returns-then-len-ge-PARAMS_MAX
returns-then-len-ge-PARAMS_MAX c =
    let old : Builder = c.args.self.now in
    let params : numbers c.in_ok-params.params.items ≡ parameters_on (pile_of old) =
    c.in_ok-params.ensures ∙ ap (λ items. parameters_of (reverse items)) c.deref.ensures.value ∙ sym (parameters-piled (things_of old) (in_hand old.draft)) in
    let none : list_any (nat_eq (number c.args.bytes.now (work_of old))) (parameters_on (pile_of old)) ≡ false =
    ap₂ (λ n xs. list_any (nat_eq n) xs) (sym c.in_ok-name.ensures.index) (sym params) ∙ sym (is_member-numbers c.in_ok-params.params.items c.in_ok-name.name)
    ∙ ap (list_any (λ y. nat_eq y.0 c.in_ok-name.name.0)) (sym c.deref-2.ensures.value) ∙ sym c.contains.ensures.value ∙ c.if-contains.false in
    let count : c.len.result ≡ length (parameters_on (pile_of old)) = omega (arith, ap length params, length-map c.in_ok-params.params.items (λ x. x.0)) in
    let full : nat_le PARAMS_MAX (length (parameters_on (pile_of old))) ≡ true = let many = c.if-len-ge-PARAMS_MAX.true in grind (arith, nat_tests) in
    inl (cond-false _ _ _ none ∙ cond-true _ _ _ full)

pub returns : goal.returns
returns c =
    let old : Builder = c.args.self.now in
    let bytes = c.args.bytes.now in
    let named : Builder = record old { draft = c.name.new.self } in
    let new : Builder = record named { held = c.push.new.self } in
    let x = c.in_ok-name.name in
    let hand = in_hand old.draft in
    let params : numbers c.in_ok-params.params.items ≡ parameters_on (pile_of old) =
    c.in_ok-params.ensures ∙ ap (λ items. parameters_of (reverse items)) c.deref.ensures.value ∙ sym (parameters-piled (things_of old) (in_hand old.draft)) in
    let apart : list_any (nat_eq x.0) (parameters_on (pile_of old)) ≡ false =
    ap (λ xs. list_any (nat_eq x.0) xs) (sym params) ∙ sym (is_member-numbers c.in_ok-params.params.items x)
    ∙ ap (list_any (λ y. nat_eq y.0 x.0)) (sym c.deref-2.ensures.value) ∙ sym c.contains.ensures.value ∙ c.if-contains.false in
    let none : list_any (nat_eq (number bytes (work_of old))) (parameters_on (pile_of old)) ≡ false =
    ap (λ n. list_any (nat_eq n) (parameters_on (pile_of old))) (sym c.in_ok-name.ensures.index) ∙ apart in
    let count : c.len.result ≡ length (parameters_on (pile_of old)) = omega (arith, ap length params, length-map c.in_ok-params.params.items (λ x. x.0)) in
    let few = c.if-len-ge-PARAMS_MAX.false in
    let room : nat_le PARAMS_MAX (length (parameters_on (pile_of old))) ≡ false = grind (arith, nat_tests) in
    let kept = c.in_ok-name.ensures.name.hand in
    let sound : IsSound named = sound-name old c.name.new.self bytes c.requires.fits.0 c.in_ok-name.ensures.name in
    let same : work_of named ≡ numbered bytes (work_of old) = work-name old c.name.new.self bytes c.in_ok-name.ensures.name c.in_ok-name.ensures.made in
    let known : x.0 < length c.name.new.self.table.names = slice_get_within _ _ _ c.in_ok-name.ensures.number in
    let keeps : KeepsRest named new = record { draft = refl; outer = refl; declaring = refl; scripts = refl } in
    let after = held.Parameter x ∷ things_of old in
    let things : things_of new ≡ after = things-over new.held.items old.held.items (held.Parameter x) c.in_ok-push.ensures.items in
    let good = good-was named (things_of old) hand refl kept sound in
    let goes = λ (w : Work) (n : ℕ). let v : Work = record w { pile = Parameter n ∷ pile_of old } in v in (
      cond-false _ _ _ none ∙ cond-false _ _ _ room
          ∙ ap Goes (ap₂ goes (sym same) (sym c.in_ok-name.ensures.index) ∙ sym (work-becomes named new after hand keeps refl kept things)),
      sound-becomes named new (things_of old) after hand keeps refl refl kept things sound refl (known, apart, omega (arith, count, few), good)
          (record { body = refl; nodes = refl; calls = refl; names = refl; outer = refl; scopes = refl; pending = refl }),
    )
