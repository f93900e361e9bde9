use Rattle.std.proofs.Common.{◌≡◌, ◌<◌, ℕ, ◌∷◌, length, refl, sym, ap, ap₂, ◌∙◌, inl, arith, true, false}
use Rattle.std.specs.{Prelude.nat_le, Prelude.nat_eq, List.list_any}
use Rattle.std.proofs.{lemmas.Option.slice_get_within, lemmas.Bool.cond-true, lemmas.Bool.cond-false, lemmas.Bool.Decides.nat_tests, lemmas.List.length-map}
use Rattle.hb_tree.specs.declared.limits.TheConstants.{SCRIPTS_MAX}
use Rattle.hb_draft.specs.Unfinished.{scripts_in}
use Rattle.hb_build.proofs.{SpellingLemmas.IsName-of_kind, GoodLemmas.sound-name, GoodLemmas.work-name, PushLemmas.things-over, ScriptLemmas.any-named}
use Rattle.hb_build.specs.declared.builder.Builder.{Builder}
use Rattle.hb_build.specs.declared.held.Held.TheVariants as held
use Rattle.hb_build.specs.Pile.{Script}
use Rattle.hb_build.specs.Sound.{IsSound, IsCount, work_of, things_of, pile_of}
use Rattle.hb_build.specs.Acts.{Work, Goes, number, numbered, push}
use Rattle.hb_build.proofs.BegunLemmas.{IsMark, Begins, sound-begun, work-begun, count-empty}
use Rattle.hb_build.proofs.builder.Builder.begin_script.Goals as goal

pub name-requires-clause-word : goal.name-requires-clause-word
name-requires-clause-word c = IsName-of_kind c.args.bytes.now c.requires.token

pub returns-then-contains : goal.returns-then-contains
returns-then-contains c =
    let old : Builder = c.args.self.now in
    let member : list_any (λ s. nat_eq (number c.args.bytes.now (work_of old)) s.0) (scripts_in old.draft.table) ≡ true =
    ap (λ n. list_any (λ s. nat_eq n s.0) (scripts_in old.draft.table)) (sym c.in_ok-name.ensures.index)
    ∙ any-named c.in_ok-name.name old.scripts.items (scripts_in old.draft.table) c.requires.fits.0.named
    ∙ ap (list_any (λ y. nat_eq y.0 c.in_ok-name.name.0)) (sym c.deref.ensures.value) ∙ sym c.contains.ensures.value ∙ c.if-contains.true in
    inl (cond-true _ _ _ member)

pub returns-then-len-ge-SCRIPTS_MAX : goal.returns-then-len-ge-SCRIPTS_MAX
returns-then-len-ge-SCRIPTS_MAX c =
    let old : Builder = c.args.self.now in
    let none : list_any (λ s. nat_eq (number c.args.bytes.now (work_of old)) s.0) (scripts_in old.draft.table) ≡ false =
    ap (λ n. list_any (λ s. nat_eq n s.0) (scripts_in old.draft.table)) (sym c.in_ok-name.ensures.index)
    ∙ any-named c.in_ok-name.name old.scripts.items (scripts_in old.draft.table) c.requires.fits.0.named
    ∙ ap (list_any (λ y. nat_eq y.0 c.in_ok-name.name.0)) (sym c.deref.ensures.value) ∙ sym c.contains.ensures.value ∙ c.if-contains.false in
    let count : length old.scripts.items ≡ length (scripts_in old.draft.table) =
    omega (arith, length-map old.scripts.items (λ x. x.0), length-map (scripts_in old.draft.table) (λ s. s.0), ap length c.requires.fits.0.named) in
    let many = c.if-len-ge-SCRIPTS_MAX.true in
    let full : nat_le SCRIPTS_MAX (length (scripts_in old.draft.table)) ≡ true = grind (arith, nat_tests) in
    inl (cond-false _ _ _ none ∙ cond-true _ _ _ full)

pub returns : goal.returns
returns c =
    let old : Builder = c.args.self.now in
    let bytes = c.args.bytes.now in
    let named : Builder = record old { draft = c.name.new.self } in
    let begun : Builder = c.begin_scope.new.self in
    let new : Builder = record begun { held = c.push.new.self } in
    let x = c.in_ok-name.name in
    let none : list_any (λ s. nat_eq (number bytes (work_of old)) s.0) (scripts_in old.draft.table) ≡ false =
    ap (λ n. list_any (λ s. nat_eq n s.0) (scripts_in old.draft.table)) (sym c.in_ok-name.ensures.index)
    ∙ any-named x old.scripts.items (scripts_in old.draft.table) c.requires.fits.0.named
    ∙ ap (list_any (λ y. nat_eq y.0 x.0)) (sym c.deref.ensures.value) ∙ sym c.contains.ensures.value ∙ c.if-contains.false in
    let count : length old.scripts.items ≡ length (scripts_in old.draft.table) =
    omega (arith, length-map old.scripts.items (λ x. x.0), length-map (scripts_in old.draft.table) (λ s. s.0), ap length c.requires.fits.0.named) in
    let few = c.if-len-ge-SCRIPTS_MAX.false in
    let room : nat_le SCRIPTS_MAX (length (scripts_in old.draft.table)) ≡ false = grind (arith, nat_tests) in
    let sound : IsSound named = sound-name old c.name.new.self bytes c.requires.fits.0 c.in_ok-name.ensures.name in
    let same : work_of named ≡ numbered bytes (work_of old) = work-name old c.name.new.self bytes c.in_ok-name.ensures.name c.in_ok-name.ensures.made in
    let known : x.0 < length c.name.new.self.table.names = slice_get_within _ _ _ c.in_ok-name.ensures.number in
    let rest = c.in_ok-begin_scope.ensures.rest in
    let scope = c.in_ok-begin_scope.ensures.scope in
    let is : IsMark (held.Script x) (Script x.0) = record { lies = λ things hand. refl; trees = λ things. refl; scopes = λ pile. refl; marks_are = λ pile. refl; pending = λ pile. refl } in
    let begins : Begins named new = record {
      draft = ap (λ b. b.draft) rest;
      outer = c.in_ok-begin_scope.ensures.outer;
      declaring = ap (λ b. b.declaring) rest;
      scripts = ap (λ b. b.scripts) rest;
      depth = ap (λ b. b.depth) rest;
    } in
    let things : things_of new ≡ held.Script x ∷ things_of named =
    things-over new.held.items begun.held.items (held.Script x) c.in_ok-push.ensures.items ∙ ap (λ (b : Builder). held.Script x ∷ things_of b) rest in
    let scope_counts : IsCount new.scope (Script x.0 ∷ pile_of named) =
    count-empty new.scope (Script x.0 ∷ pile_of named) (ap (λ s. s.is_body) scope) refl (ap (λ s. s.variables.items) scope ∙ c.new.ensures.items) refl in
    let goes = λ (n : ℕ) (w : Work). push (Script n) w in (
      cond-false _ _ _ none ∙ cond-false _ _ _ room
          ∙ ap Goes (ap₂ goes (sym c.in_ok-name.ensures.index) (sym same) ∙ sym (work-begun named new (held.Script x) (Script x.0) is begins things)),
      sound-begun named new (held.Script x) (Script x.0) is begins things sound (known, sound.good) scope_counts,
    )
