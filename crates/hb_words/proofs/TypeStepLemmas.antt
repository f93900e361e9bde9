-- What the steps on a type word owe.
use Rattle.std.proofs.Common.{◌≡◌, ℕ, ◌+◌, ◌-◌, ◌%◌, ◌^◌, ◌<◌, eqb, true, false, [], ◌∷◌, ◌++◌, length, get_or, sym, refl, ap, ◌∙◌, subst, arith}
use mathlib.Core.Logic.{dite}
use mathlib.Core.Option.{some, none}
use native.Mathlib.Decide.{ℕ_discrete}
use lib.ListN.{get_elem?}
use prog.Atomic.{either}
use Rattle.atomic_table.specs.Table.{Step, step, Allows}
use Rattle.atomic_table.proofs.Lists.{exchanged}
use Rattle.hb_types.specs.declared.{ids.KeyId.KeyId, ids.CallNo.CallNo, ids.TypeSite.TypeSite}
use Rattle.hb_tree.specs.declared.limits.TheConstants.{TYPES_MAX}
use Rattle.hb_names.specs.declared.names.TheConstants.{NAMES_MAX}
use Rattle.hb_tables.specs.declared.{entry.Act.Act, entry.TheConstants.HOLDS_MAX}
use Rattle.hb_tables.specs.declared.entry.Act.TheVariants.{Hold, Free, Retype, Busy, WornType}
use Rattle.hb_tables.specs.History.{Spot, Sound, spot, key_of, done, entry, times, of_caller, FitsAct}
use Rattle.hb_tables.proofs.CallLemmas.{length_without}
use Rattle.hb_words.specs.Layout.{type_word, def_word, type_at, pins_in, ty_in, changes_in, retyped_word}
use Rattle.hb_words.specs.Words.{Kept, seeing, Extends}
use Rattle.hb_words.specs.Steps.{TableState, Seated, held, freed, type_looked, retyped}
use Rattle.hb_words.proofs.WordLemmas.{sound_ty, sound_changes, sound_pins}
use Rattle.hb_words.proofs.RuleLemmas.{CanEnd, types_more, enters, sees, limit_now, own_now, few_now, is_sound, pins_fit}

module _ (limit slots id : ℕ) (me : Seated) (key : KeyId) (inside : key.0 < NAMES_MAX) (live : me.0.live ≡ true) (still : me.0.shut ≡ false) where
  abbrev word : ℕ
  word = type_at key.0

  -- what the word says before the step
  module _ (s : TableState) (r : Kept limit s) (at : get_elem? s.views id ≡ some me.0) where
    abbrev found : ℕ
    found = get_or s.words word 0

    abbrev now : Spot
    now = spot key.0 r.log

    found_is : found ≡ type_word now
    found_is = r.words.types key.0 inside

    pins_are : pins_in found ≡ length now.calls
    pins_are = ap pins_in found_is ∙ sound_pins limit now (is_sound limit s r key.0) r.low (pins_fit limit s r key.0)

    ty_is : ty_in found ≡ now.ty
    ty_is = ap ty_in found_is ∙ sound_ty limit now (is_sound limit s r key.0) r.low (pins_fit limit s r key.0)

    changes_are : changes_in found ≡ now.changes
    changes_are = ap changes_in found_is ∙ sound_changes limit now (is_sound limit s r key.0) r.low (pins_fit limit s r key.0)

    -- a step that leaves n in the word, with an entry of the key
    leaves : (act : Act) → key.0 ≡ key_of act → FitsAct limit me.0.caller (spot (key_of act) r.log) act → (n : ℕ) → n ≡ type_word (done me.0.caller (spot (key_of act) r.log) act)
        → def_word (spot (key_of act) r.log) ≡ def_word (done me.0.caller (spot (key_of act) r.log) act)
        → (then : ℕ → Seated → Type 0) → (Extends me.0 act (seeing me.0 (r.log ++ entry me.0.caller act ∷ [])) → then found (seeing me.0 (r.log ++ entry me.0.caller act ∷ []), me.1))
        → CanEnd limit s id me word n then
    leaves act same fits n is def then tells = enters limit s r id me at live still act fits word n (types_more r.log s.words (entry me.0.caller act) key.0 n r.words same inside is def) then tells

    -- a look at the word, whatever was tried
    type_look : (st : Step (Unit {0})) → CanEnd limit s id me word found (type_looked key st me)
    type_look st = dite (ℕ_discrete (pins_in found) 0)
        (λ free. dite (ℕ_discrete (changes_in found) me.0.limit)
        (λ worn. leaves (WornType key) refl (sym pins_are ∙ free, sym changes_are ∙ (worn ∙ limit_now limit s r id me at live)) found found_is refl (type_looked key st me)
        (λ e. (refl, (λ pinned. absurd (pinned free)), (λ _ _. e), λ _ more. absurd (more worn))))
        (λ more. sees limit s r id me at live word (type_looked key st me) (λ seen. (
          refl,
          (λ pinned. absurd (pinned free)),
          (λ _ worn. absurd (more worn)),
          λ _ _. (seen, found_is, sym pins_are ∙ free, (let l = limit_now limit s r id me at live in let c = (is_sound limit s r key.0).changes in let e = changes_are in omega arith)),
        ))))
        (λ pinned. leaves (Busy key (pins_in found)) refl (pins_are, omega arith) found found_is refl (type_looked key st me)
        (λ e. (refl, (λ _. e), (λ free. absurd (pinned free)), λ free. absurd (pinned free))))

  pub holds : (q : CallNo) → times (me.0.caller, q.0) (spot key.0 me.0.seen).calls ≡ 0 → length (of_caller me.0.caller (spot key.0 me.0.seen).calls) < HOLDS_MAX
      → Allows (Kept limit) slots id me word (λ n. (n + 1) % 2 ^ 64) (held q key (step slots word 1 0 none) me)
  holds q unheld few s r _ at _ =
      let n = found s r at in let x : Spot = now s r at in let act : Act = Hold key q (ty_in n) (changes_in n) in
      let sd : Sound limit x = is_sound limit s r key.0 in
      let fits : FitsAct limit me.0.caller x act = (
        ty_is s r at,
        changes_are s r at,
        own_now limit s r id me at live key.0 q.0 ∙ unheld,
        subst (λ w. length w < HOLDS_MAX) (sym (few_now limit s r id me at live key.0)) few,
      ) in
      let more : (n + 1) % 2 ^ 64 ≡ type_word (done me.0.caller x act) =
      (let i = found_is s r at in let c = sd.changes in let t = sd.ty in let l = r.low in let p = pins_fit limit s r key.0 in omega arith) in
      leaves s r at act refl fits ((n + 1) % 2 ^ 64) more refl (held q key (step slots word 1 0 none) me)
      (λ e. (e, refl, (let i = changes_are s r at in let c = sd.changes in let l = r.low in omega arith)))

  pub frees : (q : CallNo) → times (me.0.caller, q.0) (spot key.0 me.0.seen).calls ≡ 1
      → Allows (Kept limit) slots id me word (λ n. (n + (2 ^ 64 - 1)) % 2 ^ 64) (freed q key (step slots word 1 0 none) me)
  frees q has s r _ at _ =
      let n = found s r at in let x : Spot = now s r at in let act : Act = Free key q in
      let sd : Sound limit x = is_sound limit s r key.0 in
      let fits : FitsAct limit me.0.caller x act = own_now limit s r id me at live key.0 q.0 ∙ has in
      let one = length_without (me.0.caller, q.0) x.calls in
      let less : (n + (2 ^ 64 - 1)) % 2 ^ 64 ≡ type_word (done me.0.caller x act) =
      (let i = found_is s r at in let c = sd.changes in let t = sd.ty in let l = r.low in let p = pins_fit limit s r key.0 in let f = fits in omega arith) in
      leaves s r at act refl fits ((n + (2 ^ 64 - 1)) % 2 ^ 64) less refl (freed q key (step slots word 1 0 none) me) (λ e. (e, refl))

  pub looks_at_type : Allows (Kept limit) slots id me word (λ n. n) (type_looked key (step slots word 0 0 none) me)
  looks_at_type s r _ at _ = type_look s r at (step slots word 0 0 none)

  pub retypes : (site : TypeSite) (old new : ℕ) → site.0 < TYPES_MAX → pins_in old ≡ 0 → changes_in old < me.0.limit → new ≡ retyped_word site old
      → Allows (Kept limit) slots id me word (λ n. either (eqb n old) new n) (retyped key site (step slots word old new none) me)
  retypes site old new small free room is s r _ at _ =
      let st = step slots word old new none in
      exchanged (found s r at) old new (λ m. CanEnd limit s id me word m (retyped key site st me))
      (λ hit. let act : Act = Retype key site in let x : Spot = now s r at in
      let same : changes_in old ≡ x.changes = sym (ap changes_in hit) ∙ changes_are s r at in
      let fits : FitsAct limit me.0.caller x act = (sym (pins_are s r at) ∙ (ap pins_in hit ∙ free), (let l = limit_now limit s r id me at live in omega arith), small) in
      leaves s r at act refl fits new (let f = fits in omega arith) refl (retyped key site st me) (λ e. ((λ _. (refl, e)), λ miss. absurd (miss hit))))
      (λ miss. let t = type_look s r at st in (t.0, t.1, t.2, t.3, ((λ hit. absurd (miss hit)), λ _. t.4)))
