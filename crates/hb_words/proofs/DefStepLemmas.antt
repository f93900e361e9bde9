-- What the steps on a def word owe.
use Rattle.std.proofs.Common.{◌≡◌, ℕ, ◌<◌, eqb, true, false, List, [], ◌∷◌, ◌++◌, get_or, sym, refl, ap, ◌∙◌, subst, arith}
use mathlib.Core.Logic.{dite}
use mathlib.Core.Option.{some, none}
use mathlib.Core.List.{IsPrefix}
use native.Mathlib.Decide.{ℕ_discrete}
use lib.ListN.{get_elem?}
use prog.Atomic.{either}
use Rattle.atomic_table.specs.Table.{Step, step, Allows}
use Rattle.atomic_table.proofs.Lists.{exchanged}
use Rattle.hb_types.specs.declared.{ids.KeyId.KeyId, ids.CallNo.CallNo, ids.BodySite.BodySite}
use Rattle.hb_names.specs.declared.names.TheConstants.{NAMES_MAX}
use Rattle.hb_tables.specs.declared.{entry.Entry.Entry, entry.ArgKinds.ArgKinds, entry.Verdict.Verdict, entry.Act.Act, entry.TheConstants.BODIES_MAX, desk.Look.Look}
use Rattle.hb_tables.specs.declared.entry.Act.TheVariants.{Define, WornDef, Call}
use Rattle.hb_tables.specs.History.{Spot, spot, key_of, done, entry, FitsAct}
use Rattle.hb_tables.specs.Answers.{IsLookAt}
use Rattle.hb_tables.proofs.HistoryLemmas.{redefs_grow, redefs_same}
use Rattle.hb_words.specs.Layout.{type_word, def_word, def_at, body_in, redefs_in, redefined_word, IsDefWord}
use Rattle.hb_words.specs.Words.{Kept, seeing, Extends}
use Rattle.hb_words.specs.Steps.{TableState, Seated, def_looked, def_tried, redefined, decided}
use Rattle.hb_words.proofs.WordLemmas.{sound_body, sound_redefs}
use Rattle.hb_words.proofs.BeginningLemmas.{prefix_trans}
use Rattle.hb_words.proofs.RuleLemmas.{CanEnd, defs_more, words_same, unchanged, enters, sees, limit_now, front_now, is_sound}

module _ (limit slots id : ℕ) (me : Seated) (key : KeyId) (inside : key.0 < NAMES_MAX) (live : me.0.live ≡ true) (still : me.0.shut ≡ false) where
  abbrev word : ℕ
  word = def_at key.0

  -- what the word says before the step
  module _ (s : TableState) (r : Kept limit s) (at : get_elem? s.views id ≡ some me.0) where
    abbrev found : ℕ
    found = get_or s.words word 0

    abbrev now : Spot
    now = spot key.0 r.log

    found_is : found ≡ def_word now
    found_is = r.words.defs key.0 inside

    body_is : body_in found ≡ now.body
    body_is = ap body_in found_is ∙ sound_body limit now (is_sound limit s r key.0)

    redefs_are : redefs_in found ≡ now.redefs
    redefs_are = ap redefs_in found_is ∙ sound_redefs limit now (is_sound limit s r key.0)

    small : IsDefWord found
    small = let c = (is_sound limit s r key.0).redefs in let b = (is_sound limit s r key.0).body in let l = r.low in let e = redefs_are in let f = found_is in (omega arith, omega arith)

    -- a step that leaves n in the word, with an entry of the key
    leaves : (act : Act) → key.0 ≡ key_of act → FitsAct limit me.0.caller (spot (key_of act) r.log) act → (n : ℕ) → n ≡ def_word (done me.0.caller (spot (key_of act) r.log) act)
        → type_word (spot (key_of act) r.log) ≡ type_word (done me.0.caller (spot (key_of act) r.log) act)
        → (then : ℕ → Seated → Type 0) → (Extends me.0 act (seeing me.0 (r.log ++ entry me.0.caller act ∷ [])) → then found (seeing me.0 (r.log ++ entry me.0.caller act ∷ []), me.1))
        → CanEnd limit s id me word n then
    leaves act same fits n is type then tells = enters limit s r id me at live still act fits word n (defs_more r.log s.words (entry me.0.caller act) key.0 n r.words same inside is type) then tells

    -- a look at the word, whatever was tried
    def_try : (st : Step (Unit {0})) → CanEnd limit s id me word found (def_tried key st me)
    def_try st = dite (ℕ_discrete (redefs_in found) me.0.limit)
        (λ worn. leaves (WornDef key) refl (sym redefs_are ∙ (worn ∙ limit_now limit s r id me at live)) found found_is refl (def_tried key st me) (λ e. (refl, (λ _. e), λ more. absurd (more worn))))
        (λ more. sees limit s r id me at live word (def_tried key st me) (λ seen. (
          refl,
          (λ worn. absurd (more worn)),
          λ _. (seen, found_is, (let l = limit_now limit s r id me at live in let c = (is_sound limit s r key.0).redefs in let e = redefs_are in omega arith)),
        )))

  pub looks_at_def : Allows (Kept limit) slots id me word (λ n. n) (def_looked key (step slots word 0 0 none) me)
  looks_at_def s r _ at _ = sees limit s r id me at live word (def_looked key (step slots word 0 0 none) me) (λ seen. (refl, seen, (body_is s r at, redefs_are s r at), small s r at))

  pub tries_def : Allows (Kept limit) slots id me word (λ n. n) (def_tried key (step slots word 0 0 none) me)
  tries_def s r _ at _ = def_try s r at (step slots word 0 0 none)

  pub redefines : (site : BodySite) (old new : ℕ) → site.0 < BODIES_MAX → redefs_in old < me.0.limit → new ≡ redefined_word site old
      → Allows (Kept limit) slots id me word (λ n. either (eqb n old) new n) (redefined key site (step slots word old new none) me)
  redefines site old new inside_all room is s r _ at _ =
      let st = step slots word old new none in
      exchanged (found s r at) old new (λ m. CanEnd limit s id me word m (redefined key site st me))
      (λ hit. let act : Act = Define key site in
      let same : redefs_in old ≡ (now s r at).redefs = sym (ap redefs_in hit) ∙ redefs_are s r at in
      leaves s r at act refl ((let l = limit_now limit s r id me at live in omega arith), inside_all) new (let e = same in omega arith) refl (redefined key site st me)
      (λ e. ((λ _. (refl, e)), λ miss. absurd (miss hit))))
      (λ miss. let t = def_try s r at st in (t.0, t.1, t.2, t.3, ((λ hit. absurd (miss hit)), λ _. t.4)))

  -- here the key is the owner's
  pub decides : (q : CallNo) (called : KeyId) (look : Look) (args : ArgKinds) (verdict : Verdict) (before : List Entry) → IsPrefix before me.0.seen → IsLookAt key.0 look before
      → Allows (Kept limit) slots id me word (λ n. n) (decided q called key look args verdict (step slots word 0 0 none) me)
  decides q called look args verdict before begins true_there s r _ at _ =
      let tells = decided q called key look args verdict (step slots word 0 0 none) me in
      let front = front_now limit s r id me at live in
      let begins_all : IsPrefix before r.log = prefix_trans before me.0.seen r.log begins front.0 in
      dite (ℕ_discrete (redefs_in (found s r at)) look.changes)
      (λ same. let act : Act = Call called q look.site args verdict in let e : Entry = entry me.0.caller act in
      let count : (spot key.0 r.log).redefs ≡ (spot key.0 before).redefs = sym (redefs_are s r at) ∙ (same ∙ true_there.1) in
      let still_true : IsLookAt key.0 look r.log = (true_there.0 ∙ sym (redefs_same key.0 before r.log begins_all count), true_there.1 ∙ sym count) in
      enters limit s r id me at live still act tt word (found s r at) (unchanged (r.log ++ e ∷ []) s.words word (words_same r.log s.words e r.words refl)) tells
      (λ goes. (
        refl,
        small s r at,
        (λ _. ((front.0.0, ap (λ w. w ++ e ∷ []) (sym front.0.1), front.1, subst (IsLookAt key.0 look) (sym front.0.1) still_true), goes.1, goes.2)),
        λ other. absurd (other same),
      )))
      (λ other. sees limit s r id me at live word tells (λ seen. (
        refl,
        small s r at,
        (λ same. absurd (other same)),
        λ _. ((seen.0, (body_is s r at, redefs_are s r at), (let g = redefs_grow key.0 before r.log begins_all in let c = redefs_are s r at in let l = true_there.1 in omega arith)), seen.1, seen.2),
      )))
