-- Where a script stopped with Full, all names are known by the end of its turn, also among the turns of scripts alone.
use Rattle.std.proofs.Common.{◌≡◌, ◌⊎◌, inl, inr, ℕ, ◌+◌, Bool, true, false, List, [], ◌∷◌, ◌++◌, length, length-append, Option, Some, None}
use Rattle.std.proofs.Common.{refl, sym, ap, ◌∙◌, subst, arith, append_assoc, eqb, eq-eqb}
use Rattle.std.specs.Prelude.{slice_get, if◌then◌else◌}
use Rattle.std.proofs.lemmas.List.{append-nil}
use Rattle.hb_tree.specs.Table.{Table}
use Rattle.hb_names.specs.Names.{Name}
use Rattle.hb_names.proofs.NameLemmas.{place-first, with_name-known}
use Rattle.hb_tables.specs.declared.entry.Act.{Act}
use Rattle.hb_tables.specs.declared.entry.Act.TheVariants.{Hold, Free, Retype, Busy, WornType, Define, WornDef, Call}
use Rattle.hb_tables.specs.declared.entry.Entry.{Entry}
use Rattle.hb_tables.specs.Frames.{acts}
use Rattle.hb_tables.specs.History.{Every}
use Rattle.hb_tables.specs.Plain.{AreOwn}
use Rattle.hb_tables.proofs.FrameLemmas.{acts_append}
use Rattle.hb_call.specs.Growth.{asked_after, asked_by, with_found, with_key}
use Rattle.hb_call.specs.GrowthLaws.{asked_append}
use Rattle.hb_run.specs.History.{HasCaller, IsInTurn, callers_from}
use Rattle.hb_turns.specs.Players.{AreAllByThen}
use Rattle.hb_turns.specs.Playing.{Taken, entries_by, entries_of, turns_by}
use Rattle.hb_turns.proofs.PlayingLemmas.{acts_by_itself}
use Rattle.hb_ordered.specs.Turns.{AreAmong, among}
use Rattle.hb_ordered.proofs.FirstLemmas.{first_of}
use Rattle.hb_ordered.proofs.NamesLemmas.{doings, doings_join}
use Rattle.hb_ordered.proofs.RealLemmas.{find, only, only_among, turns_real}
use Rattle.hb_ordered.proofs.TakenLemmas.{entries_join, one_of, turns_of}
use Rattle.hb_ordered.proofs.WalkLemmas.{among_part}

-- ── where all names are known, no act asks for another ──

key_known : (names : List Name) (k : ℕ) → with_key names names k ≡ names
key_known names k = go (slice_get names k) refl
  where
    go : (o : Option Name) → slice_get names k ≡ o → with_found names o ≡ names
    go None e = refl
    go (Some name) e = let first = place-first names name k e in with_name-known names name first.0 first.1

by_known : (names : List Name) (a : Act) → asked_by names names a ≡ names
by_known names (Hold key q ty n) = key_known names key.0
by_known names (Free key q) = refl
by_known names (Retype key site) = key_known names key.0
by_known names (Busy key pins) = key_known names key.0
by_known names (WornType key) = key_known names key.0
by_known names (Define key site) = key_known names key.0
by_known names (WornDef key) = key_known names key.0
by_known names (Call key q site args v) = refl

all_known : (names : List Name) (l : List Act) → asked_after names names l ≡ names
all_known names [] = refl
all_known names (a ∷ l) = ap (λ w. asked_after names w l) (by_known names a) ∙ all_known names l

still_known : (names : List Name) (l m : List Act) → names ≡ asked_after names [] l → names ≡ asked_after names [] (l ++ m)
still_known names l m e = sym (asked_append names [] l m ∙ ap (λ w. asked_after names w m) (sym e) ∙ all_known names m)

-- ── parts of lists ──

part_every : (F : List Entry → Entry → Type 0) (log l m : List Entry) → log ≡ l ++ m → Every F log → Every F l
part_every F log l m is h before after e at = h before (after ++ m) e (is ∙ ap (λ k. k ++ m) at ∙ append_assoc before (e ∷ after) m)

-- of two fronts of one list one begins the other
either : (xs ys us vs : List Entry) → xs ++ ys ≡ us ++ vs → ((rest : List Entry) × (xs ≡ us ++ rest)) ⊎ ((rest : List Entry) × (us ≡ xs ++ rest))
either xs ys [] vs e = inl (xs, refl)
either [] ys (u ∷ us) vs e = inr (u ∷ us, refl)
either (x ∷ xs) ys (u ∷ us) vs e =
    let h : x ≡ u = cc e in
    let tail : xs ++ ys ≡ us ++ vs = cc e in
    elim (either xs ys us vs tail) [ inl r ↦ inl (r.0, ap (λ z. z ∷ xs) h ∙ ap (λ k. u ∷ k) r.1) | inr r ↦ inr (r.0, ap (λ z. z ∷ us) (sym h) ∙ ap (λ k. x ∷ k) r.1) ]

no_more : (xs ys rest back : List Act) → xs ≡ ys ++ rest → ys ≡ xs ++ back → xs ≡ ys
no_more xs ys [] back e f = e ∙ append-nil ys
no_more xs ys (r ∷ rest) back e f = absurd (let n = ap length e in let m = ap length f in let a = length-append ys (r ∷ rest) in let b = length-append xs back in omega (arith, n, m, a, b))

only_join : (cs : List ℕ) (us vs : List Taken) → only cs (us ++ vs) ≡ only cs us ++ only cs vs
only_join cs [] vs = refl
only_join cs (u ∷ us) vs = go (among u.caller cs) (only_join cs us vs)
  where
    go : (b : Bool) → only cs (us ++ vs) ≡ only cs us ++ only cs vs → (if b then u ∷ only cs (us ++ vs) else only cs (us ++ vs)) ≡ (if b then u ∷ only cs us else only cs us) ++ only cs vs
    go true h = ap (λ l. u ∷ l) h
    go false h = h

pub then_only : (t : Table) (steps : ℕ) (names : List Name) (log start : List Entry) (us : List Taken) → Every IsInTurn log → Every (λ before e. HasCaller t e) log → log ≡ start ++ entries_of us
    → AreOwn 0 start
    → AreAllByThen t steps names start log us → AreAllByThen t steps names (entries_by 0 (acts 0 log)) log (only (callers_from 1 t.scripts) us)
then_only t steps names log start us turn callers is own all before after u at none block run id runs reads stops = elim
    (either front (entries_of f.1) (entries_by 0 (acts 0 log)) (entries_of (only cs us)) both) [
      | inl r ↦ known ∙ ap (λ l. asked_after names [] (doings l)) (shape ∙ ap (λ l. entries_by 0 l ++ entries_of (before ++ u ∷ []))
          (sym (no_more (acts 0 log) (acts 0 front) (acts 0 (entries_of f.1)) (acts 0 r.0) (ap (acts 0) cut ∙ acts_append 0 front (entries_of f.1))
          (ap (acts 0) r.1 ∙ acts_append 0 (entries_by 0 (acts 0 log)) r.0 ∙ ap (λ l. l ++ acts 0 r.0) (acts_by_itself 0 (acts 0 log))))))
      | inr r ↦ still_known names (doings front) (doings (r.0 ++ entries_of (before ++ u ∷ []))) known
          ∙ ap (asked_after names []) (sym (doings_join front (r.0 ++ entries_of (before ++ u ∷ []))))
          ∙ ap (λ l. asked_after names [] (doings l)) (sym (append_assoc front r.0 (entries_of (before ++ u ∷ []))) ∙ ap (λ l. l ++ entries_of (before ++ u ∷ [])) (sym r.1))
    ]
  where
    cs : List ℕ
    cs = callers_from 1 t.scripts

    real : among u.caller cs ≡ true
    real = (among_part cs before (u ∷ after) (subst (AreAmong cs) at (only_among cs us))).0

    f : (b : List Taken) × (a : List Taken) × (us ≡ b ++ u ∷ a) × (only cs b ≡ before)
    f = find cs us before after u at

    front : List Entry
    front = start ++ entries_of (f.0 ++ u ∷ [])

    later : turns_by u.caller f.1 ≡ 0
    later =
        let c = u.caller in
        let one = one_of (eqb c c) (turns_by c f.1) (eq-eqb c c refl) in
        let two = one_of (eqb c c) (turns_by c after) (eq-eqb c c refl) in
        let whole : turns_by c us ≡ turns_by c f.0 + turns_by c (u ∷ f.1) = ap (turns_by c) f.2 ∙ turns_of c f.0 (u ∷ f.1) in
        let part : turns_by c (only cs us) ≡ turns_by c before + turns_by c (u ∷ after) = ap (turns_by c) at ∙ turns_of c before (u ∷ after) in
        let same = turns_real cs c real us in
        let early : turns_by c f.0 ≡ turns_by c before = sym (turns_real cs c real f.0) ∙ ap (turns_by c) f.3 in
        omega (arith, one, two, whole, part, same, early, none)

    known : names ≡ asked_after names [] (doings front)
    known = all f.0 f.1 u f.2 later block run id runs reads stops

    cut : log ≡ front ++ entries_of f.1
    cut = is ∙ ap (λ l. start ++ entries_of l) (f.2 ∙ sym (append_assoc f.0 (u ∷ []) f.1)) ∙ ap (λ l. start ++ l) (entries_join (f.0 ++ u ∷ []) f.1) ∙ sym
        (append_assoc start (entries_of (f.0 ++ u ∷ [])) (entries_of f.1))

    kept : only cs (f.0 ++ u ∷ []) ≡ before ++ u ∷ []
    kept = only_join cs f.0 (u ∷ []) ∙ ap (λ l. l ++ only cs (u ∷ [])) f.3 ∙ ap (λ (b : Bool). before ++ (if b then u ∷ [] else [])) real

    shape : front ≡ entries_by 0 (acts 0 front) ++ entries_of (before ++ u ∷ [])
    shape = first_of t front start (f.0 ++ u ∷ []) (part_every IsInTurn log front (entries_of f.1) cut turn) (part_every (λ before e. HasCaller t e) log front (entries_of f.1) cut callers) refl own
        ∙ ap (λ l. entries_by 0 (acts 0 front) ++ entries_of l) kept

    both : front ++ entries_of f.1 ≡ entries_by 0 (acts 0 log) ++ entries_of (only cs us)
    both = sym cut ∙ first_of t log start us turn callers is own
