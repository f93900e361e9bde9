-- The names of a history in the order in which its acts ask for them.
use Rattle.std.proofs.Common.{◌≡◌, ◌⊎◌, inl, inr, ℕ, Bool, true, false, List, [], ◌∷◌, map, cond, eqb, Option, Some, None, refl, sym, ap, ◌∙◌, subst, arith}
use Rattle.std.specs.Prelude.{slice_get, is_some}
use Rattle.std.proofs.lemmas.Bool.Decides.{eqb_tells}
use Rattle.std.proofs.lemmas.List.{map-append}
use Rattle.std.proofs.lemmas.Option.{get_or_from_slice_get, none-some, same_Some, slice_get_within}
use Rattle.hb_tree.specs.Table.{Table}
use Rattle.hb_names.specs.Names.{Differ, Name, place}
use Rattle.hb_names.proofs.NameLemmas.{place-at, place-first, place-longer, place-within, with_name-differ, with_name-place}
use Rattle.hb_tables.specs.declared.entry.Act.{Act}
use Rattle.hb_tables.specs.declared.entry.Act.TheVariants.{Hold, Free, Retype, Busy, WornType, Define, WornDef, Call}
use Rattle.hb_tables.specs.declared.entry.Entry.{Entry}
use Rattle.hb_tables.specs.History.{FitsAct, Spot, blank, done, key_of, spot, spot_from, times, without}
use Rattle.hb_tables.specs.Rows.{FitsCall}
use Rattle.hb_call.specs.Growth.{asked_after, asked_by, with_found, with_key}
use Rattle.hb_call.specs.GrowthLaws.{asked_append}
use Rattle.hb_call.specs.OwnLaws.{asked_begins}
use Rattle.hb_eval.specs.Told.{Told}
use Rattle.hb_run.specs.History.{IsHistory}
use Rattle.hb_run.proofs.HistoryLemmas.{IsAskedBy, in_asked_after}
use Rattle.hb_renamed.specs.Renaming.{HaveSameNames, moved, rename, renamed}
use Rattle.hb_renamed.proofs.OrderLemmas.{has_place, stands_at}
use Rattle.hb_renamed.proofs.HistoryLemmas.{history_renamed}

-- the acts of these entries
abbrev pub acts_in : List Entry → List Act
acts_in log = map (λ e. e.act) log

-- ── they differ ──

found_differ : (asked : List Name) (o : Option Name) → Differ asked → Differ (with_found asked o)
found_differ asked None h = h
found_differ asked (Some name) h = with_name-differ asked name h

asked_differ : (names asked : List Name) (l : List Act) → Differ asked → Differ (asked_after names asked l)
asked_differ names asked [] h = h
asked_differ names asked (Hold key q ty n ∷ l) h = asked_differ names (with_key names asked key.0) l (found_differ asked (slice_get names key.0) h)
asked_differ names asked (Free key q ∷ l) h = asked_differ names asked l h
asked_differ names asked (Retype key site ∷ l) h = asked_differ names (with_key names asked key.0) l (found_differ asked (slice_get names key.0) h)
asked_differ names asked (Busy key pins ∷ l) h = asked_differ names (with_key names asked key.0) l (found_differ asked (slice_get names key.0) h)
asked_differ names asked (WornType key ∷ l) h = asked_differ names (with_key names asked key.0) l (found_differ asked (slice_get names key.0) h)
asked_differ names asked (Define key site ∷ l) h = asked_differ names (with_key names asked key.0) l (found_differ asked (slice_get names key.0) h)
asked_differ names asked (WornDef key ∷ l) h = asked_differ names (with_key names asked key.0) l (found_differ asked (slice_get names key.0) h)
asked_differ names asked (Call key q site args v ∷ l) h = asked_differ names asked l h

-- ── they are the names ──

-- the name is one of these
abbrev IsOf : List Name → Name → Type 0
IsOf names p = (k : ℕ) × (place names p ≡ Some k)

asked_is : (names : List Name) (p : Name) (l : List Act) → IsAskedBy names p l → IsOf names p
asked_is names p [] h = absurd h
asked_is names p (a ∷ l) (inl e) = (let first = place-first names p (key_of a) e in (first.0, first.1))
asked_is names p (a ∷ l) (inr h) = asked_is names p l h

known : (names : List Name) (p : Name) (l : List Act) → IsOf (asked_after names [] l) p → IsOf names p
known names p l h =
    let C = asked_after names [] l in
    let at = place-at C p h.0 h.1 in
    elim (in_asked_after names [] l p (h.0, slice_get_within C h.0 p at, get_or_from_slice_get C h.0 p p at)) as (λ z. IsOf names p) [
      | inl none ↦ absurd (let low = none.1 in omega (arith, low))
      | inr asked ↦ asked_is names p l asked
    ]

module _ (names : List Name) (k : ℕ) (p : Name) (at : slice_get names k ≡ Some p) where
  stays : (asked : List Name) (l : List Act) → IsOf asked p → IsOf (asked_after names asked l) p
  stays asked l h = (h.0, place-longer asked (asked_after names asked l) p h.0 (asked_begins names asked l) h.1)

  asks : (asked : List Name) (j : ℕ) → j ≡ k → IsOf (with_key names asked j) p
  asks asked j e = subst (λ o. IsOf (with_found asked o) p) (sym (ap (slice_get names) e ∙ at)) (with_name-place asked p)

  -- the name was asked for, or nobody holds its key
  asked_or : (x : Spot) (asked : List Name) (log : List Entry) → x.calls ≡ [] → IsOf (asked_after names asked (acts_in log)) p ⊎ ((spot_from k x log).calls ≡ [])
  asked_or x asked [] none = inr none
  asked_or x asked (e ∷ log) none = one e.act (λ y asked none. asked_or y asked log none)
    where
      still : (b : Bool) (y : Spot) (asked : List Name) → y.calls ≡ []
          → ((y : Spot) (asked : List Name) → y.calls ≡ [] → IsOf (asked_after names asked (acts_in log)) p ⊎ ((spot_from k y log).calls ≡ []))
          → IsOf (asked_after names asked (acts_in log)) p ⊎ ((spot_from k (cond b y x) log).calls ≡ [])
      still true y asked idle more = more y asked idle
      still false y asked idle more = more x asked none

      one : (a : Act) → ((y : Spot) (asked : List Name) → y.calls ≡ [] → IsOf (asked_after names asked (acts_in log)) p ⊎ ((spot_from k y log).calls ≡ []))
          → IsOf (asked_after names (asked_by names asked a) (acts_in log)) p ⊎ ((spot_from k (cond (eqb k (key_of a)) (done e.caller.0 x a) x) log).calls ≡ [])
      one (Hold key q ty n) more = elim (eqb_tells k key.0) as (λ z. IsOf (asked_after names (with_key names asked key.0) (acts_in log)) p
          ⊎ ((spot_from k (cond (eqb k key.0) (done e.caller.0 x (Hold key q ty n)) x) log).calls ≡ [])) [
            | inl is ↦ inl (stays (with_key names asked key.0) (acts_in log) (asks asked key.0 (sym is.1)))
            | inr not ↦ subst (λ b. IsOf (asked_after names (with_key names asked key.0) (acts_in log)) p ⊎ ((spot_from k (cond b (done e.caller.0 x (Hold key q ty n)) x) log).calls ≡ [])) (sym not.0)
                (more x (with_key names asked key.0) none)
          ]
      one (Free key q) more = still (eqb k key.0) (done e.caller.0 x (Free key q)) asked (ap (without (e.caller.0, q.0)) none) more
      one (Retype key site) more = still (eqb k key.0) (done e.caller.0 x (Retype key site)) (with_key names asked key.0) none more
      one (Busy key pins) more = still (eqb k key.0) x (with_key names asked key.0) none more
      one (WornType key) more = still (eqb k key.0) x (with_key names asked key.0) none more
      one (Define key site) more = still (eqb k key.0) (done e.caller.0 x (Define key site)) (with_key names asked key.0) none more
      one (WornDef key) more = still (eqb k key.0) x (with_key names asked key.0) none more
      one (Call key q site args v) more = still (eqb k key.0) x asked none more

  -- who holds the key asked for it
  held_asked : (x : ℕ × ℕ) (log : List Entry) → times x (spot k log).calls ≡ 1 → IsOf (asked_after names [] (acts_in log)) p
  held_asked x log held = elim (asked_or blank [] log refl) as (λ z. IsOf (asked_after names [] (acts_in log)) p) [
    | inl is ↦ is
    | inr none ↦ absurd (let never : 0 ≡ 1 = sym (ap (times x) none) ∙ held in omega (arith, never))
  ]

  -- an entry of the key stands behind a question for it
  used_asked : (t : Table) (limit c : ℕ) (before : List Entry) (a : Act) (rest : List Act) → key_of a ≡ k → FitsAct limit c (spot (key_of a) before) a → FitsCall t names c before a
      → IsOf (asked_after names (asked_after names [] (acts_in before)) (a ∷ rest)) p
  used_asked t limit c before (Free key q) rest e fits row = stays (asked_after names [] (acts_in before)) rest
      (held_asked (c, q.0) before (ap (λ j. times (c, q.0) (spot j before).calls) (sym e) ∙ fits))
  used_asked t limit c before (Call key q site args v) rest e fits row =
      let own = row.0.held row.0.name (0, omega arith, refl) in
      let key_is : own.0 ≡ k = same_Some own.0 key.0 (sym own.1 ∙ row.0.is) ∙ e in
      stays (asked_after names [] (acts_in before)) rest (held_asked (c, q.0) before (ap (λ j. times (c, q.0) (spot j before).calls) (sym key_is) ∙ own.2))
  used_asked t limit c before (Hold key q ty n) rest e fits row = stays (with_key names (asked_after names [] (acts_in before)) key.0) rest (asks (asked_after names [] (acts_in before)) key.0 e)
  used_asked t limit c before (Retype key site) rest e fits row = stays (with_key names (asked_after names [] (acts_in before)) key.0) rest (asks (asked_after names [] (acts_in before)) key.0 e)
  used_asked t limit c before (Busy key pins) rest e fits row = stays (with_key names (asked_after names [] (acts_in before)) key.0) rest (asks (asked_after names [] (acts_in before)) key.0 e)
  used_asked t limit c before (WornType key) rest e fits row = stays (with_key names (asked_after names [] (acts_in before)) key.0) rest (asks (asked_after names [] (acts_in before)) key.0 e)
  used_asked t limit c before (Define key site) rest e fits row = stays (with_key names (asked_after names [] (acts_in before)) key.0) rest (asks (asked_after names [] (acts_in before)) key.0 e)
  used_asked t limit c before (WornDef key) rest e fits row = stays (with_key names (asked_after names [] (acts_in before)) key.0) rest (asks (asked_after names [] (acts_in before)) key.0 e)

both : (a b : Option ℕ) → (is_some a ≡ true → is_some b ≡ true) → (is_some b ≡ true → is_some a ≡ true) → is_some a ≡ is_some b
both None None f g = refl
both None (Some k) f g = g refl
both (Some k) None f g = sym (f refl)
both (Some j) (Some k) f g = refl

module _ (t : Table) (limit steps : ℕ) (names : List Name) (log : List Entry) (runs : List Told) (h : IsHistory t limit steps names log runs) where
  -- the names, in the order in which they are asked for
  abbrev pub in_order : List Name
  in_order = asked_after names [] (acts_in log)

  is_asked : (p : Name) → IsOf names p → IsOf in_order p
  is_asked p there =
      let u = h.used there.0 (place-within names p there.0 there.1) in
      let e = u.2 in
      let cut : asked_after names [] (acts_in log) ≡ asked_after names (asked_after names [] (acts_in u.0)) (e.act ∷ acts_in u.1) = ap (λ l. asked_after names [] (acts_in l)) u.3
      ∙ ap (asked_after names []) (map-append (λ (x : Entry). x.act) u.0 (e ∷ u.1)) ∙ asked_append names [] (acts_in u.0) (e.act ∷ acts_in u.1) in
      subst (λ l. IsOf l p) (sym cut) (used_asked names there.0 p (place-at names p there.0 there.1) t limit e.caller.0 u.0 e.act (acts_in u.1) u.4 (h.legal u.0 u.1 e u.3) (h.rules u.0 u.1 e u.3).row)

  pub same_names : HaveSameNames names in_order
  same_names p = both (place names p) (place in_order p) (λ e. ap is_some (is_asked p (has_place names p e)).1) (λ e. ap is_some (known names p (acts_in log) (has_place in_order p e)).1)

  pub they_differ : Differ in_order
  they_differ = asked_differ names [] (acts_in log) none
    where
      none : Differ []
      none i j name e f = absurd (none-some name e)

  pub history_in_order : IsHistory t limit steps in_order (renamed (moved names in_order) log) runs
  history_in_order = history_renamed names in_order h.differ they_differ same_names t limit steps log runs h

-- ── they are asked for in their order ──

module _ (names others : List Name) (differ : Differ names) (differ' : Differ others) (alike : HaveSameNames names others) where
  asks_alike : (asked : List Name) (a : Act) → asked_by others asked (rename (moved names others) a) ≡ asked_by names asked a
  asks_alike asked (Hold key q ty n) = ap (with_found asked) (stands_at names others differ alike differ' key.0)
  asks_alike asked (Free key q) = refl
  asks_alike asked (Retype key site) = ap (with_found asked) (stands_at names others differ alike differ' key.0)
  asks_alike asked (Busy key pins) = ap (with_found asked) (stands_at names others differ alike differ' key.0)
  asks_alike asked (WornType key) = ap (with_found asked) (stands_at names others differ alike differ' key.0)
  asks_alike asked (Define key site) = ap (with_found asked) (stands_at names others differ alike differ' key.0)
  asks_alike asked (WornDef key) = ap (with_found asked) (stands_at names others differ alike differ' key.0)
  asks_alike asked (Call key q site args v) = refl

  asked_alike : (asked : List Name) (log : List Entry) → asked_after others asked (acts_in (renamed (moved names others) log)) ≡ asked_after names asked (acts_in log)
  asked_alike asked [] = refl
  asked_alike asked (e ∷ log) = ap (λ w. asked_after others w (acts_in (renamed (moved names others) log))) (asks_alike asked e.act) ∙ asked_alike (asked_by names asked e.act) log

pub asked_in_order : (t : Table) (limit steps : ℕ) (names : List Name) (log : List Entry) (runs : List Told) (h : IsHistory t limit steps names log runs)
    → in_order t limit steps names log runs h ≡ asked_after (in_order t limit steps names log runs h) [] (acts_in (renamed (moved names (in_order t limit steps names log runs h)) log))
asked_in_order t limit steps names log runs h = sym (asked_alike names (in_order t limit steps names log runs h) h.differ (they_differ t limit steps names log runs h)
    (same_names t limit steps names log runs h) [] log)
