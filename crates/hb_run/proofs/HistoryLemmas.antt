-- The keys of a history and the names that were asked for.
use Rattle.std.proofs.Common.{◌≡◌, ◌⊎◌, inl, inr, ℕ, zero, suc, ◌<◌, List, [], ◌∷◌, ◌++◌, length, Option, Some, None, true, false, Bool, refl, sym, ap, ◌∙◌, subst, arith, append_assoc, rules}
use Rattle.std.specs.Prelude.{All, Contains, slice_get, slice_index_or, is_some, IsSome, cond, option_map, ◌==◌, if◌then◌else◌}
use Rattle.std.proofs.lemmas.List.Elements.{All-from_recursion, Contains-append_cases}
use Rattle.hb_types.specs.declared.ids.NodeId.{NodeId}
use Rattle.hb_tree.specs.Table.{Table}
use Rattle.hb_names.specs.Names.{Name, Differ, place, with_name, same as same_name}
use Rattle.hb_tables.specs.declared.entry.Act.{Act}
use Rattle.hb_tables.specs.declared.entry.Act.TheVariants.{Hold, Free, Retype, Busy, WornType, Define, WornDef, Call}
use Rattle.hb_tables.specs.declared.entry.Entry.{Entry}
use Rattle.hb_tables.specs.Frames.{acts}
use Rattle.hb_tables.specs.History.{key_of, spot, entry, Every, FitsAct, IsLegal}
use Rattle.hb_tables.proofs.HoldingLemmas.{holds_since}
use Rattle.hb_tables.specs.Plain.{AreOwn}
use Rattle.hb_call.specs.Growth.{asked_after, asked_by, with_found, with_key}
use Rattle.hb_call.specs.Rules.{FitsRules}
use Rattle.hb_run.specs.History.{IsUsed}

-- ── each name that was asked for is that of an act's key ──

-- the key's name was asked for by one of these acts
abbrev pub IsAskedBy : (names : List Name) → Name → List Act → Type 0
IsAskedBy names name [] = ⊥
IsAskedBy names name (a ∷ l) = (slice_get names (key_of a) ≡ Some name) ⊎ IsAskedBy names name l

in_with_name : (names : List Name) (name other : Name) → Contains (with_name names name) other → Contains names other ⊎ (other ≡ name)
in_with_name names name other h = go (is_some (place names name)) h
  where
    one : (k : ℕ) → k < 1 → slice_index_or (name ∷ []) k other ≡ other → other ≡ name
    one zero b e = sym e
    one (suc k) b e = absurd (omega (arith, b))

    go : (known : Bool) → Contains (if known then names else names ++ name ∷ []) other → Contains names other ⊎ (other ≡ name)
    go true h = inl h
    go false h = elim (Contains-append_cases names (name ∷ []) other h) [ inl x ↦ inl x | inr x ↦ inr (one x.0 x.1 x.2) ]

in_with_key : (names asked : List Name) (k : ℕ) (name : Name) → Contains (with_key names asked k) name → Contains asked name ⊎ (slice_get names k ≡ Some name)
in_with_key names asked k name h = go (slice_get names k) h
  where
    go : (o : Option Name) → Contains (with_found asked o) name → Contains asked name ⊎ (o ≡ Some name)
    go None h = inl h
    go (Some other) h = elim (in_with_name asked other name h) [ inl x ↦ inl x | inr e ↦ inr (ap (λ (n : Name). let s : Option Name = Some n in s) (sym e)) ]

in_asked_by : (names asked : List Name) (a : Act) (name : Name) → Contains (asked_by names asked a) name → Contains asked name ⊎ (slice_get names (key_of a) ≡ Some name)
in_asked_by names asked (Hold key q ty changes) name h = in_with_key names asked key.0 name h
in_asked_by names asked (Retype key site) name h = in_with_key names asked key.0 name h
in_asked_by names asked (Busy key pins) name h = in_with_key names asked key.0 name h
in_asked_by names asked (WornType key) name h = in_with_key names asked key.0 name h
in_asked_by names asked (Define key site) name h = in_with_key names asked key.0 name h
in_asked_by names asked (WornDef key) name h = in_with_key names asked key.0 name h
in_asked_by _ _ _ _ h = inl h

pub in_asked_after : (names asked : List Name) (l : List Act) (name : Name) → Contains (asked_after names asked l) name → Contains asked name ⊎ IsAskedBy names name l
in_asked_after names asked [] name h = inl h
in_asked_after names asked (a ∷ l) name h = elim (in_asked_after names (asked_by names asked a) l name h) [
  | inl x ↦ elim (in_asked_by names asked a name x) [ inl y ↦ inl y | inr e ↦ inr (inl e) ]
  | inr later ↦ inr (inr later)
]

-- such an act is that of an entry
pub record HasEntry (names : List Name) (name : Name) (log : List Entry) : Type 0 where
  pub before : List Entry
  pub e : Entry
  pub after : List Entry
  pub is : log ≡ before ++ e ∷ after
  pub key : slice_get names (key_of e.act) ≡ Some name

pub entry_behind : (names : List Name) (name : Name) (e : Entry) (es : List Entry) → HasEntry names name es → HasEntry names name (e ∷ es)
entry_behind names name e es x = record { before = e ∷ x.before; e = x.e; after = x.after; is = ap (λ l. e ∷ l) x.is; key = x.key }

pub used_all : (names : List Name) (log : List Entry) → Differ names → ((name : Name) → Contains names name → HasEntry names name log) → (key : ℕ) → key < length names → IsUsed names log key
used_all names log differ has key below =
    let there = some_at names key below in
    let entry = has there.0 (at_place names key there.0 there.1) in
    (entry.before, entry.after, entry.e, entry.is, differ (key_of entry.e.act) key there.0 entry.key there.1)
  where
    some_at : (xs : List Name) (k : ℕ) → k < length xs → (name : Name) × (slice_get xs k ≡ Some name)
    some_at [] k b = absurd (omega (arith, b))
    some_at (x ∷ xs) zero b = (x, refl)
    some_at (x ∷ xs) (suc k) b = some_at xs k (omega (arith, b))

    at_place : (xs : List Name) (k : ℕ) (name : Name) → slice_get xs k ≡ Some name → Contains xs name
    at_place [] k name e = absurd cc
    at_place (x ∷ xs) zero name e = (0, omega arith, let same : x ≡ name = cc in same)
    at_place (x ∷ xs) (suc k) name e = let h = at_place xs k name e in (suc h.0, omega (arith, h.1), h.2)

-- where the entries are all of the setup, so are those before one of them
pub turn_of_own : (front before after : List Entry) (e : Entry) → AreOwn 0 front → front ≡ before ++ e ∷ after → All (λ (b : Entry). b.caller.0 ≡ 0) before
turn_of_own front before after e own is = All-from_recursion (λ (b : Entry). b.caller.0 ≡ 0) before (start before (e ∷ after) (subst (AreOwn 0) is own))
  where
    start : (xs ys : List Entry) → AreOwn 0 (xs ++ ys) → AreOwn 0 xs
    start [] ys h = tt
    start (x ∷ xs) ys h = (h.0, start xs ys h.1)

pub is_some_block : (o : Option NodeId) (block : NodeId) → o ≡ Some block → IsSome o
is_some_block None block e = absurd cc
is_some_block (Some b) block e = search rules

-- ── each act's key is that of a name ──

pub place-below : (names : List Name) (name : Name) (key : ℕ) → place names name ≡ Some key → key < length names
place-below [] name key e = absurd cc
place-below (known ∷ names) name key e = go (same_name known name) (place names name) (λ k is. place-below names name k is) e
  where
    go : (same : Bool) (rest : Option ℕ) → ((k : ℕ) → rest ≡ Some k → k < length names) → (if same then Some 0 else option_map suc rest) ≡ Some key → key < length (known ∷ names)
    go true rest below e = let zero_is : 0 ≡ key = cc in omega (arith, zero_is)
    go false None below e = absurd cc
    go false (Some k) below e = let next : suc k ≡ key = cc in let h = below k refl in omega (arith, next, h)

pub key-below : (t : Table) (names : List Name) (limit : ℕ) (log : List Entry)
    → Every (λ before e. FitsRules t names e.caller.0 before e.act) log → IsLegal limit log
    → Every (λ before e. key_of e.act < length names) log
key-below t names limit log rules legal before after e is =
    go e.act (rules before after e is) (legal before after e is)
  where
    go : (a : Act) → FitsRules t names e.caller.0 before a → FitsAct limit e.caller.0 (spot (key_of a) before) a → key_of a < length names
    go (Hold key q ty changes) r f = r.named
    go (Free key q) r f =
        let since = holds_since e.caller.0 q key before f in
        let earlier = rules since.before (since.after ++ e ∷ after) (entry e.caller.0 (Hold key q since.ty since.changes))
        (is ∙ ap (λ l. l ++ e ∷ after) since.is ∙ append_assoc since.before (entry e.caller.0 (Hold key q since.ty since.changes) ∷ since.after) (e ∷ after)) in
        earlier.named
    go (Call key q site args verdict) r f = place-below names r.row.0.name key.0 r.row.0.is
    go _ r _ = r.named
