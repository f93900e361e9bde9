-- Names in another order, and what that makes of a history.
use Rattle.std.specs.Prelude.{◌≡◌, ℕ, List, map, length, slice_get, Option, Some, None, is_some}
use Rattle.hb_types.specs.declared.ids.KeyId.{KeyId}
use Rattle.hb_names.specs.Names.{Name, place}
use Rattle.hb_tables.specs.declared.entry.Act.{Act}
use Rattle.hb_tables.specs.declared.entry.Act.TheVariants.{Hold, Free, Retype, Busy, WornType, Define, WornDef, Call}
use Rattle.hb_tables.specs.declared.entry.Entry.{Entry}
use Rattle.hb_eval.specs.Told.{Told}

-- the key to which this one goes
abbrev pub rename_key : (ℕ → ℕ) → KeyId → KeyId
rename_key r key = record { 0 = r key.0 }

-- the act, of the key to which its key goes
abbrev pub rename : (ℕ → ℕ) → Act → Act
rename r (Hold key q ty changes) = Hold (rename_key r key) q ty changes
rename r (Free key q) = Free (rename_key r key) q
rename r (Retype key site) = Retype (rename_key r key) site
rename r (Busy key pins) = Busy (rename_key r key) pins
rename r (WornType key) = WornType (rename_key r key)
rename r (Define key site) = Define (rename_key r key) site
rename r (WornDef key) = WornDef (rename_key r key)
rename r (Call key q site args verdict) = Call (rename_key r key) q site args verdict

abbrev pub rename_entry : (ℕ → ℕ) → Entry → Entry
rename_entry r e = record { caller = e.caller; act = rename r e.act }

-- the list, with the key of each act renamed
abbrev pub renamed : (ℕ → ℕ) → List Entry → List Entry
renamed r log = map (rename_entry r) log

-- this one, where there is none
abbrev pub or_this : ℕ → Option ℕ → ℕ
or_this k None = k
or_this k (Some j) = j

abbrev pub place_or : ℕ → List Name → Option Name → ℕ
place_or k others None = k
place_or k others (Some name) = or_this k (place others name)

-- the key that the name of this key has in the other list
abbrev pub moved : (names others : List Name) → ℕ → ℕ
moved names others k = place_or k others (slice_get names k)

-- each name of one list is one of the other
abbrev pub HaveSameNames : (names others : List Name) → Type 0
HaveSameNames names others = (p : Name) → is_some (place names p) ≡ is_some (place others p)

-- as many names, and the same ones
pub record AreReordered (names others : List Name) : Type 0 where
  pub many : length names ≡ length others
  pub same : HaveSameNames names others

-- Two histories differ in the order of their names at most: each name keeps its acts, and the runs are the same.
pub record DifferInOrder (names others : List Name) (log second : List Entry) (runs told : List Told) : Type 0 where
  pub reordered : AreReordered names others
  pub places : (k : ℕ) → slice_get others (moved names others k) ≡ slice_get names k
  pub entries : second ≡ renamed (moved names others) log
  pub one : runs ≡ told
