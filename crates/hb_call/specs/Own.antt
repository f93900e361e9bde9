-- What a caller keeps of its checks, read from its own acts.
use Rattle.std.specs.Prelude.{◌≡◌, ℕ, ◌==◌, Bool, true, false, if◌then◌else◌, List, [], ◌∷◌, ◌++◌, length, drop, Option, Some, None}
use Rattle.hb_types.specs.declared.ids.BodySite.{BodySite}
use Rattle.hb_types.specs.declared.ids.CallNo.{CallNo}
use Rattle.hb_types.specs.declared.ids.KeyId.{KeyId}
use Rattle.hb_types.specs.declared.ids.TypeSite.{TypeSite}
use Rattle.hb_cache.specs.Cache.{Agrees, Item, Items, nothing, with_item, without_item, without_key_used}
use Rattle.hb_tables.specs.declared.entry.Entry.{Entry}
use Rattle.hb_tables.specs.declared.entry.Act.{Act}
use Rattle.hb_tables.specs.declared.entry.Act.TheVariants.{Hold, Free, Retype, Busy, WornType, Define, WornDef, Call}
use Rattle.hb_tables.specs.declared.entry.Verdict.{Verdict}
use Rattle.hb_tables.specs.declared.entry.Verdict.TheVariants as verdict
use Rattle.hb_tables.specs.declared.entry.By.{By}
use Rattle.hb_tables.specs.declared.entry.By.TheVariants as by
use Rattle.hb_tables.specs.Frames.{acts}
use Rattle.hb_tables.specs.History.{entry, spot}
use Rattle.hb_tables.specs.Standing.{Stand, standing}

-- the count that the Hold of a key found, among these Holds
abbrev pub counts_of : List Stand → ℕ → Option ℕ
counts_of [] k = None
counts_of (h ∷ hs) k = if k == h.key then Some h.changes else counts_of hs k

-- what a call keeps of its body's check, where these Holds stand
abbrev pub item_by : List Stand → BodySite → Item
item_by hs site = record { body = site; count = counts_of hs }

-- the derivation is none that the caller kept
abbrev pub is_new : By → Bool
is_new by.Own = false
is_new by.Shared = true
is_new by.Fresh = true

-- the body is entered by such a derivation
abbrev pub brings : Verdict → Bool
brings (verdict.Enter way) = is_new way
brings verdict.NoBody = false
brings verdict.NoType = false
brings verdict.BadArgs = false
brings (verdict.IllTyped f) = false

-- What an act makes of its caller's items, behind the acts before it: a call that brings a derivation keeps it, a new type drops the items that used the key, and a new definition drops the key's.
abbrev pub kept_by : (before : List Act) → Items → Act → Items
kept_by before items (Call key q (Some site) args v) = if brings v then with_item key.0 (item_by (standing q.0 before) site) items else items
kept_by before items (Call key q None args v) = items
kept_by before items (Retype key site) = without_key_used key.0 items
kept_by before items (Define key site) = without_item key.0 items
kept_by before items (Hold key q ty changes) = items
kept_by before items (Free key q) = items
kept_by before items (Busy key pins) = items
kept_by before items (WornType key) = items
kept_by before items (WornDef key) = items

-- what these acts make of the items, one behind the other
abbrev pub cache_from : (before : List Act) → Items → List Act → Items
cache_from before items [] = items
cache_from before items (a ∷ l) = cache_from (before ++ a ∷ []) (kept_by before items a) l

-- what a caller keeps of its checks behind these acts
abbrev pub cache_of : List Act → Items
cache_of l = cache_from [] nothing l

-- what a caller's machine keeps behind these acts, the first of which stand before its own
abbrev pub cache_since : (past l : List Act) → Items
cache_since past l = cache_from past nothing (drop (length past) l)

-- the act changes what its caller keeps
abbrev pub changes_kept : Act → Bool
changes_kept (Call key q site args v) = brings v
changes_kept (Retype key site) = true
changes_kept (Define key site) = true
changes_kept (Hold key q ty changes) = false
changes_kept (Free key q) = false
changes_kept (Busy key pins) = false
changes_kept (WornType key) = false
changes_kept (WornDef key) = false

-- what a caller keeps stays over these acts
abbrev pub LeavesKept : List Act → Type 0
LeavesKept [] = Unit {0}
LeavesKept (a ∷ l) = (changes_kept a ≡ false) × LeavesKept l

-- The caller's machine, before whose acts these stand, keeps a check of the key that agrees with the tables behind this list.
pub record OwnAgrees (c : ℕ) (past : List Act) (k : ℕ) (log : List Entry) : Type 0 where
  pub item : Item
  pub kept : cache_since past (acts c log) k ≡ Some item
  pub agrees : Agrees k item (λ j. (spot j log).body) (λ j. (spot j log).changes)

-- the list has a Hold of the key, which found this site and this count
pub record WasSeen (key : KeyId) (n : ℕ) (site : Option TypeSite) (log : List Entry) : Type 0 where
  pub before : List Entry
  pub caller : ℕ
  pub call : CallNo
  pub after : List Entry
  pub is : log ≡ before ++ entry caller (Hold key call site n) ∷ after
