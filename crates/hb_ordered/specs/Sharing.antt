-- Two lists of names that have the same names at the keys of common acts.
use Rattle.std.specs.Prelude.{◌≡◌, ℕ, List, slice_get, Some}
use Rattle.std.specs.List.{AllByRecursion}
use Rattle.hb_names.specs.Names.{IsFull, Name, place}
use Rattle.hb_tables.specs.declared.entry.Act.{Act}
use Rattle.hb_tables.specs.declared.entry.Act.TheVariants.{Hold, Free, Retype, Busy, WornType, Define, WornDef, Call}
use Rattle.hb_tables.specs.History.{key_of}
use Rattle.hb_ordered.specs.Asking.{Question, Goes}

-- Where the act asks for a name, it is the same in both lists. A Free and a Call have theirs from before.
abbrev pub IsShared : (names others : List Name) → Act → Type 0
IsShared names others (Hold key q ty changes) = slice_get names key.0 ≡ slice_get others key.0
IsShared names others (Free key q) = Unit {0}
IsShared names others (Retype key site) = slice_get names key.0 ≡ slice_get others key.0
IsShared names others (Busy key pins) = slice_get names key.0 ≡ slice_get others key.0
IsShared names others (WornType key) = slice_get names key.0 ≡ slice_get others key.0
IsShared names others (Define key site) = slice_get names key.0 ≡ slice_get others key.0
IsShared names others (WornDef key) = slice_get names key.0 ≡ slice_get others key.0
IsShared names others (Call key q site args v) = Unit {0}

abbrev pub AreShared : (names others : List Name) → List Act → Type 0
AreShared names others l = AllByRecursion (IsShared names others) l

-- the act asks for a name by this key
abbrev pub HasKey : (k : ℕ) → Act → Type 0
HasKey k (Hold key q ty changes) = key.0 ≡ k
HasKey k (Free key q) = ⊥
HasKey k (Retype key site) = key.0 ≡ k
HasKey k (Busy key pins) = key.0 ≡ k
HasKey k (WornType key) = key.0 ≡ k
HasKey k (Define key site) = key.0 ≡ k
HasKey k (WornDef key) = key.0 ≡ k
HasKey k (Call key q site args v) = ⊥

-- where both acts ask for one name, they ask by one key
abbrev pub Meet : (names others : List Name) → (a b : Act) → Type 0
Meet names others a b = (p : Name) (k j : ℕ) → place names p ≡ Some k → place others p ≡ Some j → HasKey k a → HasKey j b → k ≡ j

-- the call gives its own key back before it is decided
abbrev pub IsOwnFree : Question → Act → Type 0
IsOwnFree (Goes q k kinds) (Free key p) = key.0 ≡ k
IsOwnFree _ _ = ⊥

-- the first act does not give up for a name that the second one has
abbrev pub NotFull : (names others : List Name) → Question → (a b : Act) → Type 0
NotFull names others u a b = IsOwnFree u a → (p : Name) → IsFull names p → place others p ≡ Some (key_of b) → ⊥
