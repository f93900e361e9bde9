-- When the checks that are kept are a caller's own.
use Rattle.std.specs.Prelude.{◌≡◌, ℕ, true, List, [], ◌∷◌, Option, Some, None}
use mathlib.Core.List.{IsPrefix}
use Rattle.std.specs.Option.{option_map}
use Rattle.std.specs.List.{AllByRecursion}
use Rattle.hb_types.specs.declared.ids.TypeSite.{TypeSite}
use Rattle.hb_tree.specs.Table.{Table}
use Rattle.hb_deriv.specs.declared.raw.Used.{Used}
use Rattle.hb_deriv.specs.Derivation.{content_of, key_of, type_at, type_of}
use Rattle.hb_deriv.specs.Programs.{IsFor, sites_of}
use Rattle.hb_cache.specs.declared.kept.Kept.{Kept}
use Rattle.hb_cache.specs.declared.kept.Seen.{Seen}
use Rattle.hb_cache.specs.Cache.{Items, SameItems}
use Rattle.hb_cache.specs.Kept.{count_of, items_in, kept_at, uses}
use Rattle.hb_names.specs.Names.{Name, place}
use Rattle.hb_tables.specs.declared.entry.Entry.{Entry}
use Rattle.hb_tables.specs.declared.entry.Act.{Act}
use Rattle.hb_tables.specs.Frames.{acts}
use Rattle.hb_tables.specs.History.{spot, times}
use Rattle.hb_tables.specs.Names.{name_of}
use Rattle.hb_call.specs.Calling.{IsAskedFor}
use Rattle.hb_call.specs.Growth.{EachNew}
use Rattle.hb_call.specs.Own.{WasSeen, cache_since}
use Rattle.hb_call.specs.Rules.{EntersBy}

-- What a hold found is that of a use: the key is that of its method, a Hold of which found this site with this count, and the method type there was that of the use's site. Its name was asked for.
pub record IsUse (t : Table) (names asked : List Name) (log : List Entry) (u : Used) (s : Seen) : Type 0 where
  pub named : place names (name_of t (key_of u)) ≡ Some s.key.0
  pub was : WasSeen s.key s.changes s.site log
  pub typed : type_at (sites_of t) (option_map (λ x. x.0) s.site) ≡ type_of (sites_of t) u
  pub asked_for : IsAskedFor names asked s.key.0

-- what holds found is, one by one, that of the uses
abbrev pub AreUses : Table → (names asked : List Name) → List Entry → List Used → List Seen → Type 0
AreUses t names asked log [] [] = Unit {0}
AreUses t names asked log [] (s ∷ seen) = ⊥
AreUses t names asked log (u ∷ uses) [] = ⊥
AreUses t names asked log (u ∷ uses) (s ∷ seen) = IsUse t names asked log u s × AreUses t names asked log uses seen

-- A kept check is true: its derivation is for the program, and of the class of its key's name. A Hold of its key found the derivation's declared type with the kept count, and Holds found the type of each use with its count. All their names were asked for.
pub record IsTrueCheck (t : Table) (names asked : List Name) (log : List Entry) (kept : Kept) : Type 0 where
  pub good : IsFor t (content_of kept.derivation)
  pub name : Name
  pub named : place names name ≡ Some kept.key.0
  pub class : name.0 ≡ kept.derivation.class.0
  pub site : TypeSite
  pub was : WasSeen kept.key kept.changes (Some site) log
  pub typed : sites_of t site.0 ≡ sites_of t kept.derivation.declared.0
  pub asked_for : IsAskedFor names asked kept.key.0
  pub uses : AreUses t names asked log kept.derivation.uses.items kept.counts.items
  -- each key has one count
  pub once : AllByRecursion (λ s. count_of kept s.key.0 ≡ Some s.changes) kept.counts.items

-- Where it is told which acts stand before those of the caller's machine, the items are what the acts behind them keep.
abbrev pub AreOwn : Option (List Act) → List Act → Items → Type 0
AreOwn None l items = Unit {0}
AreOwn (Some past) l items = IsPrefix past l × SameItems items (cache_since past l)

-- Each kept check is true. Where it is told which acts stand before those of the caller's machine, what is kept is what its acts keep.
pub record IsOwnCache (t : Table) (names asked : List Name) (c : ℕ) (past : Option (List Act)) (log : List Entry) (cache : List (Option Kept)) : Type 0 where
  pub same : AreOwn past (acts c log) (items_in cache)
  pub each : (k : ℕ) (kept : Kept) → kept_at cache k ≡ Some kept → IsTrueCheck t names asked log kept

-- Each kept check is true, whose ever it is.
abbrev pub IsTrueCache : Table → (names asked : List Name) → ℕ → List Entry → List (Option Kept) → Type 0
IsTrueCache t names asked c log cache = IsOwnCache t names asked c None log cache

-- What is kept goes on to be true, and the machine's own where it was so. Then each body that was entered meanwhile was so by the right check.
pub record KeepsChecks (t : Table) (c : ℕ) (names known was asked : List Name) (old new : List Entry) (cache left : List (Option Kept)) : Type 0 where
  pub own : (past : Option (List Act)) → IsOwnCache t names was c past old cache → IsOwnCache t known asked c past new left
  pub ways : (past : List Act) → IsOwnCache t names was c (Some past) old cache → EachNew (EntersBy c past) c old new

-- What is kept for the key is of its definition, and each of its counts is how often that key's type was changed.
pub record IsHit (cache : List (Option Kept)) (k : ℕ) (log : List Entry) : Type 0 where
  pub kept : Kept
  pub there : kept_at cache k ≡ Some kept
  pub body : (spot k log).body ≡ Some kept.derivation.body
  pub own : (spot kept.key.0 log).changes ≡ kept.changes
  pub counts : AllByRecursion (λ s. (spot s.key.0 log).changes ≡ s.changes) kept.counts.items

-- the call x, a caller and a number, holds the key, and its hold finds this
abbrev pub IsFound : List Entry → ℕ × ℕ → Seen → Type 0
IsFound log x s = (times x (spot s.key.0 log).calls ≡ 1) × (s.site ≡ (spot s.key.0 log).ty) × (s.changes ≡ (spot s.key.0 log).changes)

-- The call x holds the keys of a check and no others, and its holds find what is kept.
pub record HoldsCheck (log : List Entry) (x : ℕ × ℕ) (kept : Kept) : Type 0 where
  pub own : times x (spot kept.key.0 log).calls ≡ 1
  pub changes : kept.changes ≡ (spot kept.key.0 log).changes
  pub found : AllByRecursion (IsFound log x) kept.counts.items
  pub only : (k : ℕ) → times x (spot k log).calls ≡ 1 → uses kept k ≡ true
