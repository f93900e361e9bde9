-- Which of the known names were asked for, as a seat keeps them.
use Rattle.std.specs.Prelude.{◌≡◌, ℕ, ◌+◌, ◌<◌, ◌≤◌, min, Bool, true, false, if◌then◌else◌, List, [], ◌∷◌, map, length, Some, is_some, slice_get, slice_index_or}
use mathlib.Core.Option.{some}
use lib.ListN.{get_elem?}
use Rattle.hb_types.specs.declared.ids.KeyId.{KeyId}
use Rattle.hb_names.specs.Names.{Name, place}

-- the names that a seat knows, those of them that it was asked for, and how many more go in without memory
pub record Notes : Type 0 where
  pub known : List Name
  pub asked : List Name
  pub spare : ℕ

-- the name of a key
abbrev pub name_at : List Name → ℕ → Name
name_at names k = slice_index_or names k (0, [])

abbrev pub asked_of : List Name → List KeyId → List Name
asked_of names keys = map (λ k. name_at names k.0) keys

-- how many are not marked
abbrev pub unasked : List Bool → ℕ
unasked [] = 0
unasked (mark ∷ marks) = if mark then unasked marks else 1 + unasked marks

-- a name is marked exactly where its key was asked for, and there is room for the keys that were not
pub record IsNoted (names : List Name) (keys : List KeyId) (marks : List Bool) (capacity : ℕ) : Type 0 where
  pub long : length marks ≡ length names
  pub below : (i : ℕ) (k : KeyId) → slice_get keys i ≡ Some k → k.0 < length names
  pub marked : (k : ℕ) → k < length names → slice_index_or marks k false ≡ is_some (place (asked_of names keys) (name_at names k))
  pub counted : unasked marks + length keys ≡ length marks
  pub roomy : length marks ≤ capacity

-- what is kept, where there is room for so many more names, marks and keys
abbrev pub notes_of : List Name → List KeyId → ℕ → ℕ → ℕ → Notes
notes_of names keys more_names more_marks more_keys = record { known = names; asked = asked_of names keys; spare = min more_names (min more_marks more_keys) }

-- it is one of these names
abbrev pub IsNamed : Name → List Name → Type 0
IsNamed name names = is_some (place names name) ≡ true

abbrev pub AreNamed : List Name → List Name → Type 0
AreNamed some_names names = (i : ℕ) (name : Name) → get_elem? some_names i ≡ some name → IsNamed name names
