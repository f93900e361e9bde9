-- The checks that a cache keeps, and what they say.
use Rattle.std.specs.Prelude.{ℕ, ◌==◌, Bool, List, [], ◌∷◌, length, slice_get, Option, Some, None, is_some, if◌then◌else◌}
use Rattle.std.specs.Option.{option_map, option_flatten}
use Rattle.hb_cache.specs.declared.{kept.Seen.Seen, kept.Kept.Kept}
use Rattle.hb_cache.specs.Cache.{Item, Items}

-- what the first hold of a key found among these
abbrev pub count_in : List Seen → ℕ → Option ℕ
count_in [] k = None
count_in (seen ∷ rest) k = if seen.key.0 == k then Some seen.changes else count_in rest k

-- how often the type of a key had been changed, where the check used it
abbrev pub count_of : Kept → ℕ → Option ℕ
count_of kept k = if kept.key.0 == k then Some kept.changes else count_in kept.counts.items k

-- the check used the type of the key
abbrev pub uses : Kept → ℕ → Bool
uses kept k = is_some (count_of kept k)

-- what a kept check says
abbrev pub item_of : Kept → Item
item_of kept = record { body = kept.derivation.body; count = count_of kept }

-- what is kept for a key
abbrev pub kept_at : List (Option Kept) → ℕ → Option Kept
kept_at cache k = option_flatten (slice_get cache k)

-- what all the kept checks say
abbrev pub items_in : List (Option Kept) → Items
items_in cache k = option_map item_of (kept_at cache k)

-- it is kept where it is of this body
abbrev pub of_body : ℕ → Option Kept → Option Kept
of_body body None = None
of_body body (Some kept) = if kept.derivation.body.0 == body then Some kept else None

-- it is kept where it did not use the key
abbrev pub not_using : ℕ → Option Kept → Option Kept
not_using key None = None
not_using key (Some kept) = if uses kept key then None else Some kept

-- how many uses it has, and 0 for nothing
abbrev pub width_of : Option Kept → ℕ
width_of None = 0
width_of (Some kept) = length kept.counts.items
