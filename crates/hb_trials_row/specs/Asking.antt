-- Seats of a row before and after they asked.
use Rattle.std.specs.Prelude.{◌≡◌, ℕ, ◌<◌, List, length, slice_index_or}
use Rattle.atomic_table.specs.Seated.{TableId}
use Rattle.hb_row.specs.declared.seat.NameSeat.{NameSeat}
use Rattle.hb_row.specs.Seats.{IsSeatOf}

-- it is a seat of the row, of the same caller
abbrev pub IsStill : TableId → NameSeat → NameSeat → Type 0
IsStill table old new = IsSeatOf table new × (new.caller ≡ old.caller) × (new.made ≡ old.made)

-- each is a seat of the row, and they stand in the order of their callers
abbrev pub AreSeatsOf : TableId → List NameSeat → Type 0
AreSeatsOf table seats = (k : ℕ) (d : NameSeat) → k < length seats → IsSeatOf table (slice_index_or seats k d) × ((slice_index_or seats k d).caller ≡ k)

-- each says the same of how many callers were made
abbrev pub HaveMade : List NameSeat → List NameSeat → Type 0
HaveMade old new = (k : ℕ) (d : NameSeat) → k < length old → (slice_index_or new k d).made ≡ (slice_index_or old k d).made
