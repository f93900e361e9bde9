-- A caller's two seats, before and behind its run.
use Rattle.std.specs.Prelude.{◌≡◌}
use Rattle.hb_row.specs.declared.row.NameRow.{NameRow}
use Rattle.hb_row.specs.declared.seat.NameSeat.{NameSeat}
use Rattle.hb_row.specs.Seats.{IsSeatOf, known_of, asked_by}
use Rattle.hb_fronts.specs.Exits.{View}
use Rattle.hb_words.specs.declared.words.MethodWords.{MethodWords}
use Rattle.hb_words.specs.declared.words.WordSeat.{WordSeat}
use Rattle.hb_words.specs.Seats.{IsSeatAt, view_of}

-- it is still a seat at the words, of the same caller
abbrev pub IsStill : MethodWords → WordSeat → WordSeat → Type 0
IsStill words old new = IsSeatAt words new × ((view_of new).caller ≡ (view_of old).caller) × ((view_of new).made ≡ (view_of old).made)

-- it is still a seat of the row, of the same caller
abbrev pub IsSameRow : NameRow → NameSeat → NameSeat → Type 0
IsSameRow row old new = IsSeatOf row.table.shared.table_id new × (new.caller ≡ old.caller) × (new.made ≡ old.made)

-- what a caller knows by its seats
abbrev pub known_at : WordSeat → NameSeat → View
known_at seat names = record { front = (view_of seat).seen; known = known_of names; asked = asked_by names }
