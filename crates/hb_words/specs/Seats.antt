-- The words and their seats, as callers see them.
use Rattle.std.specs.Prelude.{ℕ, List}
use Rattle.hb_tables.specs.declared.entry.Entry.{Entry}
use Rattle.hb_words.specs.declared.{closed.Closed.Closed, view.View.View, view.Front.Front, words.MethodWords.MethodWords, words.WordSeat.WordSeat}
use Rattle.hb_words.specs.Words.{IsSeatOf, front_of}

-- what the seat knows
abbrev pub view_of : WordSeat → View
view_of s = s.place.me.0

-- it is a seat of these words
abbrev pub IsSeatAt : MethodWords → WordSeat → Type 0
IsSeatAt words s = IsSeatOf words.table.shared.table_id words.table.shared.key s.place

abbrev pub seat_front : WordSeat → Front
seat_front s = front_of (view_of s)

abbrev pub seat_caller : WordSeat → ℕ
seat_caller s = (view_of s).caller

-- all entries that were made
abbrev pub history : Closed → List Entry
history c = c.memory.me.0.seen
