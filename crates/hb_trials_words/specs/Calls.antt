-- The calls by which a caller holds the one key of these tests.
use Rattle.std.specs.Prelude.{◌≡◌, ℕ, List, []}
use Rattle.hb_tables.specs.declared.entry.Entry.{Entry}
use Rattle.hb_tables.specs.History.{spot, of_caller}
use Rattle.hb_words.specs.declared.words.{MethodWords.MethodWords, WordSeat.WordSeat}
use Rattle.hb_words.specs.Seats.{IsSeatAt, view_of}

abbrev pub calls_of : ℕ → List Entry → List (ℕ × ℕ)
calls_of c log = of_caller c (spot 0 log).calls

-- the seat is one of the words, and its caller does not hold the key
abbrev pub IsIdle : MethodWords → WordSeat → Type 0
IsIdle words seat = IsSeatAt words seat × (calls_of (view_of seat).caller (view_of seat).seen ≡ [])
