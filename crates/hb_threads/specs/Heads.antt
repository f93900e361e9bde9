-- The first caller's seats, while seats of others are made.
use Rattle.std.specs.Prelude.{◌≡◌, ℕ}
use mathlib.Core.List.{IsPrefix}
use Rattle.hb_tables.specs.History.{journal}
use Rattle.hb_row.specs.declared.row.NameRow.{NameRow}
use Rattle.hb_row.specs.declared.seat.NameSeat.{NameSeat}
use Rattle.hb_row.specs.Seats.{IsSeatOf, known_of, asked_by}
use Rattle.hb_fronts.specs.Exits.{View}
use Rattle.hb_words.specs.declared.words.MethodWords.{MethodWords}
use Rattle.hb_words.specs.declared.words.WordSeat.{WordSeat}
use Rattle.hb_words.specs.Seats.{IsSeatAt, view_of}

-- they are the first caller's, and so many callers were made
pub record IsHead (words : MethodWords) (row : NameRow) (made : ℕ) (seat : WordSeat) (names : NameSeat) : Type 0 where
  pub seat_fits : IsSeatAt words seat
  pub mine : (view_of seat).caller ≡ 0
  pub counted : (view_of seat).made ≡ made
  pub names_fit : IsSeatOf row.table.shared.table_id names
  pub named : names.caller ≡ 0
  pub names_counted : names.made ≡ made

-- The first caller knew this once, and has done nothing and asked for nothing since.
pub record IsSince (once : View) (seat : WordSeat) (names : NameSeat) : Type 0 where
  pub begins : IsPrefix once.front (view_of seat).seen
  pub same : journal 0 (view_of seat).seen ≡ journal 0 once.front
  pub known : known_of names ≡ once.known
  pub asked : asked_by names ≡ once.asked
