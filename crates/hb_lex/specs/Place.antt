-- Lines and columns, both from 1.
use Rattle.std.specs.Prelude.{ℕ, ◌+◌, List, length, take, count_by}
use Rattle.std.specs.List.{after_last}
use Rattle.hb_lex.specs.Bytes.{is_line_feed}

-- one more than the line feeds before
abbrev pub line_at : List ℕ → ℕ → ℕ
line_at text at = 1 + count_by is_line_feed (take at text)

-- one more than the bytes since the last of them
abbrev pub column_at : List ℕ → ℕ → ℕ
column_at text at = 1 + length (after_last is_line_feed (take at text))
