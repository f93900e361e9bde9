use Rattle.std.proofs.Common.{◌≡◌, ◌+◌}
use Rattle.hb_lex.specs.Place.{line_at, column_at}
use Rattle.hb_lex.proofs.places.place_behind.Given as goal

abbrev pub invariant-loop-b : goal.invariant-loop-b
invariant-loop-b l = record {
  line : l.line ≡ line_at l.bytes (l.from + l.b-index);
  column : l.column ≡ column_at l.bytes (l.from + l.b-index);
}
