use Rattle.std.proofs.Common.{◌≡◌, ◌≤◌, [], drop}
use Rattle.std.specs.List.{slice_range}
use Rattle.hb_deriv_text.specs.Reading.{nothing, read_from}
use Rattle.hb_deriv_text.specs.Reads.{draft_of}
use Rattle.hb_deriv_text.proofs.texts.read_lines.Given as goal

-- the lines before this one were taken, and what is left decides
abbrev pub invariant-loop-i : goal.invariant-loop-i
invariant-loop-i l = record {
  begun : l.at ≤ l.i;
  rest : read_from l.finder nothing 0 [] l.bytes ≡ read_from l.finder (draft_of l.draft) l.at (slice_range l.bytes l.at l.i) (drop l.i l.bytes);
}
