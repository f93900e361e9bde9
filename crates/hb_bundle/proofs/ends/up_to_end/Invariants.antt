use Rattle.std.proofs.Common.{◌≡◌, ◌≤◌, List, ℕ, take}
use Rattle.std.specs.List.{slice_range, AllByRecursion}
use Rattle.hb_deriv_text.specs.Faults.{IsLine}
use Rattle.hb_bundle.specs.Lines.{lines_of, IsOther}
use Rattle.hb_bundle.proofs.ends.up_to_end.Given as goal

-- the lines before this one are other lines, and it has no line feed yet
abbrev pub invariant-loop-i : goal.invariant-loop-i
invariant-loop-i l = record {
  begun : l.line ≤ l.i;
  before : (lines : List (List ℕ)) × AllByRecursion IsOther lines × (lines_of lines ≡ take l.line l.bytes);
  plain : IsLine (slice_range l.bytes l.line l.i);
}
