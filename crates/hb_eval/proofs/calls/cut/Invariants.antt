use Rattle.std.proofs.Common.{◌≡◌, ◌≤◌, length, take}
use Rattle.hb_eval.proofs.calls.cut.Given as goal

abbrev pub invariant-cutting : goal.invariant-cutting
invariant-cutting l = record {
  below : take l.at l.operands.items ≡ take l.at l.fn.operands.items;
  there : l.at ≤ length l.operands.items;
}

abbrev pub decreases-cutting : goal.decreases-cutting
decreases-cutting l = length l.operands.items
