use Rattle.std.proofs.Common.{◌≡◌, ◌≤◌, take, length}
use Rattle.hb_types.proofs.env.Env.copied.Given as goal

abbrev pub invariant-loop-variable : goal.invariant-loop-variable
invariant-loop-variable l = record {
  front : l.list.items ≡ take l.variable-index l.self;
  few : length l.list.items ≤ l.variable-index;
}
