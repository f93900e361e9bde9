use Rattle.std.proofs.Common.{◌≡◌, ◌≤◌, ◌++◌, drop, length}
use Rattle.hb_types.specs.Variables as variables
use Rattle.hb_types.proofs.env.Env.join.Given as goal

abbrev pub invariant-loop-name : goal.invariant-loop-name
invariant-loop-name l = record {
  rest : l.both.items ++ variables.join (drop l.name-index l.self) l.other ≡ variables.join l.self l.other;
  few : length l.both.items ≤ l.name-index;
}
