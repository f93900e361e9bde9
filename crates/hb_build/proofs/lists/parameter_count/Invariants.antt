use Rattle.std.proofs.Common.{◌≡◌, ◌≤◌, ◌+◌, ◌-◌, length, drop, reverse}
use Rattle.hb_build.specs.Sound.{parameters_of}
use Rattle.hb_build.proofs.lists.parameter_count.Given as goal

abbrev pub invariant-loop-count : goal.invariant-loop-count
invariant-loop-count l = record {
  within : l.count ≤ length l.held;
  are : length (parameters_of (reverse l.held)) ≡ l.count + length (parameters_of (drop l.count (reverse l.held)));
}

abbrev pub decreases-loop-count : goal.decreases-loop-count
decreases-loop-count l = length l.held - l.count
