use Rattle.std.proofs.Common.{length, ◌-◌, ◌≡◌, ◌≤◌, take, reverse}
use Rattle.std.specs.List.{AllByRecursion}
use Rattle.hb_build.proofs.checks.run_of.Given as goal

abbrev pub invariant-loop-count : goal.invariant-loop-count
invariant-loop-count l = record {
  within : l.count ≤ length l.held;
  same : AllByRecursion (λ t. t ≡ l.thing) (take l.count (reverse l.held));
}

abbrev pub decreases-loop-count : goal.decreases-loop-count
decreases-loop-count l = length l.held - l.count
