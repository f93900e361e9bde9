use Rattle.std.proofs.Common.{◌≡◌, ◌-◌, length, drop, reverse}
use Rattle.hb_build.specs.Sound.{parameter_types_of}
use Rattle.hb_build.proofs.lists.parameter_types.Given as goal

abbrev pub invariant-loop-thing : goal.invariant-loop-thing
invariant-loop-thing l = l.types.items ≡ parameter_types_of (drop (length (parameter_types_of (reverse l.held)) - l.thing-index) (reverse l.held))
