use Rattle.std.proofs.Common.{◌≡◌, ◌-◌, length, drop, reverse}
use Rattle.hb_build.specs.Sound.{numbers, parameters_of}
use Rattle.hb_build.proofs.lists.parameters.Given as goal

abbrev pub invariant-loop-thing : goal.invariant-loop-thing
invariant-loop-thing l = numbers l.names.items ≡ parameters_of (drop (length (parameters_of (reverse l.held)) - l.thing-index) (reverse l.held))
