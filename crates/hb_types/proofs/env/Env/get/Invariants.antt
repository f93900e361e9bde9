use Rattle.std.proofs.Common.{◌≡◌, drop}
use Rattle.hb_types.specs.Variables as variables
use Rattle.hb_types.proofs.env.Env.get.Given as goal

abbrev pub invariant-loop-known : goal.invariant-loop-known
invariant-loop-known l = variables.get (drop l.known-index l.self) l.name.0 ≡ variables.get l.self l.name.0
