use Rattle.std.proofs.Common.{◌≡◌, drop}
use Rattle.hb_types.specs.Variables as variables
use Rattle.hb_types.proofs.env.Env.keeps.Given as goal

abbrev pub invariant-loop-name : goal.invariant-loop-name
invariant-loop-name l = variables.keeps (drop l.name-index l.self) l.later ≡ variables.keeps l.self l.later
