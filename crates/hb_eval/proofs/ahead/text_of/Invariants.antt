use Rattle.std.proofs.Common.{◌≡◌, drop}
use Rattle.hb_eval.specs.State.{value_at}
use Rattle.hb_eval.proofs.ahead.text_of.Given as goal

abbrev pub invariant-loop-known : goal.invariant-loop-known
invariant-loop-known l = value_at (drop l.known-index l.vars) l.name.0 ≡ value_at l.vars l.name.0
