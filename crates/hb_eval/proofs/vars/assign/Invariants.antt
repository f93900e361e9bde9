use Rattle.std.proofs.Common.{◌≡◌, ◌≤◌, ◌-◌, drop}
use Rattle.hb_eval.proofs.VariableLemmas.{NotIn}
use Rattle.hb_eval.proofs.vars.assign.Given as goal

abbrev pub invariant-loop-i : goal.invariant-loop-i
invariant-loop-i l = (l.vars ≡ l.fn.vars) × (l.base ≤ l.i) × NotIn (l.i - l.base) (drop l.base l.vars.items) l.name.0
