use Rattle.std.proofs.Common.{◌≡◌, drop}
use Rattle.hb_deriv.specs.Judge.{all_below}
use Rattle.hb_check.proofs.rules.all_below.Given as goal

-- what is left decides
abbrev pub invariant-loop-i : goal.invariant-loop-i
invariant-loop-i l = all_below l.fn.types l.fn.limits ≡ all_below (drop l.i l.fn.types) (drop l.i l.fn.limits)
