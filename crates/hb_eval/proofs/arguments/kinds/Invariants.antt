use Rattle.std.proofs.Common.{◌≡◌, ◌-◌, length, map, take, drop, replicate}
use Rattle.hb_types.specs.declared.types.TheConstants.{PARAMS_MAX}
use Rattle.hb_types.specs.declared.types.Ty.TheVariants as ty
use Rattle.hb_eval.specs.Values.{kind_of}
use Rattle.hb_eval.proofs.arguments.kinds.Given as goal

abbrev pub invariant-loop-i : goal.invariant-loop-i
invariant-loop-i l = (length l.kinds ≡ PARAMS_MAX) × (take l.i l.kinds ≡ map kind_of (take l.i l.values)) × (drop l.i l.kinds ≡ replicate (PARAMS_MAX - l.i) ty.Nil)
