-- What a rule concludes at a node: a type, or a reason why there is none.
use Rattle.std.specs.Prelude.{ℕ, Result, Ok, Err}
use Rattle.hb_types.specs.declared.types.Ty.{Ty}
use Rattle.hb_types.specs.Variables.{Variables}
use Rattle.hb_deriv.specs.declared.ill.Reason.{Reason}
use Rattle.hb_deriv.specs.Judge.{Typed, Verdict, fault}

-- the type behind these variables, or the fault at this node
abbrev pub concluded : ℕ → Variables → Result Ty Reason → Verdict Typed
concluded id G (Ok t) = Ok (G, t)
concluded id G (Err r) = fault id r
