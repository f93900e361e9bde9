use Rattle.hb_deriv_text.specs.Finds.{FindsTypes}
use Rattle.hb_deriv_text.proofs.maps.types.Given as goal

-- of those behind, the first are found
abbrev pub invariant-loop-i : goal.invariant-loop-i
invariant-loop-i l = FindsTypes l.prog l.i l.found
