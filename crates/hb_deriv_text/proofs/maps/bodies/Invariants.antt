use Rattle.hb_deriv_text.specs.Finds.{FindsBodies}
use Rattle.hb_deriv_text.proofs.maps.bodies.Given as goal

-- of those behind, the first are found
abbrev pub invariant-loop-i : goal.invariant-loop-i
invariant-loop-i l = FindsBodies l.prog l.i l.found
