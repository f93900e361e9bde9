use Rattle.hb_deriv_text.specs.Finds.{FindsWords}
use Rattle.hb_deriv_text.proofs.maps.names.Given as goal

-- of those behind, the first are found
abbrev pub invariant-loop-i : goal.invariant-loop-i
invariant-loop-i l = FindsWords (λ w. w.now) (λ c. c.0) l.prog.names l.i l.found
