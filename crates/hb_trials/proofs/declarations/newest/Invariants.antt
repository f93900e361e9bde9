use Rattle.std.proofs.Common.{◌<◌}
use Rattle.std.specs.Prelude.{IfSome}
use Rattle.hb_trials.proofs.declarations.newest.Given as goal

-- a site has a number of 16 bits
abbrev pub invariant-loop-i : goal.invariant-loop-i
invariant-loop-i l = IfSome l.site (λ s. s.0 < 65536)
