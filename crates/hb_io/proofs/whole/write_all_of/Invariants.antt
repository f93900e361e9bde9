use Rattle.std.proofs.Common.{◌≡◌, ◌≤◌, ◌++◌, length, List, ℕ}
use Rattle.std.specs.Io.KnownBytes.{Appends}
use Rattle.hb_io.proofs.whole.write_all_of.Given as goal

abbrev pub invariant-loop-rest : goal.invariant-loop-rest
invariant-loop-rest g l =
    (
    (done : List ℕ) × (l.initial.rest ≡ done ++ l.rest)
    × Appends (g.K.Sink.held l.initial.k) (g.K.Sink.held l.k) done
    )
    × (g.K.Sink.faults l.initial.k ≤ g.K.Sink.faults l.k)

abbrev pub decreases-loop-rest : goal.decreases-loop-rest
decreases-loop-rest g l = length l.rest
