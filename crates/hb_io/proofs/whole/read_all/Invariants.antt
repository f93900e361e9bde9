use Rattle.std.proofs.Common.{◌≤◌, ◌-◌, ◌+◌, vec_len}
use Rattle.std.specs.Io.KnownBytes.{Consumes}
use Rattle.hb_io.proofs.whole.read_all.Given as goal

abbrev pub invariant-loop-all : goal.invariant-loop-all
invariant-loop-all g l =
    Consumes (g.S.Source.left l.initial.s) (g.S.Source.left l.s) l.all.items
    × (g.S.Source.faults l.initial.s ≤ g.S.Source.faults l.s)
    × (vec_len l.all ≤ l.most)

abbrev pub decreases-loop-all : goal.decreases-loop-all
decreases-loop-all g l = l.most + 1 - vec_len l.all
