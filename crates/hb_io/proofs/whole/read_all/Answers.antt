use Rattle.std.proofs.Common.{rules}
use Rattle.hb_io.proofs.MoveLemmas.{Consumes-read}
use Rattle.hb_io.proofs.whole.read_all.Goals as goal

pub returns-then-piece-most-clause-too_long : goal.returns-then-piece-most-clause-too_long
returns-then-piece-most-clause-too_long g c = λ _.
    let read = c.in-Ok.ensures in
    let (bytes, taken, size) =
    Consumes-read _ _ _ _ _ c.in-Ok.count read.bound.0 c.loop-all.invariant.0 read.bytes.0 in
    (bytes, taken, search rules)

pub returns-in_err-extend_from_slice-clause-memory : goal.returns-in_err-extend_from_slice-clause-memory
returns-in_err-extend_from_slice-clause-memory g c = λ _.
    let read = c.in-Ok.ensures in
    let (bytes, taken, size) =
    Consumes-read _ _ _ _ _ c.in-Ok.count read.bound.0 c.loop-all.invariant.0 read.bytes.0 in
    (bytes, taken, search rules)
