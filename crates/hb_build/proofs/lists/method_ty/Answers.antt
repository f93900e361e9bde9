use Rattle.std.proofs.Common.{arith}
use Rattle.hb_build.proofs.FilledLemmas.{filled-set}
use Rattle.hb_build.proofs.lists.method_ty.Goals as goal

pub loop-i-preserved : goal.loop-i-preserved
loop-i-preserved c = let e = c.loop-i.invariant in rw e (filled-set 4 c.args.params.now c.loop-i.i _ c.loop-i-test.true (omega arith))
