use Rattle.std.proofs.Common.{arith}
use Rattle.hb_eval.proofs.BindLemmas.{bound_all}
use Rattle.hb_eval.proofs.calls.bind.Goals as goal

pub returns-clause-bound : goal.returns-clause-bound
returns-clause-bound c =
    bound_all c.loop-i.vars.items _ c.args.params.now c.loop-i.operands.items c.args.from c.loop-i.i c.min-count.result c.loop-i.invariant.bound
    (omega (arith, c.min-count.ensures, c.len.ensures, c.args.operands.now.ok, c.loop-i.invariant.size)) (omega (arith, c.loop-i-test.false))
