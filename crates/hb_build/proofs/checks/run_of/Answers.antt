use Rattle.std.proofs.{Common.arith, lemmas.Bool.both_ways}
use Rattle.hb_build.proofs.RunLemmas.{run-more, run-stops, run-over}
use Rattle.hb_build.proofs.checks.run_of.Goals as goal

pub loop-count-preserved : goal.loop-count-preserved
loop-count-preserved c = record {
  within = omega arith;
  same = run-more c.args.held.now c.loop-count.count c.args.thing _ c.loop-count-test.true (c.is_same.ensures.0 c.if-is_same.true) c.loop-count.invariant.same;
}

pub returns-else-is_same-clause-ends : goal.returns-else-is_same-clause-ends
returns-else-is_same-clause-ends c =
    λ e. both_ways c.is_same.result c.if-is_same.false (c.is_same.ensures.1 (run-stops c.args.held.now c.loop-count.count c.args.thing _ c.loop-count-test.true e))

pub returns-after-loop-count-clause-ends : goal.returns-after-loop-count-clause-ends
returns-after-loop-count-clause-ends c = λ e. run-over c.args.held.now c.loop-count.count c.args.thing c.loop-count-test.false e
