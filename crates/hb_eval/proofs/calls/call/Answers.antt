use Rattle.std.proofs.lemmas.Result.{IfOk-weaker}
use Rattle.hb_eval.specs.declared.state.Hand.{Hand}
use Rattle.hb_eval.proofs.calls.call.Goals as goal

pub returns-clause-turned : goal.returns-clause-turned
returns-clause-turned g c = IfOk-weaker c.take.result _ _ (λ (h : Hand) took. record {
  move = c.in_ok-next.next;
  took = took;
  reads = c.in_ok-next.ensures.reads;
  goes = c.in_ok-next.ensures.goes;
  light = c.in_ok-next.ensures.light;
}) c.take.ensures.took
