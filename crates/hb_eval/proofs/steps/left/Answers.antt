use Rattle.std.proofs.Common.{sym, subst}
use Rattle.std.specs.List.{AllByRecursion}
use Rattle.hb_eval.specs.Values.{IsKnown}
use Rattle.hb_eval.proofs.KnownLemmas.{pushed_known}
use Rattle.hb_eval.proofs.steps.left.Goals as goal

pub returns-clause-known : goal.returns-clause-known
returns-clause-known c known =
    let t = c.args.prog.now in
    rw c.first.ensures.state (record {
      acc = c.taken-value.ensures.known t known.acc;
      operands = subst (AllByRecursion (IsKnown t)) (sym c.in_ok-push.ensures.items)
          (pushed_known t c.args.state.now.operands.items c.taken-value.result known.operands (subst (IsKnown t) (sym c.taken-value.ensures.value) known.acc));
      vars = known.vars;
      class = known.class;
    })
