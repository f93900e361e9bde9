use Rattle.std.proofs.Common.{ℕ, List, map, subst}
use Rattle.hb_eval.specs.Told.{told_by}
use Rattle.hb_jobs.specs.Jobs.{options_told}
use Rattle.hb_turns.specs.Players.{IsOrdered}
use Rattle.hb_top.specs.Reports.{order_or_none}
use Rattle.hb_top.proofs.runs.run_by_turns.Goals as goal

pub returns-clause-ran : goal.returns-clause-ran
returns-clause-ran c =
    let t = c.args.program.now in
    let options = options_told c.args.options.now in
    let ran = c.in_ok-ran.ran in
    let runs = map told_by ran.runs.items in
    let ordered : IsOrdered t options.changes options.steps (order_or_none options) ran.names ran.history.items runs =
    subst (λ (order : List ℕ). IsOrdered t options.changes options.steps order ran.names ran.history.items runs) c.order.ensures c.in_ok-ran.ensures.ordered in record {
      history = ordered.history;
      in_order = λ fixed. ordered;
      promise = c.in_ok-ran.ensures.promise;
      bodies = c.in_ok-ran.ensures.bodies c.requires.once;
      free = c.in_ok-ran.ensures.free;
    }
