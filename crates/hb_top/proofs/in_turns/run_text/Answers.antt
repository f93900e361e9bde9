use Rattle.std.proofs.Common.{length, subst}
use Rattle.hb_jobs.specs.Jobs.{options_told}
use Rattle.hb_tree.specs.Table.{Table}
use Rattle.hb_top.specs.Reports.{IsReported}
use Rattle.hb_top.specs.Texts.{IsReading}
use Rattle.hb_top.proofs.RunLemmas.{faulty-due, whole-due}
use Rattle.hb_top.proofs.in_turns.run_text.Goals as goal

pub returns-in-Program-clause-due : goal.returns-in-Program-clause-due
returns-in-Program-clause-due c =
    let text = c.args.text.now in
    whole-due (λ (t : Table). IsReported t (options_told c.args.options.now) (length text)) text (length text) _ c.report_by_turns.result
    (subst (IsReading text) c.in-Program.is c.in_ok-reading.ensures.reading).0 c.report_by_turns.ensures.is (c.report_by_turns.ensures.due _)

pub returns-in-Refused-clause-due : goal.returns-in-Refused-clause-due
returns-in-Refused-clause-due c =
    let text = c.args.text.now in
    faulty-due (λ (t : Table). IsReported t (options_told c.args.options.now) (length text)) text (length text) _
    (subst (IsReading text) c.in-Refused.is c.in_ok-reading.ensures.reading)
