use Rattle.std.proofs.Common.{◌≡◌, ◌++◌, map, rules}
use Rattle.hb_eval.specs.Told.{told_by}
use Rattle.hb_jobs.specs.Jobs.{options_told}
use Rattle.hb_report.specs.Report.{report_of}
use Rattle.hb_top.specs.Reports.{traced}
use Rattle.hb_top.proofs.RunLemmas.{due-reported}
use Rattle.hb_top.proofs.reports.report_by_turns.Goals as goal

pub returns-clause-due : goal.returns-clause-due
returns-clause-due c len =
    let t = c.args.program.now in
    let options = options_told c.args.options.now in
    let ran = c.in_ok-ran.ran in
    let runs = map told_by ran.runs.items in
    let text : c.extend_from_slice.new.self.items ≡ report_of t runs ++ traced t options ran.names ran.history.items = search rules in
    let due = due-reported t options len ran.names ran.history.items runs c.ending-ending.result c.extend_from_slice.new.self.items c.in_ok-ran.ensures.ran (search rules) text in
    (due.0, due.1, record { ending = due.2; text = due.3 }, due.4)
