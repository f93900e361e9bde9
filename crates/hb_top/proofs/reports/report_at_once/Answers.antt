use Rattle.std.proofs.Common.{[], List, ℕ, ◌≡◌, ◌++◌, ◌∙◌, ap, map, rules}
use Rattle.std.specs.Prelude.{if◌then◌else◌}
use Rattle.hb_eval.specs.Told.{told_by}
use Rattle.hb_jobs.specs.Jobs.{options_told}
use Rattle.hb_report.specs.Journals.{kept_in}
use Rattle.hb_report.specs.Report.{report_of}
use Rattle.hb_report.specs.Trace.{trace_of}
use Rattle.hb_words.specs.Seats.{history}
use Rattle.hb_top.proofs.RunLemmas.{due-reported}
use Rattle.hb_top.proofs.reports.report_at_once.Goals as goal

pub returns-clause-due : goal.returns-clause-due
returns-clause-due g c len =
    let t = c.args.program.now in
    let options = options_told c.args.options.now in
    let ran = c.in_ok-ran.ran in
    let runs = map told_by ran.runs.items in
    let text : c.extend_from_slice.new.self.items ≡ report_of t runs ++ (if options.trace then trace_of t ran.names (kept_in ran.runs.items) else []) = search rules in
    let due = due-reported t options len ran.names (history ran.closed) runs c.ending-ending.result c.extend_from_slice.new.self.items
    c.in_ok-ran.ensures.ran (search rules) (text ∙ ap (λ (l : List ℕ). report_of t runs ++ l) c.in_ok-ran.ensures.kept) in
    (due.0, due.1, record { ending = due.2; text = due.3 }, due.4)
