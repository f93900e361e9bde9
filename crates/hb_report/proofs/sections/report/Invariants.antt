use Rattle.std.proofs.Common.{◌≡◌, take}
use Rattle.std.specs.List.{flat_map}
use Rattle.hb_eval.specs.Told.{told_by}
use Rattle.hb_report.specs.Report.{section}
use Rattle.hb_report.proofs.sections.report.Given as goal

abbrev pub invariant-loop-run : goal.invariant-loop-run
invariant-loop-run l = l.lines.items ≡ flat_map (λ run. section l.prog (told_by run)) (take l.run-index l.runs)
