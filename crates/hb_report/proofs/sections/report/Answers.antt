use Rattle.std.proofs.Common.{◌∙◌, ap, sym}
use Rattle.std.specs.List.{flat_map}
use Rattle.std.proofs.{lemmas.List.take_all, lemmas.List.Folds.flat_map-map}
use Rattle.hb_eval.specs.Told.{told_by}
use Rattle.hb_report.specs.Report.{section}
use Rattle.hb_report.proofs.sections.report.Goals as goal

pub returns : goal.returns
returns c =
    c.loop-run.invariant
    ∙ ap (flat_map (λ run. section c.args.prog.now (told_by run))) (take_all c.loop-run.run-index c.args.runs.now c.loop-run-test.false)
    ∙ sym (flat_map-map (section c.args.prog.now) told_by c.args.runs.now)
