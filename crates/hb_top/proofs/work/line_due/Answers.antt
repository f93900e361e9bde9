use Rattle.std.proofs.Common.{refl, map, arith, rules}
use Rattle.std.proofs.lemmas.List.{length-map}
use Rattle.hb_eval.specs.Told.{told_by}
use Rattle.hb_top.specs.Work.{worked}
use Rattle.hb_top.proofs.WorkLemmas.{few_runs}
use Rattle.hb_top.proofs.work.line_due.Goals as goal

pub work_line-requires : goal.work_line-requires
work_line-requires c =
    let few = few_runs c.args.program.now _ _ _ _ (map told_by c.args.runs.now) c.requires.is c.requires.ran.2.history in
    let same = length-map c.args.runs.now told_by in omega (arith, few, same)

pub returns-clause-due : goal.returns-clause-due
returns-clause-due c =
    let ran = c.requires.ran in let runs = map told_by c.args.runs.now in (
      worked c.args.size.now.number runs,
      record { names = ran.0; log = ran.1; runs = runs; ran = ran.2; same = refl },
      search rules,
      refl,
    )
