use Rattle.std.proofs.Common.{rules, [], option_map, refl}
use Rattle.std.proofs.KnownBytes.{Consumes-nil}
use Rattle.hb_jobs.specs.Jobs.{told}
use Rattle.hb_top.specs.Answers.{IsDueFor}
use Rattle.hb_top.specs.Outcomes.{words_refused}
use Rattle.hb_top.proofs.RunLemmas.{generated-due, worked-due}
use Rattle.hb_top.proofs.top.due_for.Goals as goal

pub returns-in_ok-new-in-None-clause-due : goal.returns-in_ok-new-in-None-clause-due
returns-in_ok-new-in-None-clause-due g c =
    let due : IsDueFor (option_map told c.args.job.now) (g.S.Source.left c.args.source.now) words_refused = search rules in
    (words_refused, due, search rules, ([], Consumes-nil _, refl))

pub returns-in-Some-Gen-clause-due : goal.returns-in-Some-Gen-clause-due
returns-in-Some-Gen-clause-due g c =
    generated-due (option_map told c.args.job.now) c.in-Some-Gen.size.number (g.S.Source.left c.args.source.now) c.generated_due.result (search rules) c.generated_due.ensures.due

pub returns-in-Some-Work-clause-due : goal.returns-in-Some-Work-clause-due
returns-in-Some-Work-clause-due g c =
    worked-due (option_map told c.args.job.now) c.in-Some-Work.size.number (g.S.Source.left c.args.source.now) c.work.result (search rules) c.work.ensures.due
