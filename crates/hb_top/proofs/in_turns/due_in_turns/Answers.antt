use Rattle.std.proofs.Common.{rules, Some, option_map}
use Rattle.hb_jobs.specs.Jobs.{told}
use Rattle.hb_top.specs.Answers.{IsDueFor}
use Rattle.hb_top.specs.Outcomes.{words_refused}
use Rattle.hb_top.proofs.TurnLemmas.{made-due}
use Rattle.hb_top.proofs.in_turns.due_in_turns.Goals as goal

pub returns-in_ok-new-in-None-clause-due : goal.returns-in_ok-new-in-None-clause-due
returns-in_ok-new-in-None-clause-due c =
    let due : IsDueFor (option_map told c.args.job.now) (Some c.args.bytes.now) words_refused = search rules in (words_refused, due, search rules)

pub returns-in-Some-Gen-clause-due : goal.returns-in-Some-Gen-clause-due
returns-in-Some-Gen-clause-due c =
    made-due (option_map told c.args.job.now) c.in-Some-Gen.size.number (Some c.args.bytes.now) c.generated_due.result (search rules) c.generated_due.ensures.due
