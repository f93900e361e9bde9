use Rattle.std.proofs.Common.{rules}
use Rattle.hb_jobs.specs.Jobs.{options_told}
use Rattle.hb_top.specs.Answers.{IsReport}
use Rattle.hb_top.specs.declared.top.TheConstants.{LIMIT}
use Rattle.hb_top.proofs.TurnLemmas.{long-due}
use Rattle.hb_top.proofs.in_turns.run.Goals as goal

pub returns-then-text-clause-due : goal.returns-then-text-clause-due
returns-then-text-clause-due c = long-due LIMIT (IsReport (options_told c.args.options.now)) c.args.text.now c.too_long.result (search rules) c.too_long.ensures.due
