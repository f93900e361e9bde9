use Rattle.std.proofs.Common.{rules}
use Rattle.hb_top.specs.Answers.{IsBundle}
use Rattle.hb_top.specs.declared.top.TheConstants.{LIMIT}
use Rattle.hb_top.proofs.TurnLemmas.{long-due}
use Rattle.hb_top.proofs.in_turns.derive.Goals as goal

pub returns-then-text-clause-due : goal.returns-then-text-clause-due
returns-then-text-clause-due c = long-due LIMIT IsBundle c.args.text.now c.too_long.result (search rules) c.too_long.ensures.due
