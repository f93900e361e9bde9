use Rattle.std.proofs.Common.{rules}
use Rattle.hb_top.specs.Answers.{AreVerdicts}
use Rattle.hb_top.specs.declared.verify.TheConstants.{BUNDLE_LIMIT}
use Rattle.hb_top.proofs.TurnLemmas.{long-due}
use Rattle.hb_top.proofs.in_turns.verify.Goals as goal

pub returns-then-bytes-clause-due : goal.returns-then-bytes-clause-due
returns-then-bytes-clause-due c = long-due BUNDLE_LIMIT AreVerdicts c.args.bytes.now c.too_long.result (search rules) c.too_long.ensures.due
