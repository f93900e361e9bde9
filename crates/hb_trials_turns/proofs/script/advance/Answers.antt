use Rattle.hb_trials_turns.proofs.ScriptLemmas.{checks_on}
use Rattle.hb_trials_turns.proofs.script.advance.Goals as goal

pub returns-clause-checks : goal.returns-clause-checks
returns-clause-checks g c = checks_on c.advance.result _ _ _ _ _ _ _ _ c.advance.ensures.own c.requires.checks
