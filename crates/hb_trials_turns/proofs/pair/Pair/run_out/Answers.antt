use Rattle.std.proofs.Common.{rules, ◌∙◌}
use Rattle.hb_trials_turns.proofs.CoverLemmas.{covers_pair}
use Rattle.hb_trials_turns.proofs.ScriptLemmas.{still_ready}
use Rattle.hb_trials_turns.proofs.pair.Pair.run_out.Goals as goal

pub run_out-requires-2-clause-ready : goal.run_out-requires-2-clause-ready
run_out-requires-2-clause-ready c = still_ready _ _ _ _ _ c.run_out.ensures.named c.requires.ready.two

pub close-closed-requires-clause-all : goal.close-closed-requires-clause-all
close-closed-requires-clause-all c =
    let one = c.in_ok-run.ensures.caller.0 ∙ c.requires.ready.first in
    let two = c.in_ok-run-2.ensures.caller.0 ∙ c.requires.ready.second in
    search (rules, covers_pair)
