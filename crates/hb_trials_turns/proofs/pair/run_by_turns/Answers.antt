use Rattle.hb_trials_turns.proofs.pair.run_by_turns.Goals as goal

pub take_turns-requires-clause-ready : goal.take_turns-requires-clause-ready
take_turns-requires-clause-ready c = c.in_ok-scripts.ensures.ready c.run_setup.new.names
