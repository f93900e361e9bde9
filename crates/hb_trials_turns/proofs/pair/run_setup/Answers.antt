use Rattle.hb_trials_turns.proofs.pair.run_setup.Goals as goal

pub run_out-requires-clause-ready : goal.run_out-requires-clause-ready
run_out-requires-clause-ready c = c.in_ok-setup.ensures.ready c.args.names.now
