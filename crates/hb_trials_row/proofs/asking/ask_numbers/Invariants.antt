use Rattle.hb_trials_row.proofs.asking.ask_numbers.Given as goal

abbrev pub invariant-loop-step : goal.invariant-loop-step
invariant-loop-step g l = g.N.Names.alike l.fn.names l.names
