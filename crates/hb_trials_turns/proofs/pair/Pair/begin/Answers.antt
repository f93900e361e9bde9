use Rattle.hb_trials_turns.proofs.pair.Pair.begin.Goals as goal

pub returns-clause-ready : goal.returns-clause-ready
returns-clause-ready c = λ names. record {
  one = c.in_ok-one.ensures.ready names;
  two = c.in_ok-two.ensures.ready names;
  first = c.in_ok-one.ensures.caller;
  second = c.in_ok-two.ensures.caller;
}
