use Rattle.hb_trials_turns.proofs.ScriptLemmas.{one_turned, two_turned}
use Rattle.hb_trials_turns.proofs.pair.Pair.take_turn.Goals as goal

pub returns-in-1-clause-ready : goal.returns-in-1-clause-ready
returns-in-1-clause-ready c = let e = c.advance.ensures in one_turned _ _ _ _ c.args.self.now _ e.named c.advance.result e.caller e.ready c.requires.ready

pub returns-in-2-clause-ready : goal.returns-in-2-clause-ready
returns-in-2-clause-ready c = let e = c.advance-in-2.ensures in two_turned _ _ _ _ c.args.self.now _ e.named c.advance-in-2.result e.caller e.ready c.requires.ready
