use Rattle.hb_words.proofs.BeginningLemmas.{prefix_self}
use Rattle.hb_trials_words.proofs.CallsLemmas.{alone_held, decides_own}
use Rattle.hb_trials_words.proofs.calls.decide.Goals as goal

pub decide-requires-clause-held : goal.decide-requires-clause-held
decide-requires-clause-held g c = alone_held _ _ c.requires.held

pub decide-requires-clause-owned : goal.decide-requires-clause-owned
decide-requires-clause-owned g c = alone_held _ _ c.requires.held

pub returns-clause-calls : goal.returns-clause-calls
returns-clause-calls g c = decides_own _ _ _ _ _ _ _ _ c.decide.result c.decide.ensures.answer

pub decide-requires-clause-look : goal.decide-requires-clause-look
decide-requires-clause-look g c = (g.D.Desk.front c.args.desk.now, prefix_self (g.D.Desk.front c.args.desk.now), c.requires.look)
