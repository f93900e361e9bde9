use Rattle.hb_trials_words.proofs.CallsLemmas.{alone_held, frees_own}
use Rattle.hb_trials_words.proofs.calls.free.Goals as goal

pub free-requires-clause-held : goal.free-requires-clause-held
free-requires-clause-held g c = alone_held _ _ c.requires.held

pub returns-clause-idle : goal.returns-clause-idle
returns-clause-idle g c = frees_own _ _ _ c.free.ensures.entry c.requires.held
