use Rattle.hb_trials_words.proofs.CallsLemmas.{learns_own}
use Rattle.hb_trials_words.proofs.calls.look.Goals as goal

pub returns-clause-calls : goal.returns-clause-calls
returns-clause-calls g c = learns_own _ _ _ c.look.ensures.seen.0
