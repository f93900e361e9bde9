use Rattle.hb_trials_words.proofs.CallsLemmas.{types_own}
use Rattle.hb_trials_words.proofs.calls.set_type.Goals as goal

pub returns-clause-calls : goal.returns-clause-calls
returns-clause-calls g c = types_own _ _ _ c.args.site c.set_type.result c.set_type.ensures.entry
