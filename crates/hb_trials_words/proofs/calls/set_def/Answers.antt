use Rattle.hb_trials_words.proofs.CallsLemmas.{defs_own}
use Rattle.hb_trials_words.proofs.calls.set_def.Goals as goal

pub returns-clause-calls : goal.returns-clause-calls
returns-clause-calls g c = defs_own _ _ _ c.args.site c.set_def.result c.set_def.ensures.entry
