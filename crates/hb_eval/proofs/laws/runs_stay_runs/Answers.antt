use Rattle.hb_eval.proofs.LongerLemmas.{runs_stay}
use Rattle.hb_eval.proofs.laws.runs_stay_runs.Goals as goal

pub returns : goal.returns
returns c = runs_stay
