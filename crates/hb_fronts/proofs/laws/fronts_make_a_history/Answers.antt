use Rattle.hb_fronts.proofs.FrontLemmas.{history_of_fronts}
use Rattle.hb_fronts.proofs.laws.fronts_make_a_history.Goals as goal

pub returns : goal.returns
returns c t limit steps names log first others runs exits joined = history_of_fronts t limit steps names log first others runs exits joined
