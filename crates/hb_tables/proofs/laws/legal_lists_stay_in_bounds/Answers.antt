use Rattle.hb_tables.proofs.HistoryLemmas.{sound}
use Rattle.hb_tables.proofs.laws.legal_lists_stay_in_bounds.Goals as goal

pub returns : goal.returns
returns c = sound
