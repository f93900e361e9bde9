use Rattle.hb_tables.proofs.FrameLemmas.{held_since}
use Rattle.hb_tables.proofs.laws.holds_keep_types.Goals as goal

pub returns : goal.returns
returns c = held_since
