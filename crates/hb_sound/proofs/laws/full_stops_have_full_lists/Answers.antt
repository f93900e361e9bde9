use Rattle.hb_sound.proofs.FillLemmas.{full_stop}
use Rattle.hb_sound.proofs.laws.full_stops_have_full_lists.Goals as goal

pub returns : goal.returns
returns c t names limit log d legal rules few = full_stop t names limit log d legal rules few
