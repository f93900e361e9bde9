use Rattle.hb_ordered.proofs.OpenLemmas.{next_one}
use Rattle.hb_ordered.proofs.laws.next_acts_are_one.Goals as goal

pub returns : goal.returns
returns c t limit names others d before done first second x differ differ' shared legal read meet stays stays' a b = next_one t limit names others d before done first second x differ differ' shared legal read meet stays stays' a b
