use Rattle.hb_sound.proofs.PartLemmas.{parts_judged, parts_reached}
use Rattle.hb_sound.proofs.laws.parts_are_judged.Goals as goal

pub returns-clause-reached : goal.returns-clause-reached
returns-clause-reached c = parts_reached

pub returns-clause-judged : goal.returns-clause-judged
returns-clause-judged c = parts_judged
