use Rattle.hb_sound.proofs.LawLemmas.{body_sound}
use Rattle.hb_sound.proofs.laws.bodies_are_sound.Goals as goal

pub returns : goal.returns
returns c = body_sound
