use Rattle.hb_sound.proofs.LawLemmas.{frame_sound}
use Rattle.hb_sound.proofs.laws.frames_are_sound.Goals as goal

pub returns : goal.returns
returns c = frame_sound
