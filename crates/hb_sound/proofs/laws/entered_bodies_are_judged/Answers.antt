use Rattle.hb_sound.proofs.LawLemmas.{call_enters}
use Rattle.hb_sound.proofs.laws.entered_bodies_are_judged.Goals as goal

pub returns : goal.returns
returns c = call_enters
