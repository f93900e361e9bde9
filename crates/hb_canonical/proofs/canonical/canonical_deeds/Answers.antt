use Rattle.hb_canonical.proofs.ProgramTextLemmas.{canonical_deeds}
use Rattle.hb_canonical.proofs.canonical.canonical_deeds.Goals as goal

pub returns : goal.returns
returns c = λ t tokens ok. canonical_deeds t ok tokens
