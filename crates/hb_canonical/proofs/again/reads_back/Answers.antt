use Rattle.hb_canonical.proofs.AgainLemmas.{reads-back}
use Rattle.hb_canonical.proofs.again.reads_back.Goals as goal

pub returns : goal.returns
returns c = λ text tokens others t lexed ok says relexed. reads-back text tokens t lexed ok says others relexed
