use Rattle.hb_gen.proofs.ShortLemmas.{generated_short}
use Rattle.hb_gen.proofs.laws.generated_texts_are_short.Goals as goal

pub returns : goal.returns
returns c = generated_short
