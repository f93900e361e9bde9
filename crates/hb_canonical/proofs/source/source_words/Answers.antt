use Rattle.hb_canonical.proofs.SourceLemmas.{source-words}
use Rattle.hb_canonical.proofs.source.source_words.Goals as goal

pub returns : goal.returns
returns c = source-words
