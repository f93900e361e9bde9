use Rattle.hb_canonical.proofs.SourceLemmas.{source-depth}
use Rattle.hb_canonical.proofs.source.source_depth.Goals as goal

pub returns : goal.returns
returns c = source-depth
