use Rattle.hb_canonical.proofs.PerformLemmas.{deeds-build}
use Rattle.hb_canonical.proofs.source.deeds_build.Goals as goal

pub returns : goal.returns
returns c = deeds-build
