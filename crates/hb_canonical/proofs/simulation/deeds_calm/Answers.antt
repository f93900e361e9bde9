use Rattle.hb_canonical.proofs.CalmLemmas.{deeds-calm}
use Rattle.hb_canonical.proofs.simulation.deeds_calm.Goals as goal

pub returns : goal.returns
returns c = deeds-calm
