use Rattle.hb_canonical.proofs.SimulationLemmas.{simulated}
use Rattle.hb_canonical.proofs.simulation.simulated.Goals as goal

pub returns : goal.returns
returns c = simulated
