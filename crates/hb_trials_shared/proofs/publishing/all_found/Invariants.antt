use Rattle.std.proofs.Common.{◌-◌}
use Rattle.hb_trials_shared.proofs.publishing.all_found.Given as goal

abbrev pub decreases-loop-at : goal.decreases-loop-at
decreases-loop-at l = 1024 - l.index
