use Rattle.std.proofs.Common.{◌≤◌, length}
use Rattle.hb_names.specs.declared.names.TheConstants.{NAMES_MAX}
use Rattle.hb_trials_turns.specs.Scripts.{AreReady}
use Rattle.hb_trials_turns.proofs.pair.Pair.take_turns.Given as goal

abbrev pub invariant-loop-caller : goal.invariant-loop-caller
invariant-loop-caller l = AreReady l.prog l.words l.names l.self × (length l.names ≤ NAMES_MAX)
