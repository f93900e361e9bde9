use Rattle.std.proofs.Common.{◌≡◌}
use Rattle.hb_tables.specs.Plain.{AreOwn}
use Rattle.hb_eval.specs.Machines.{IsGoing}
use Rattle.hb_turns.specs.Collecting.{AreCollected}
use Rattle.hb_turns.specs.Playing.{IsUnderWay, PlaysOn}
use Rattle.hb_turns.proofs.run.play_alone.Given as goal

abbrev pub invariant-loop : goal.invariant-loop
invariant-loop l =
    IsGoing l.machine × IsUnderWay l.prog l.tables.limit l.names l.tables.log × AreOwn 0 l.tables.log × (l.tables.limit ≡ l.initial.tables.limit)
    × PlaysOn l.prog 0 l.initial.names l.names l.initial.tables.log l.tables.log l.initial.machine l.machine
    × AreCollected l.prog l.initial.names l.names l.initial.tables.log l.tables.log l.initial.share l.share

abbrev pub decreases-loop : goal.decreases-loop
decreases-loop l = l.machine.state.fuel
