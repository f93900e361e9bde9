use Rattle.std.proofs.Common.{◌≡◌, ◌+◌, length, drop, false}
use Rattle.hb_tables.specs.Plain.{AreOwn}
use Rattle.hb_call.specs.OwnCache.{IsTrueCache}
use Rattle.hb_eval.specs.Gathering.{Shares}
use Rattle.hb_eval.specs.Holding.{Holding, frames_of}
use Rattle.hb_eval.specs.Machines.{IsFineMachine, IsGoing, keeps}
use Rattle.hb_eval.specs.Staying.{Stays}
use Rattle.hb_turns.specs.Players.{GoesAmong}
use Rattle.hb_turns.proofs.playing_out.take_turns.Given as goal

abbrev pub invariant-loop : goal.invariant-loop
invariant-loop g l =
    (l.player.over ≡ false) × IsGoing l.player.machine × IsFineMachine l.prog l.player.machine × (keeps l.player.machine ≡ false)
    × Holding (g.D.Desk.fixed l.desk).caller (l.player.machine.state.made + 1) (frames_of l.player.machine.frames.items) (g.D.Desk.front l.desk)
    × IsTrueCache l.prog l.names l.names (g.D.Desk.fixed l.desk).caller (g.D.Desk.front l.desk) l.player.machine.state.cache
    × Stays (g.D.Desk.fixed l.initial.desk) (g.D.Desk.fixed l.desk) (g.D.Desk.front l.initial.desk) (g.D.Desk.front l.desk) l.initial.names l.names
    × (AreOwn (g.D.Desk.fixed l.initial.desk).caller (drop (length (g.D.Desk.front l.initial.desk)) (g.D.Desk.front l.desk))
    → GoesAmong l.prog (g.D.Desk.fixed l.initial.desk).limit (g.D.Desk.fixed l.initial.desk).caller l.initial.names l.names
    (g.D.Desk.front l.initial.desk) (g.D.Desk.front l.desk) l.initial.player l.player)
    × Shares l.prog l.names (g.D.Desk.fixed l.initial.desk).caller (g.D.Desk.front l.initial.desk) (g.D.Desk.front l.desk) l.initial.share l.share

abbrev pub decreases-loop : goal.decreases-loop
decreases-loop g l = l.player.machine.state.fuel
