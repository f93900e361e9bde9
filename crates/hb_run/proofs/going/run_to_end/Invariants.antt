use Rattle.std.proofs.Common.{◌+◌, ◌≤◌, length}
use Rattle.hb_names.specs.declared.names.TheConstants.{NAMES_MAX}
use Rattle.hb_call.specs.OwnCache.{IsTrueCache}
use Rattle.hb_eval.specs.Holding.{Holding, frames_of}
use Rattle.hb_eval.specs.Machines.{IsFineMachine, IsGoing}
use Rattle.hb_run.specs.Going.{Went}
use Rattle.hb_run.proofs.going.run_to_end.Given as goal

abbrev pub invariant-loop-share : goal.invariant-loop-share
invariant-loop-share g l =
    IsFineMachine l.prog l.machine × IsGoing l.machine
    × Holding (g.D.Desk.fixed l.desk).caller (l.machine.state.made + 1) (frames_of l.machine.frames.items) (g.D.Desk.front l.desk)
    × (length (g.N.Names.known l.names) ≤ NAMES_MAX)
    × IsTrueCache l.prog (g.N.Names.known l.names) (g.N.Names.asked l.names) (g.D.Desk.fixed l.desk).caller (g.D.Desk.front l.desk) l.machine.state.cache
    × Went l.prog (g.D.Desk.fixed l.initial.desk) (g.D.Desk.fixed l.desk) (g.N.Names.known l.initial.names) (g.N.Names.known l.names) (g.N.Names.asked l.initial.names) (g.N.Names.asked l.names)
    (g.D.Desk.front l.initial.desk) (g.D.Desk.front l.desk) l.initial.machine l.machine
    × g.N.Names.alike l.initial.names l.names

abbrev pub decreases-loop-share : goal.decreases-loop-share
decreases-loop-share g l = l.machine.state.fuel
