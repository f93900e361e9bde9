use Rattle.hb_trials.specs.Desks.{IsReady}
use Rattle.hb_trials.proofs.hands.make_changes.Given as goal

abbrev pub invariant-loop-next : goal.invariant-loop-next
invariant-loop-next g l = IsReady l.prog (g.N.Names.known l.names) (g.N.Names.asked l.names) (g.D.Desk.fixed l.desk) (g.D.Desk.front l.desk) l.cache
