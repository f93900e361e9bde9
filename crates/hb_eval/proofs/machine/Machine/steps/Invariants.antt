use Rattle.std.proofs.Common.{◌≡◌, ◌+◌}
use Rattle.hb_eval.specs.declared.state.Hand.TheVariants as hands
use Rattle.hb_eval.specs.Holding.{Holding, frames_of}
use Rattle.hb_eval.specs.Gathering.{Shares}
use Rattle.hb_eval.specs.Staying.{Stays}
use Rattle.hb_eval.specs.Machines.{Carries, turns_left}
use Rattle.hb_eval.proofs.machine.Machine.steps.Given as goal

abbrev pub invariant-steps : goal.invariant-steps
invariant-steps g l = record {
  carries : Carries l.prog (g.D.Desk.fixed l.fn.desk).caller (g.N.Names.known l.fn.names) (g.N.Names.known l.names) (g.N.Names.asked l.fn.names) (g.N.Names.asked l.names) (g.D.Desk.front l.fn.desk) (g.D.Desk.front l.desk) l.fn.self l.self;
  holding : Holding (g.D.Desk.fixed l.fn.desk).caller (l.self.state.made + 1) (frames_of l.self.frames.items) (g.D.Desk.front l.desk);
  stays : Stays (g.D.Desk.fixed l.fn.desk) (g.D.Desk.fixed l.desk) (g.D.Desk.front l.fn.desk) (g.D.Desk.front l.desk) (g.N.Names.known l.fn.names) (g.N.Names.known l.names);
  shares : Shares l.prog (g.N.Names.known l.names) (g.D.Desk.fixed l.fn.desk).caller (g.D.Desk.front l.fn.desk) (g.D.Desk.front l.desk) l.fn.share l.share;
  alike : g.N.Names.alike l.fn.names l.names;
  gives : l.self.hand ≡ hands.Gives;
  caller : l.self.caller ≡ l.fn.self.caller;
  journal : l.self.journal ≡ l.fn.self.journal;
}

abbrev pub decreases-steps : goal.decreases-steps
decreases-steps g l = turns_left l.self
