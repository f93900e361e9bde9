use Rattle.std.proofs.Common.{◌≡◌, ◌+◌, List, length}
use mathlib.Core.List.{IsPrefix}
use Rattle.hb_tree.specs.Table.{Table}
use Rattle.hb_names.specs.Names.{Name}
use Rattle.hb_tables.specs.History.{IsLegal}
use Rattle.hb_eval.specs.declared.state.Hand.TheVariants as hands
use Rattle.hb_eval.specs.Holding.{Holding, frames_of}
use Rattle.hb_eval.specs.Machines.{Carries, IsFineMachine}
use Rattle.hb_eval.specs.Steps.{SameCalls}
use Rattle.hb_eval.proofs.machine.Machine.unwind.Given as goal

abbrev pub invariant-passing : goal.invariant-passing
invariant-passing g l = record {
  fine : (t : Table) → IsFineMachine t l.fn.self → IsFineMachine t l.self;
  stops : l.self.hand ≡ hands.Stops;
  unwinds : (t : Table) → IsFineMachine t l.fn.self → (known asked : List Name) → Carries t (g.D.Desk.fixed l.fn.desk).caller known known asked asked (g.D.Desk.front l.fn.desk) (g.D.Desk.front l.desk) l.fn.self l.self;
  calls : SameCalls l.fn.self.state l.self.state;
  holding : Holding (g.D.Desk.fixed l.fn.desk).caller (l.self.state.made + 1) (frames_of l.self.frames.items) (g.D.Desk.front l.desk);
  kept : IsPrefix (g.D.Desk.front l.fn.desk) (g.D.Desk.front l.desk);
  legal : IsLegal (g.D.Desk.fixed l.fn.desk).limit (g.D.Desk.front l.fn.desk) → IsLegal (g.D.Desk.fixed l.fn.desk).limit (g.D.Desk.front l.desk);
  fixed : g.D.Desk.fixed l.desk ≡ g.D.Desk.fixed l.fn.desk;
  caller : l.self.caller ≡ l.fn.self.caller;
  journal : l.self.journal ≡ l.fn.self.journal;
}

abbrev pub decreases-passing : goal.decreases-passing
decreases-passing g l = length l.self.conts.items
