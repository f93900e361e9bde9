use Rattle.std.proofs.Common.{◌≡◌, ℕ, List, length}
use mathlib.Core.List.{IsPrefix}
use Rattle.hb_tree.specs.Table.{Table}
use Rattle.hb_names.specs.Names.{Name}
use Rattle.hb_tables.specs.History.{IsLegal}
use Rattle.hb_call.specs.Growth.{Grown}
use Rattle.hb_eval.specs.Holding.{Holding, frames_of}
use Rattle.hb_eval.proofs.leaving.leave_all.Given as goal

-- the frames that are left hold their keys, and nothing else is held
abbrev pub invariant-loop-framed : goal.invariant-loop-framed
invariant-loop-framed g l = record {
  holding : (next : ℕ) × Holding (g.D.Desk.fixed l.fn.desk).caller next (frames_of l.frames.items) (g.D.Desk.front l.desk);
  kept : IsPrefix (g.D.Desk.front l.fn.desk) (g.D.Desk.front l.desk);
  grown : (t : Table) (names asked : List Name) → Grown t (g.D.Desk.fixed l.fn.desk).caller names asked asked (g.D.Desk.front l.fn.desk) (g.D.Desk.front l.desk);
  legal : IsLegal (g.D.Desk.fixed l.fn.desk).limit (g.D.Desk.front l.fn.desk) → IsLegal (g.D.Desk.fixed l.fn.desk).limit (g.D.Desk.front l.desk);
  fixed : g.D.Desk.fixed l.desk ≡ g.D.Desk.fixed l.fn.desk;
}

abbrev pub decreases-loop-framed : goal.decreases-loop-framed
decreases-loop-framed g l = length l.frames.items
