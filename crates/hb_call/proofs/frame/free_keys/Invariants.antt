use Rattle.std.proofs.Common.{◌≡◌, ◌++◌, drop}
use mathlib.Core.List.{IsPrefix}
use Rattle.hb_tables.specs.{History.IsLegal, Frames.acts}
use Rattle.hb_call.specs.Held.{HasRoom, MayFree, frees, stands}
use Rattle.hb_call.proofs.frame.free_keys.Given as goal

-- those that are left are still held, and with their Frees all is done
abbrev pub invariant-loop-key : goal.invariant-loop-key
invariant-loop-key g l = record {
  fixed : g.D.Desk.fixed l.desk ≡ g.D.Desk.fixed l.fn.desk;
  kept : IsPrefix (g.D.Desk.front l.fn.desk) (g.D.Desk.front l.desk);
  legal : IsLegal (g.D.Desk.fixed l.fn.desk).limit (g.D.Desk.front l.fn.desk) → IsLegal (g.D.Desk.fixed l.fn.desk).limit (g.D.Desk.front l.desk);
  room : HasRoom (g.D.Desk.front l.fn.desk) (g.D.Desk.fixed l.fn.desk).caller l.q.0 → HasRoom (g.D.Desk.front l.desk) (g.D.Desk.fixed l.fn.desk).caller l.q.0;
  left : MayFree (drop l.key-index l.keys) (stands (g.D.Desk.fixed l.fn.desk).caller l.q.0 (g.D.Desk.front l.desk));
  acts : acts (g.D.Desk.fixed l.fn.desk).caller (g.D.Desk.front l.desk) ++ frees l.q (drop l.key-index l.keys) ≡ acts (g.D.Desk.fixed l.fn.desk).caller (g.D.Desk.front l.fn.desk) ++ frees l.q l.keys;
}
