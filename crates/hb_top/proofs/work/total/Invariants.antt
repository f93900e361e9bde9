use Rattle.std.proofs.Common.{◌≡◌, ◌≤◌, ◌+◌, ◌*◌, ◌^◌, drop, map}
use Rattle.hb_eval.specs.Told.{told_by}
use Rattle.hb_top.specs.Work.{total_of}
use Rattle.hb_top.proofs.work.total.Given as goal

abbrev pub invariant-loop-run : goal.invariant-loop-run
invariant-loop-run l = record {
  counted : l.total + total_of l.what (map told_by (drop l.run-index l.runs)) ≡ total_of l.what (map told_by l.runs);
  few : l.total ≤ 2 ^ 32 * l.run-index;
}
