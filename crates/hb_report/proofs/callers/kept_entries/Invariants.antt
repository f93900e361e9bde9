use Rattle.std.proofs.Common.{◌≡◌, take}
use Rattle.std.specs.List.{flat_map}
use Rattle.hb_report.specs.Journals.{kept}
use Rattle.hb_report.proofs.callers.kept_entries.Given as goal

abbrev pub invariant-loop-run : goal.invariant-loop-run
invariant-loop-run l = l.all.items ≡ flat_map kept (take l.run-index l.runs)
