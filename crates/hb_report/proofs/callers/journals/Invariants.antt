use Rattle.std.proofs.Common.{◌≡◌}
use Rattle.hb_report.specs.Journals.{journals}
use Rattle.hb_report.proofs.callers.journals.Given as goal

abbrev pub invariant-loop-caller : goal.invariant-loop-caller
invariant-loop-caller l = l.all.items ≡ journals l.caller l.entries
