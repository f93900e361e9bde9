use Rattle.std.proofs.Common.{◌≡◌, ◌++◌, drop}
use Rattle.hb_tables.specs.History.{journal}
use Rattle.hb_report.proofs.callers.push_journal.Given as goal

-- whatever came, with what is still to come, is all
abbrev pub invariant-loop-entry : goal.invariant-loop-entry
invariant-loop-entry l = l.all.items ++ journal l.caller (drop l.entry-index l.entries) ≡ l.initial.all.items ++ journal l.caller l.entries
