use Rattle.std.proofs.Common.{◌∙◌, inl, inr, rules}
use Rattle.hb_report.proofs.JournalLemmas.{journal_goes}
use Rattle.hb_report.proofs.callers.push_journal.Goals as goal
use Rattle.hb_report.proofs.callers.push_journal.Goals.{then-caller-entry+in_ok-push, else-caller-entry}

pub loop-entry-preserved : goal.loop-entry-preserved
loop-entry-preserved c = elim c.if-caller-entry.branch [
  | then-caller-entry+in_ok-push w ↦ journal_goes _ _ _ _ _ _ c.loop-entry-test.true (inl (w.if-caller-entry.true, search rules)) ∙ c.loop-entry.invariant
  | else-caller-entry w ↦ journal_goes _ _ _ c.loop-entry.all.items _ _ c.loop-entry-test.true (inr (w.if-caller-entry.false, search rules)) ∙ c.loop-entry.invariant
]
