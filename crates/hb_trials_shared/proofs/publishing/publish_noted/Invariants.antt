use Rattle.hb_shared.specs.Notes.{AreNotesOf}
use Rattle.hb_trials_shared.proofs.publishing.publish_noted.Given as goal

abbrev pub invariant-loop-body : goal.invariant-loop-body
invariant-loop-body l = AreNotesOf l.shared l.notes
