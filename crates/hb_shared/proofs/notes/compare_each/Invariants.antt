use Rattle.std.proofs.Common.{◌≡◌, ℕ, ◌≤◌, List, ◌++◌, length, Some}
use Rattle.once_cell.specs.declared.race.note.Note.{Note}
use Rattle.hb_shared.specs.declared.cells.Published.{Published}
use Rattle.hb_shared.specs.Notes.{known_at}
use Rattle.hb_shared.proofs.notes.compare_each.Given as goal

abbrev pub invariant-loop-other : goal.invariant-loop-other
invariant-loop-other l = record {
  kept : l.notes.items ≡ l.fn.notes.items;
  left : (gone : List (Note Published)) × (l.others.items ++ gone ≡ l.fn.others.items);
  agree : (at : ℕ) (published other : Published) → length l.others.items ≤ at → known_at l.fn.notes.items at ≡ Some published → known_at l.fn.others.items at ≡ Some other → published ≡ other;
}

abbrev pub decreases-loop-other : goal.decreases-loop-other
decreases-loop-other l = length l.others.items
