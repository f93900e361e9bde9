use Rattle.std.proofs.Common.{◌≡◌, ℕ, take, None}
use Rattle.hb_shared.specs.Notes.{AreNotesOf, known_at}
use Rattle.hb_shared.proofs.notes.notes_of.Given as goal

abbrev pub invariant-loop-cell : goal.invariant-loop-cell
invariant-loop-cell l = record {
  notes : AreNotesOf (take l.cell-index l.cells.items) l.notes.items;
  nothing : (at : ℕ) → known_at l.notes.items at ≡ None;
}
