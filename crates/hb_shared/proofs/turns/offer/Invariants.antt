use Rattle.std.proofs.Common.{◌≡◌, ℕ, ◌≤◌}
use Rattle.hb_shared.specs.Notes.{AreNotesOf, known_at, KeepKnown, AreTaken}
use Rattle.hb_shared.proofs.turns.offer.Given as goal

abbrev pub invariant-loop-at : goal.invariant-loop-at
invariant-loop-at l = record {
  item : l.item.value ≡ l.fn.item.value;
  notes : AreNotesOf l.cells.items l.notes.items;
  kept : KeepKnown l.fn.notes.items l.notes.items;
  taken : AreTaken l.first l.at l.notes.items;
  later : (k : ℕ) → l.at ≤ k → known_at l.notes.items k ≡ known_at l.fn.notes.items k;
}
