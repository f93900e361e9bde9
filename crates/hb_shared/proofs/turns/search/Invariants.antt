use Rattle.std.proofs.Common.{◌≡◌, ℕ, ◌≤◌}
use Rattle.hb_shared.specs.Notes.{AreNotesOf, known_at, KeepKnown, KnowsNoneFrom}
use Rattle.hb_shared.proofs.turns.search.Given as goal

abbrev pub invariant-loop-at : goal.invariant-loop-at
invariant-loop-at l = record {
  notes : AreNotesOf l.cells.items l.notes.items;
  kept : KeepKnown l.fn.notes.items l.notes.items;
  passed : KnowsNoneFrom l.index l.at l.fn.notes.items;
  later : (k : ℕ) → l.at ≤ k → known_at l.notes.items k ≡ known_at l.fn.notes.items k;
}
