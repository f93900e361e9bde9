-- What notes of cells know.
use Rattle.std.specs.Prelude.{◌≡◌, ◌≢◌, ℕ, ◌+◌, ◌<◌, ◌≤◌, List, map, slice_get, Option, Some, None}
use Rattle.once_cell.specs.Once.{cell_name}
use Rattle.once_cell.specs.declared.race.note.Note.{Note}
use Rattle.hb_types.specs.declared.ids.CallerId.{CallerId}
use Rattle.hb_shared.specs.declared.cells.Published.{Published}
use Rattle.hb_shared.specs.Cells.{Cell, first_of, owner_of, IsOneFrom}

-- the cell of a note
abbrev pub cell_of : Note Published → ℕ
cell_of note = note.cell

-- one note of each cell, in their order
abbrev pub AreNotesOf : List Cell → List (Note Published) → Type 0
AreNotesOf cells notes = map cell_of notes ≡ map cell_name cells

abbrev pub said_by : Option (Note Published) → Option Published
said_by None = None
said_by (Some note) = note.known

-- what is known to be in a cell
abbrev pub known_at : List (Note Published) → ℕ → Option Published
known_at notes at = said_by (slice_get notes at)

-- the cell is known to be taken
abbrev pub IsTaken : List (Note Published) → ℕ → Type 0
IsTaken notes at = (published : Published) × (known_at notes at ≡ Some published)

-- what was known to be in a cell still is
abbrev pub KeepKnown : List (Note Published) → List (Note Published) → Type 0
KeepKnown old new = (at : ℕ) (published : Published) → known_at old at ≡ Some published → known_at new at ≡ Some published

-- where both know what is in a cell, they know the same
abbrev pub Agree : List (Note Published) → List (Note Published) → Type 0
Agree notes others = (at : ℕ) (published other : Published) → known_at notes at ≡ Some published → known_at others at ≡ Some other → published ≡ other

-- at most the note of one cell learned something
pub record Learns (at : ℕ) (old new : List (Note Published)) : Type 0 where
  pub kept : KeepKnown old new
  pub others : (k : ℕ) → k ≢ at → known_at new k ≡ known_at old k

-- the cell was free, and the item came into it
pub record Puts (item : Published) (at : ℕ) (old new : List (Note Published)) : Type 0 where
  pub free : known_at old at ≡ None
  pub kept : known_at new at ≡ Some item

-- the item is in the cell, and nothing else was known to be there
pub record Sees (published : Published) (at : ℕ) (old new : List (Note Published)) : Type 0 where
  pub known : known_at new at ≡ Some published
  pub before : (other : Published) → known_at old at ≡ Some other → other ≡ published

-- the cells from one to another are known to be taken
abbrev pub AreTaken : ℕ → ℕ → List (Note Published) → Type 0
AreTaken from to notes = (at : ℕ) → from ≤ at → at < to → IsTaken notes at

-- each cell of the caller is taken
abbrev pub IsFull : CallerId → List (Note Published) → Type 0
IsFull caller notes = AreTaken (first_of caller.0) (first_of caller.0 + 64) notes

-- the item came into a cell of its caller's that was free, after those that are taken
pub record Takes (item : Published) (old new : List (Note Published)) (at : ℕ) : Type 0 where
  pub low : first_of item.caller.0 ≤ at
  pub high : at < first_of item.caller.0 + 64
  pub before : AreTaken (first_of item.caller.0) at new
  pub free : known_at old at ≡ None
  pub kept : known_at new at ≡ Some item

-- nothing that its owner published is known to be in these cells
abbrev pub KnowsNoneFrom : ℕ → ℕ → List (Note Published) → Type 0
KnowsNoneFrom from to notes = (at : ℕ) (published : Published) → from ≤ at → at < to → known_at notes at ≡ Some published → published.caller.0 ≢ owner_of at

-- the first one from the index on, as far as is known
pub record Finds (index : ℕ) (old new : List (Note Published)) (at : ℕ) (published : Published) : Type 0 where
  pub one : IsOneFrom index at published
  pub known : known_at new at ≡ Some published
  pub passed : KnowsNoneFrom index at old
