-- Which cells each caller has.
use Rattle.std.specs.Prelude.{◌≡◌, ℕ, ◌+◌, ◌-◌, ◌*◌, ◌/◌, ◌<◌, ◌≤◌}
use Rattle.std.specs.declared.alloc.Global.{Global}
use Rattle.hb_shared.specs.declared.cells.Published.{Published}

-- a cell is known by its name
abbrev pub Cell : Type 0
Cell = Global × ℕ

-- the first of a caller's cells
abbrev pub first_of : ℕ → ℕ
first_of caller = (caller - 1) * 64

-- who has a cell
abbrev pub owner_of : ℕ → ℕ
owner_of at = at / 64 + 1

-- a cell at or after the index, and what its owner published
pub record IsOneFrom (index at : ℕ) (published : Published) : Type 0 where
  pub low : index ≤ at
  pub high : at < 1024
  pub caller : published.caller.0 ≡ owner_of at
