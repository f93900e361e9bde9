-- What stays of a desk and of the names, whatever is done through them.
use Rattle.std.specs.Prelude.{◌≡◌, ◌≤◌, List, length}
use mathlib.Core.List.{IsPrefix}
use Rattle.hb_names.specs.declared.names.TheConstants.{NAMES_MAX}
use Rattle.hb_names.specs.Names.{Name, Differ}
use Rattle.hb_tables.specs.declared.entry.Entry.{Entry}
use Rattle.hb_tables.specs.{Answers.Fixed, History.IsLegal}

-- The door is the same, and what was known stays: the entries, which are still legal, and the names, which still differ and are not too many.
pub record Stays (door : Fixed) (later : Fixed) (was now : List Entry) (names known : List Name) : Type 0 where
  pub fixed : later ≡ door
  pub kept : IsPrefix was now
  pub legal : IsLegal door.limit was → IsLegal door.limit now
  pub named : IsPrefix names known
  pub few : length names ≤ NAMES_MAX → length known ≤ NAMES_MAX
  pub differ : Differ names → Differ known
