-- How the checks that a script keeps stay its own.
use Rattle.std.specs.Prelude.{List, Option, ℕ}
use Rattle.hb_cache.specs.declared.kept.Kept.{Kept}
use Rattle.hb_tree.specs.Table.{Table}
use Rattle.hb_names.specs.Names.{Name}
use Rattle.hb_tables.specs.declared.entry.Entry.{Entry}
use Rattle.hb_call.specs.OwnCache.{KeepsChecks}

-- what is kept goes on to be true, and the machine's own, behind further entries alone, whatever the program and the names
abbrev pub StaysOwn : (c : ℕ) → (past now : List Entry) → (old new : List (Option Kept)) → Type 0
StaysOwn c past now old new = (t : Table) (names asked : List Name) → KeepsChecks t c names names asked asked past now old new
