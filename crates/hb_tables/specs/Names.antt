-- Which key each name of a program's methods has among the names of a run.
use Rattle.std.specs.Prelude.{ℕ, List, Option}
use Rattle.hb_deriv.specs.Judge.{Key}
use Rattle.hb_names.specs.Names.{Name, place}
use Rattle.hb_tree.specs.{Table.Table, Canon.bytes_at}

-- a class with one of the program's names
abbrev pub name_of : Table → Key → Name
name_of t k = (k.0, bytes_at t.names k.1)

abbrev pub key_in : Table → List Name → Key → Option ℕ
key_in t names k = place names (name_of t k)
