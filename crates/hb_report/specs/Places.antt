-- How a report and a trace name a place.
use Rattle.std.specs.Prelude.{ℕ, List, [], ◌++◌, Option, Some, None, codes, decimal}
use Rattle.hb_tree.specs.Table.{Table}
use Rattle.hb_tree.specs.Nodes.{place_at}
use Rattle.hb_deriv.specs.declared.ill.Ill.{Ill}
use Rattle.hb_report.specs.Words.{reason_word}

-- a line and a column, where there are
abbrev pub line_and_column : Option (ℕ × ℕ) → List ℕ
line_and_column None = []
line_and_column (Some place) = decimal place.0 ++ codes ":" ++ decimal place.1

-- the place of a node
abbrev pub place : Table → ℕ → List ℕ
place t id = line_and_column (place_at t id)

-- what is wrong in a body, and where
abbrev pub fault : Table → Ill → List ℕ
fault t ill = codes " " ++ reason_word ill.reason ++ codes " " ++ place t ill.node.0
