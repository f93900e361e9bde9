-- The places of a program's nodes.
use Rattle.std.specs.Prelude.{◌≡◌, ℕ}
use Rattle.hb_tree.specs.{Table.Table, Nodes.node_at, Nodes.place_at, Program.IsExprNode}

-- nodes other than blocks have different places
abbrev pub HasDifferentPlaces : Table → Type 0
HasDifferentPlaces t = (i j : ℕ) → IsExprNode (node_at t i) → IsExprNode (node_at t j) → place_at t i ≡ place_at t j → i ≡ j
