-- The pieces of what a node names.
use Rattle.std.specs.{Prelude.List, Prelude.ℕ}
use Rattle.hb_tree.specs.{Table.Table, TreeAt.tree_at, Pieces.Piece}
use Rattle.hb_tree.specs.declared.{node.Method.Method, node.Node.Node}
use Rattle.hb_tree.specs.declared.node.Method.TheVariants as method
use Rattle.hb_tree.specs.declared.node.Node.TheVariants as node
use Rattle.hb_tree.specs.Canon.{named, computed, own, op_level}

abbrev pub method_pieces : Table → Method → List Piece
method_pieces t (method.Named c m) = named t c.0 m.0
method_pieces t (method.Computed c e) = computed t c.0 (own t (tree_at t e.0))

-- the level of a node's tree
abbrev pub node_level : Node → ℕ
node_level (node.Assign x e) = 0
node_level (node.Print e) = 0
node_level (node.Declare m s q) = 0
node_level (node.Binary op a b) = op_level op
node_level (node.Not e) = 4
node_level _ = 5
