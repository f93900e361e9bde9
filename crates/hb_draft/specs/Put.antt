-- A node whose parts are the last ones in hand.
use Rattle.std.specs.Prelude.{◌≡◌, ℕ, ◌-◌, ◌<◌, ◌≤◌, List, ◌∷◌, [], ◌++◌, drop, length}
use Rattle.std.specs.List.{AllByRecursion}
use Rattle.hb_types.specs.declared.ids.NodeId.{NodeId}
use Rattle.hb_tree.specs.{Table.Table, TreeAt.tree_at, TreeAt.tree_of, Program.HasPlaces, Program.IsKnownIn}
use Rattle.hb_tree.specs.declared.{node.Node.Node, node.Placed.Placed, limits.TheConstants.NODES_MAX}
use Rattle.hb_tree.specs.Nodes.{numbers_of, exprs_of, blocks_of, parts_of}
use Rattle.hb_draft.specs.Unfinished.{Unfinished, IsExprPart, IsBlockPart, KeepsRoots, in_hand}

-- the last `count` of these nodes
abbrev pub last_nodes : ℕ → List NodeId → List NodeId
last_nodes count ids = drop (length ids - count) ids

-- the table with one node more
abbrev pub with_node : Table → Placed → Table
with_node t p = record t { nodes = t.nodes ++ p ∷ [] }

-- what a node meets in the table that it makes, when the last `count` in hand are its parts
pub record IsOver (t u : Table) (ids : List NodeId) (count : ℕ) (n : Node) : Type 0 where
  pub room : length t.nodes < NODES_MAX
  pub enough : count ≤ length ids
  pub places : HasPlaces u n
  pub parts : parts_of u n ≡ numbers_of (last_nodes count ids)
  pub exprs : AllByRecursion (λ j. IsExprPart (tree_at t j)) (exprs_of u n)
  pub blocks : AllByRecursion (λ j. IsBlockPart (tree_at t j)) (blocks_of u n)
  pub known : IsKnownIn u (length t.nodes) n

-- a node that may be the next one
abbrev pub CanPut : Unfinished → Placed → ℕ → Type 0
CanPut d p count = IsOver d.table (with_node d.table p) d.nodes count p.node

-- the node is the next one, and lies in hand in place of its parts
pub record PutsNode (old new : Unfinished) (p : Placed) (count : ℕ) : Type 0 where
  pub table : new.table ≡ with_node old.table p
  pub hand : in_hand new ≡ tree_of new.table (tree_at old.table) (length old.table.nodes) p.node ∷ drop count (in_hand old)
  pub roots : KeepsRoots old.table new.table
