-- Where what no tree tells lies in a table: the items of the blocks, and what stands behind the parameters of a body.
use Rattle.std.specs.Prelude.{◌≡◌, ℕ, zero, suc, List, [], ◌∷◌, ◌++◌, length, drop, All, Some}
use Rattle.std.specs.List.{AllByRecursion}
use Rattle.hb_tree.specs.{Table.Table, TreeAt.tree_at}
use Rattle.hb_tree.specs.declared.parts.Body.{Body}
use Rattle.hb_tree.specs.declared.node.Node.TheVariants as node
use Rattle.hb_tree.specs.Tree.{Tree, TBlock, Forest, NoTree, Trees, id_of}
use Rattle.hb_tree.specs.Nodes.{node_at, numbers_of}

-- the nodes of these trees
abbrev pub ids_of : Forest → List ℕ
ids_of NoTree = []
ids_of (Trees e es) = id_of e ∷ ids_of es

-- the items of a tree that is a block
abbrev pub items_in : Tree → List ℕ
items_in (TBlock id es) = ids_of es
items_in _ = []

-- the items of the blocks before a node, one block's behind the other's
abbrev pub items_before : Table → ℕ → List ℕ
items_before t zero = []
items_before t (suc i) = items_before t i ++ items_in (tree_at t i)

-- the places past the parameters are filled with the name of number 0
abbrev pub IsFilled : Body → Type 0
IsFilled b = All (λ x. x.0 ≡ 0) (drop b.count b.params)

-- The items of each block lie directly behind those of the blocks before it, and there are no others. Bodies are filled up.
pub record IsLaid (t : Table) : Type 0 where
  pub blocks : (id first count : ℕ) → node_at t id ≡ Some (node.Block first count) → first ≡ length (items_before t id)
  pub items : numbers_of t.items ≡ items_before t (length t.nodes)
  pub bodies : AllByRecursion IsFilled t.bodies
