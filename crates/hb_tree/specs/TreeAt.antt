-- The tree at a node of a program.
use Rattle.std.specs.Prelude.{ℕ, zero, suc, ◌<◌, List, [], ◌∷◌, length, slice_get, Option, Some, None}
use Rattle.std.specs.List.{AllByRecursion}
use Rattle.hb_types.specs.declared.ids.NodeId.{NodeId}
use Rattle.hb_tree.specs.declared.node.Node.{Node}
use Rattle.hb_tree.specs.declared.node.Node.TheVariants as node
use Rattle.hb_tree.specs.declared.node.Method.TheVariants as method
use Rattle.hb_tree.specs.Table.{Table}
use Rattle.hb_tree.specs.Tree.{Tree, TNil, TTrue, TFalse, TSelf, TInt, TText, TVar, TNew, TAssign, TPrint, TToStr, TNot, TBinary, TIf, TWhile, TCall, TDef, TDefComputed}
use Rattle.hb_tree.specs.Tree.{TDeclare, TDeclareComputed, TBlock, Forest, NoTree, Trees, IsExpr, IsBlock}
use Rattle.hb_tree.specs.Nodes.{args_of, items_of, node_at, block_in, exprs_of, blocks_of}

-- the trees of these nodes
abbrev pub forest_at : (ℕ → Tree) → List NodeId → Forest
forest_at part [] = NoTree
forest_at part (i ∷ is) = Trees (part i.0) (forest_at part is)

-- a node's tree, from the trees of its parts
abbrev pub tree_of : Table → (ℕ → Tree) → ℕ → Node → Tree
tree_of t part id node.Nil = TNil id
tree_of t part id node.True = TTrue id
tree_of t part id node.False = TFalse id
tree_of t part id node.SelfRef = TSelf id
tree_of t part id (node.Int n) = TInt id n
tree_of t part id (node.Text x) = TText id x.0
tree_of t part id (node.Var x) = TVar id x.0
tree_of t part id (node.New c) = TNew id c.0
tree_of t part id (node.Assign x e) = TAssign id x.0 (part e.0)
tree_of t part id (node.Print e) = TPrint id (part e.0)
tree_of t part id (node.ToStr e) = TToStr id (part e.0)
tree_of t part id (node.Not e) = TNot id (part e.0)
tree_of t part id (node.Binary op a b) = TBinary id op (part a.0) (part b.0)
tree_of t part id (node.If c a b) = TIf id (part c.0) (part a.0) (part b.0)
tree_of t part id (node.While c b) = TWhile id (part c.0) (part b.0)
tree_of t part id (node.Call r m args) = TCall id (part r.0) m.0 (forest_at part (args_of args))
tree_of t part id (node.Def (method.Named c m) s) = TDef id c.0 m.0 s.0 (part (block_in (slice_get t.bodies s.0)))
tree_of t part id (node.Def (method.Computed c e) s) = TDefComputed id c.0 (part e.0) s.0 (part (block_in (slice_get t.bodies s.0)))
tree_of t part id (node.Declare (method.Named c m) s q) = TDeclare id c.0 m.0 s.0 q
tree_of t part id (node.Declare (method.Computed c e) s q) = TDeclareComputed id c.0 (part e.0) s.0 q
tree_of t part id (node.Block first count) = TBlock id (forest_at part (items_of t first count))

-- the tree of a node that is there, and nil's where none is
abbrev pub tree_of_place : Table → (ℕ → Tree) → ℕ → Option Node → Tree
tree_of_place t part id None = TNil id
tree_of_place t part id (Some n) = tree_of t part id n

-- the tree at a node, down to a depth
unfoldable pub tree_down : Table → ℕ → ℕ → Tree
tree_down t zero id = TNil id
tree_down t (suc depth) id = tree_of_place t (tree_down t depth) id (node_at t id)

-- the tree at a node. A part has a smaller number, so this is deep enough
unfoldable pub tree_at : Table → ℕ → Tree
tree_at t id = tree_down t (suc id) id

-- the node is one of the program, and it is an expression, or a block
abbrev pub IsExprAt : Table → ℕ → Type 0
IsExprAt t id = (id < length t.nodes) × IsExpr (tree_at t id)

abbrev pub IsBlockAt : Table → ℕ → Type 0
IsBlockAt t id = (id < length t.nodes) × IsBlock (tree_at t id)

-- blocks stand where the node wants them, and expressions elsewhere
abbrev pub HasKinds : Table → Node → Type 0
HasKinds t n = AllByRecursion (IsExprAt t) (exprs_of t n) × AllByRecursion (IsBlockAt t) (blocks_of t n)
