-- The parts of a node, by their numbers.
use Rattle.std.specs.Prelude.{ℕ, ◌+◌, List, [], ◌∷◌, ◌++◌, map, take, slice_get, slice_range, Option, Some, None}
use Rattle.std.specs.{Option.option_map, List.AllByRecursion}
use Rattle.hb_types.specs.declared.ids.NodeId.{NodeId}
use Rattle.hb_tree.specs.declared.{node.Node.Node, node.Method.Method, node.ArgList.ArgList, parts.Body.Body}
use Rattle.hb_tree.specs.declared.node.Node.TheVariants as node
use Rattle.hb_tree.specs.declared.node.Method.TheVariants as method
use Rattle.hb_tree.specs.Table.{Table}

abbrev pub numbers_of : List NodeId → List ℕ
numbers_of ids = map (λ i. i.0) ids

-- the arguments of a call
abbrev pub args_of : ArgList → List NodeId
args_of a = take a.count a.ids

-- the parameters of a body
abbrev pub params_of : Body → List ℕ
params_of b = map (λ x. x.0) (take b.count b.params)

-- the items of a block
abbrev pub items_of : Table → ℕ → ℕ → List NodeId
items_of t first count = slice_range t.items first (first + count)

-- the node with a number
abbrev pub node_at : Table → ℕ → Option Node
node_at t id = option_map (λ p. p.node) (slice_get t.nodes id)

-- the line and the column of a node's own token
abbrev pub place_at : Table → ℕ → Option (ℕ × ℕ)
place_at t id = option_map (λ p. (p.line, p.column)) (slice_get t.nodes id)

-- the block of a body
abbrev pub block_in : Option Body → ℕ
block_in None = 0
block_in (Some b) = b.block.0

-- the expression that computes a method's name
abbrev pub name_parts : Method → List ℕ
name_parts (method.Named c x) = []
name_parts (method.Computed c e) = e.0 ∷ []

-- the parts of a node that are expressions
abbrev pub exprs_of : Table → Node → List ℕ
exprs_of t (node.Assign x e) = e.0 ∷ []
exprs_of t (node.Print e) = e.0 ∷ []
exprs_of t (node.ToStr e) = e.0 ∷ []
exprs_of t (node.Not e) = e.0 ∷ []
exprs_of t (node.Binary op a b) = a.0 ∷ b.0 ∷ []
exprs_of t (node.If c a b) = c.0 ∷ []
exprs_of t (node.While c b) = c.0 ∷ []
exprs_of t (node.Call r m args) = r.0 ∷ numbers_of (args_of args)
exprs_of t (node.Def m s) = name_parts m
exprs_of t (node.Declare m s q) = name_parts m
exprs_of t (node.Block first count) = numbers_of (items_of t first count)
exprs_of t _ = []

-- the parts that are blocks; that of a definition is found through its body site
abbrev pub blocks_of : Table → Node → List ℕ
blocks_of t (node.If c a b) = a.0 ∷ b.0 ∷ []
blocks_of t (node.While c b) = b.0 ∷ []
blocks_of t (node.Def m s) = block_in (slice_get t.bodies s.0) ∷ []
blocks_of t _ = []

-- all parts in their order: in each node the expressions come first
abbrev pub parts_of : Table → Node → List ℕ
parts_of t n = exprs_of t n ++ blocks_of t n

-- a fact holds of each part
abbrev pub AllParts : (ℕ → Type 0) → Table → Node → Type 0
AllParts P t n = AllByRecursion P (exprs_of t n) × AllByRecursion P (blocks_of t n)
