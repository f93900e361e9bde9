-- What a caller sees of a program under construction, and what each step does to it.
use Rattle.std.specs.Prelude.{◌≡◌, ℕ, ◌<◌, ◌≤◌, Bool, List, [], ◌∷◌, ◌++◌, map, reverse, length, take, drop, Option, Some, nat_eq, slice_get}
use Rattle.std.specs.{Option.option_map, List.AllByRecursion, List.IsDistinct}
use Rattle.hb_types.specs.declared.{ids.NodeId.NodeId, types.MethodTy.MethodTy, types.TheConstants.PARAMS_MAX}
use Rattle.hb_tree.specs.{Table.Table, Nodes.params_of, TreeAt.tree_at}
use Rattle.hb_tree.specs.declared.{node.Op.Op, node.Node.Node, parts.Body.Body, limits.TheConstants.HEIGHT_MAX, limits.TheConstants.NODES_IN_BODY_MAX}
use Rattle.hb_tree.specs.declared.{limits.TheConstants.CALLS_IN_BODY_MAX, limits.TheConstants.VARIABLES_MAX}
use Rattle.hb_tree.specs.Tree.{Tree, TText, TBinary, TIf, TWhile, TCall, TDef, TDefComputed, TDeclare, TDeclareComputed, TBlock, Forest, NoTree, Trees, IsExpr, IsBlock, id_of}
use Rattle.hb_tree.specs.Counts.{height, nodes_in, calls_in, variables_in}
use Rattle.hb_draft.specs.Words.{with_word}

-- the lists so far, and the nodes that are parts of none yet, in the order in which they came
pub record Unfinished : Type 0 where
  pub table : Table
  pub nodes : List NodeId

-- the trees at these nodes, the last one first
abbrev pub trees_of : Table → List NodeId → List Tree
trees_of t ids = reverse (map (λ i. tree_at t i.0) ids)

-- the trees in hand, the last one first
unfoldable pub in_hand : Unfinished → List Tree
in_hand d = trees_of d.table d.nodes

-- the scripts of a table, by their names and trees
abbrev pub scripts_in : Table → List (ℕ × Tree)
scripts_in t = map (λ s. (s.0.0, tree_at t s.1.0)) t.scripts

-- the tree of the setup's block
abbrev pub setup_in : Table → Option Tree
setup_in t = option_map (λ b. tree_at t b.0) t.setup

-- an expression that may be part of a node
pub record IsExprPart (e : Tree) : Type 0 where
  pub kind : IsExpr e
  pub low : height e < HEIGHT_MAX

-- a block that may be part of a node
pub record IsBlockPart (b : Tree) : Type 0 where
  pub kind : IsBlock b
  pub low : height b < HEIGHT_MAX

-- the last n in hand are expressions that may be parts of a node
pub record HasExprs (n : ℕ) (hand : List Tree) : Type 0 where
  pub enough : n ≤ length hand
  pub exprs : AllByRecursion IsExprPart (take n hand)

-- a condition and two blocks lie on top
abbrev pub HasBranches : List Tree → Type 0
HasBranches (b ∷ a ∷ c ∷ rest) = IsExprPart c × IsBlockPart a × IsBlockPart b
HasBranches _ = ⊥

-- a condition and a block lie on top
abbrev pub HasTurn : List Tree → Type 0
HasTurn (b ∷ c ∷ rest) = IsExprPart c × IsBlockPart b
HasTurn _ = ⊥

-- the last one in hand is a block, of which this holds
abbrev pub HasBlock : (Tree → Type 0) → List Tree → Type 0
HasBlock P [] = ⊥
HasBlock P (b ∷ rest) = IsBlock b × P b

-- the last one in hand is a block, of which this holds, and below it lies an expression, the computed name of a method
abbrev pub HasNameAndBlock : (Tree → Type 0) → List Tree → Type 0
HasNameAndBlock P (b ∷ e ∷ rest) = IsExprPart e × IsBlock b × P b
HasNameAndBlock P _ = ⊥

-- the block of a body with these parameters: it may be part of a node, and keeps the limits of a body
pub record IsBodyBlock (params : List ℕ) (b : Tree) : Type 0 where
  pub low : height b < HEIGHT_MAX
  pub few_nodes : nodes_in b ≤ NODES_IN_BODY_MAX
  pub few_calls : calls_in b ≤ CALLS_IN_BODY_MAX
  pub few_variables : variables_in params b ≤ VARIABLES_MAX

-- the block of a script or of the setup
abbrev pub IsRootBlock : Tree → Type 0
IsRootBlock b = variables_in [] b ≤ VARIABLES_MAX

-- up to four names of the table that differ
pub record AreParams (t : Table) (params : List ℕ) : Type 0 where
  pub few : length params ≤ PARAMS_MAX
  pub known : AllByRecursion (λ x. x < length t.names) params
  pub apart : IsDistinct nat_eq params

abbrev pub forest_of : List Tree → Forest
forest_of [] = NoTree
forest_of (t ∷ ts) = Trees t (forest_of ts)

-- the last n in hand, in the order in which they came
abbrev pub last_in : ℕ → List Tree → List Tree
last_in n hand = reverse (take n hand)

-- the hand after a node with this number was made: it took its parts from the hand, and lies there now
abbrev pub leaf_over : (ℕ → Tree) → ℕ → List Tree → List Tree
leaf_over leaf id hand = leaf id ∷ hand

abbrev pub unary_over : (ℕ → Tree → Tree) → ℕ → List Tree → List Tree
unary_over make id (e ∷ rest) = make id e ∷ rest
unary_over make id [] = []

abbrev pub binary_over : Op → ℕ → List Tree → List Tree
binary_over op id (b ∷ a ∷ rest) = TBinary id op a b ∷ rest
binary_over op id _ = []

abbrev pub if_over : ℕ → List Tree → List Tree
if_over id (b ∷ a ∷ c ∷ rest) = TIf id c a b ∷ rest
if_over id _ = []

abbrev pub while_over : ℕ → List Tree → List Tree
while_over id (b ∷ c ∷ rest) = TWhile id c b ∷ rest
while_over id _ = []

-- the arguments lie over the receiver
abbrev pub receive : (Tree → Tree) → List Tree → List Tree
receive call (r ∷ rest) = call r ∷ rest
receive call [] = []

abbrev pub call_over : ℕ → ℕ → ℕ → List Tree → List Tree
call_over m n id hand = receive (λ r. TCall id r m (forest_of (last_in n hand))) (drop n hand)

abbrev pub block_over : ℕ → ℕ → List Tree → List Tree
block_over n id hand = TBlock id (forest_of (last_in n hand)) ∷ drop n hand

-- the setup and the scripts stay, and so do their trees
pub record KeepsRoots (old new : Table) : Type 0 where
  pub setup : new.setup ≡ old.setup
  pub setup_tree : setup_in new ≡ setup_in old
  pub scripts : new.scripts ≡ old.scripts
  pub script_trees : scripts_in new ≡ scripts_in old

-- one class more, and all else stays
pub record AddsClass (old new : Unfinished) (class : List ℕ) : Type 0 where
  pub hand : in_hand new ≡ in_hand old
  pub table : new.table ≡ record old.table { classes = old.table.classes ++ class ∷ [] }
  pub roots : KeepsRoots old.table new.table

-- a name is numbered by its first occurrence, and all else stays
pub record AddsName (old new : Unfinished) (name : List ℕ) : Type 0 where
  pub hand : in_hand new ≡ in_hand old
  pub table : new.table ≡ record old.table { names = with_word old.table.names name }
  pub roots : KeepsRoots old.table new.table

-- one node more, at this place; of bodies and types there are these, and all that has a name stays
pub record AddsNode (old new : Table) (place : ℕ × ℕ) (bs : List Body) (ys : List (MethodTy × NodeId)) : Type 0 where
  pub nodes : (n : Node) × (new.nodes ≡ old.nodes ++ record { node = n; line = place.0; column = place.1 } ∷ [])
  pub classes : new.classes ≡ old.classes
  pub names : new.names ≡ old.names
  pub bodies : new.bodies ≡ bs
  pub types : new.types ≡ ys
  pub roots : KeepsRoots old new

-- the next node, which gives neither a body nor a type
pub record Puts (old new : Unfinished) (place : ℕ × ℕ) (over : ℕ → List Tree → List Tree) : Type 0 where
  pub hand : in_hand new ≡ over (length old.table.nodes) (in_hand old)
  pub texts : new.table.texts ≡ old.table.texts
  pub table : AddsNode old.table new.table place old.table.bodies old.table.types

-- the next node, a text's: the text is numbered by its first occurrence
pub record PutsText (old new : Unfinished) (place : ℕ × ℕ) (text : List ℕ) : Type 0 where
  pub number : ℕ
  pub stands : slice_get new.table.texts number ≡ Some text
  pub hand : in_hand new ≡ TText (length old.table.nodes) number ∷ in_hand old
  pub texts : new.table.texts ≡ with_word old.table.texts text
  pub table : AddsNode old.table new.table place old.table.bodies old.table.types

-- what a definition gives: itself, its block and its parameters
pub record IsBodyOf (id block_id : ℕ) (xs : List ℕ) (b : Body) : Type 0 where
  pub def : b.def.0 ≡ id
  pub block : b.block.0 ≡ block_id
  pub params : params_of b ≡ xs

-- the next node, a definition's, with its body
pub record PutsDef (old new : Unfinished) (place : ℕ × ℕ) (class m : ℕ) (params : List ℕ) : Type 0 where
  pub block : Tree
  pub rest : List Tree
  pub was : in_hand old ≡ block ∷ rest
  pub hand : in_hand new ≡ TDef (length old.table.nodes) class m (length old.table.bodies) block ∷ rest
  pub texts : new.table.texts ≡ old.table.texts
  pub body : Body
  pub gives : IsBodyOf (length old.table.nodes) (id_of block) params body
  pub table : AddsNode old.table new.table place (old.table.bodies ++ body ∷ []) old.table.types

-- the next node, a definition's whose name is computed, with its body
pub record PutsComputedDef (old new : Unfinished) (place : ℕ × ℕ) (class : ℕ) (params : List ℕ) : Type 0 where
  pub block : Tree
  pub name : Tree
  pub rest : List Tree
  pub was : in_hand old ≡ block ∷ name ∷ rest
  pub hand : in_hand new ≡ TDefComputed (length old.table.nodes) class name (length old.table.bodies) block ∷ rest
  pub texts : new.table.texts ≡ old.table.texts
  pub body : Body
  pub gives : IsBodyOf (length old.table.nodes) (id_of block) params body
  pub table : AddsNode old.table new.table place (old.table.bodies ++ body ∷ []) old.table.types

-- the next node, a declaration's, with its type
pub record PutsDeclare (old new : Unfinished) (place : ℕ × ℕ) (class m : ℕ) (ty : MethodTy) (asks : Bool) : Type 0 where
  pub hand : in_hand new ≡ TDeclare (length old.table.nodes) class m (length old.table.types) asks ∷ in_hand old
  pub texts : new.table.texts ≡ old.table.texts
  pub table : AddsNode old.table new.table place old.table.bodies (old.table.types ++ (ty, record { 0 = length old.table.nodes }) ∷ [])

-- the next node, a declaration's whose name is computed, with its type
pub record PutsComputedDeclare (old new : Unfinished) (place : ℕ × ℕ) (class : ℕ) (ty : MethodTy) (asks : Bool) : Type 0 where
  pub hand : in_hand new ≡ unary_over (λ id e. TDeclareComputed id class e (length old.table.types) asks) (length old.table.nodes) (in_hand old)
  pub texts : new.table.texts ≡ old.table.texts
  pub table : AddsNode old.table new.table place old.table.bodies (old.table.types ++ (ty, record { 0 = length old.table.nodes }) ∷ [])

-- the setup, whose block was the last one in hand
pub record AddsSetup (old new : Unfinished) : Type 0 where
  pub block : Tree
  pub was : in_hand old ≡ block ∷ in_hand new
  pub setup_tree : setup_in new.table ≡ Some block
  pub script_trees : scripts_in new.table ≡ scripts_in old.table
  pub table : new.table ≡ record old.table { setup = Some (record { 0 = id_of block }) }

-- one script more, whose block was the last one in hand
pub record AddsScript (old new : Unfinished) (name : ℕ) : Type 0 where
  pub block : Tree
  pub was : in_hand old ≡ block ∷ in_hand new
  pub script_trees : scripts_in new.table ≡ scripts_in old.table ++ (name, block) ∷ []
  pub setup_tree : setup_in new.table ≡ setup_in old.table
  pub table : new.table ≡ record old.table { scripts = old.table.scripts ++ (record { 0 = name }, record { 0 = id_of block }) ∷ [] }
