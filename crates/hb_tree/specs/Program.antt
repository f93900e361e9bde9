-- What makes a table a program.
use Rattle.std.specs.Prelude.{◌≡◌, ℕ, pos, ◌+◌, ◌^◌, ◌<◌, ◌≤◌, ◌≤ℤ◌, List, [], length, drop, All, slice_get, Option, Some, None, IsSomeAnd, IfSome, nat_eq, bytes_eq, FitsSigned}
use Rattle.std.specs.{Int.w64, List.flat_map, List.IsDistinct, List.AllByRecursion}
use Rattle.hb_types.specs.declared.{types.TheConstants.PARAMS_MAX, ids.NodeId.NodeId, ids.NameId.NameId, types.Ty.Ty, types.MethodTy.MethodTy}
use Rattle.hb_tree.specs.{Table.Table, TreeAt.tree_at}
use Rattle.hb_tree.specs.declared.{limits.TheConstants.CLASSES_MAX, limits.TheConstants.SCRIPTS_MAX, limits.TheConstants.NODES_MAX, limits.TheConstants.TYPES_MAX}
use Rattle.hb_tree.specs.declared.{limits.TheConstants.HEIGHT_MAX, limits.TheConstants.NODES_IN_BODY_MAX, limits.TheConstants.CALLS_IN_BODY_MAX, limits.TheConstants.VARIABLES_MAX}
use Rattle.hb_tree.specs.declared.{limits.TheConstants.ARGUMENTS_MAX, node.Node.Node, node.Method.Method, node.ArgList.ArgList, parts.Body.Body}
use Rattle.hb_types.specs.declared.types.Ty.TheVariants as ty
use Rattle.hb_types.specs.Types.{IsMethodTy, params_of as param_types_of}
use Rattle.hb_tree.specs.declared.node.Node.TheVariants as node
use Rattle.hb_tree.specs.declared.node.Method.TheVariants as method
use Rattle.hb_tree.specs.Spelling.{IsName, IsClassName, IsText}
use Rattle.hb_tree.specs.Counts.{height, nodes_in, calls_in, variables_in}
use Rattle.hb_tree.specs.Nodes.{params_of, node_at, exprs_of, blocks_of, parts_of, AllParts}

-- a node that is a block, or an expression
abbrev pub IsBlockNode : Option Node → Type 0
IsBlockNode (Some (node.Block first count)) = Unit {0}
IsBlockNode _ = ⊥

abbrev pub IsExprNode : Option Node → Type 0
IsExprNode None = ⊥
IsExprNode (Some (node.Block first count)) = ⊥
IsExprNode (Some _) = Unit {0}

-- a definition with this body site
abbrev pub IsDefNode : ℕ → Option Node → Type 0
IsDefNode site (Some (node.Def m s)) = s.0 ≡ site
IsDefNode site _ = ⊥

-- a declaration with this type site
abbrev pub IsDeclareNode : ℕ → Option Node → Type 0
IsDeclareNode site (Some (node.Declare m s q)) = s.0 ≡ site
IsDeclareNode site _ = ⊥

-- where a block's items lie, and where a definition's block is found
abbrev pub HasPlaces : Table → Node → Type 0
HasPlaces t (node.Def m s) = s.0 < length t.bodies
HasPlaces t (node.Block first count) = first + count ≤ length t.items
HasPlaces t _ = Unit {0}

-- each part of a node has a smaller number
pub record HasParts (t : Table) (id : ℕ) (n : Node) : Type 0 where
  pub places : HasPlaces t n
  pub below : AllParts (λ j. j < id) t n

-- up to four arguments, with the receiver in the places past them
pub record IsArgList (receiver : NodeId) (args : ArgList) : Type 0 where
  pub places : length args.ids ≡ ARGUMENTS_MAX
  pub few : args.count ≤ ARGUMENTS_MAX
  pub filled : All (λ i. i ≡ receiver) (drop args.count args.ids)

-- the class and the plain name of a method are known
abbrev pub IsMethodIn : Table → Method → Type 0
IsMethodIn t (method.Named c m) = (c.0 < length t.classes) × (m.0 < length t.names)
IsMethodIn t (method.Computed c e) = c.0 < length t.classes

-- what a node says of itself is known, and a number is one of an `i64` and not below 0; a definition and its body site name each other, a declaration and its type site too
abbrev pub IsKnownIn : Table → ℕ → Node → Type 0
IsKnownIn t id (node.Int n) = (pos 0 ≤ℤ n) × FitsSigned w64 n
IsKnownIn t id (node.Text x) = x.0 < length t.texts
IsKnownIn t id (node.Var x) = x.0 < length t.names
IsKnownIn t id (node.New c) = c.0 < length t.classes
IsKnownIn t id (node.Assign x e) = x.0 < length t.names
IsKnownIn t id (node.Call r m args) = (m.0 < length t.names) × IsArgList r args
IsKnownIn t id (node.Def m s) = IsMethodIn t m × IsSomeAnd (slice_get t.bodies s.0) (λ b. b.def.0 ≡ id)
IsKnownIn t id (node.Declare m s q) = IsMethodIn t m × IsSomeAnd (slice_get t.types s.0) (λ y. y.1.0 ≡ id)
IsKnownIn t id _ = Unit {0}

-- what a node meets
pub record IsNodeIn (t : Table) (id : ℕ) (n : Node) : Type 0 where
  pub parts : HasParts t id n
  pub exprs : AllByRecursion (λ j. IsExprNode (node_at t j)) (exprs_of t n)
  pub blocks : AllByRecursion (λ j. IsBlockNode (node_at t j)) (blocks_of t n)
  pub known : IsKnownIn t id n
  pub low : height (tree_at t id) ≤ HEIGHT_MAX

-- the parameters of a body: up to four names that differ
pub record HasParams (t : Table) (b : Body) : Type 0 where
  pub places : length b.params ≡ PARAMS_MAX
  pub few : b.count ≤ PARAMS_MAX
  pub known : AllByRecursion (λ x. x < length t.names) (params_of b)
  pub apart : IsDistinct nat_eq (params_of b)

-- what a body meets
pub record IsBodyIn (t : Table) (site : ℕ) (b : Body) : Type 0 where
  pub named : IsDefNode site (node_at t b.def.0)
  pub block : IsBlockNode (node_at t b.block.0)
  pub params : HasParams t b
  pub few_nodes : nodes_in (tree_at t b.block.0) ≤ NODES_IN_BODY_MAX
  pub few_calls : calls_in (tree_at t b.block.0) ≤ CALLS_IN_BODY_MAX
  pub few_variables : variables_in (params_of b) (tree_at t b.block.0) ≤ VARIABLES_MAX

-- a type whose class is known
abbrev pub IsTyIn : Table → Ty → Type 0
IsTyIn t (ty.Class c) = c.0 < length t.classes
IsTyIn t _ = Unit {0}

-- a method's type whose classes are known
pub record IsMethodTyIn (t : Table) (m : MethodTy) : Type 0 where
  pub form : IsMethodTy m
  pub params : AllByRecursion (IsTyIn t) (param_types_of m)
  pub result : IsTyIn t m.result

-- what a method's type and the node that declares it meet
pub record IsTypeIn (t : Table) (site : ℕ) (y : MethodTy × NodeId) : Type 0 where
  pub named : IsDeclareNode site (node_at t y.1.0)
  pub known : IsMethodTyIn t y.0

-- what the block of the setup or of a script meets
pub record IsRootIn (t : Table) (id : NodeId) : Type 0 where
  pub block : IsBlockNode (node_at t id.0)
  pub few_variables : variables_in [] (tree_at t id.0) ≤ VARIABLES_MAX

-- what a script's name and block meet
pub record IsScriptIn (t : Table) (s : NameId × NodeId) : Type 0 where
  pub name : s.0.0 < length t.names
  pub root : IsRootIn t s.1

-- the nodes that are parts, in the order of the nodes whose parts they are
abbrev pub all_parts : Table → List ℕ
all_parts t = flat_map (λ p. parts_of t p.node) t.nodes

-- how many there are of each thing
pub record IsWithinLimits (t : Table) : Type 0 where
  pub classes : length t.classes ≤ CLASSES_MAX
  pub names : length t.names < 2 ^ 32
  pub nodes : length t.nodes ≤ NODES_MAX
  pub types : length t.types ≤ TYPES_MAX
  pub scripts : length t.scripts ≤ SCRIPTS_MAX

-- how the words and texts of a program are spelled
pub record IsSpelled (t : Table) : Type 0 where
  pub classes : AllByRecursion IsClassName t.classes
  pub classes_apart : IsDistinct bytes_eq t.classes
  pub names : AllByRecursion IsName t.names
  pub names_apart : IsDistinct bytes_eq t.names
  pub texts : AllByRecursion IsText t.texts

-- a program's table
pub record IsProgram (t : Table) : Type 0 where
  pub limits : IsWithinLimits t
  pub spelled : IsSpelled t
  pub nodes : (id : ℕ) (n : Node) → node_at t id ≡ Some n → IsNodeIn t id n
  -- no node is a part at two places; so no item stands in the ranges of two blocks
  pub apart : IsDistinct nat_eq (all_parts t)
  pub items : AllByRecursion (λ i. i.0 < length t.nodes) t.items
  pub bodies : (site : ℕ) (b : Body) → slice_get t.bodies site ≡ Some b → IsBodyIn t site b
  pub types : (site : ℕ) (y : MethodTy × NodeId) → slice_get t.types site ≡ Some y → IsTypeIn t site y
  pub setup : IfSome t.setup (IsRootIn t)
  pub scripts : AllByRecursion (IsScriptIn t) t.scripts
