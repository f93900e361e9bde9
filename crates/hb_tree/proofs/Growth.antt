-- What holds in a table still holds after the table has grown.
use Rattle.std.proofs.Common.{◌⊎◌, inl, inr, ◌≡◌, ℕ, zero, suc, ◌+◌, ◌<◌, ◌≤◌, [], ◌∷◌, ◌++◌, length, Option, Some, None, refl, sym, ap, ◌∙◌, subst, arith}
use Rattle.std.specs.{Prelude.slice_get, Option.option_map, List.AllByRecursion, List.flat_map}
use Rattle.std.proofs.{lemmas.Option.none-some, lemmas.Option.same_Some, lemmas.List.Concat.flat_map-append}
use Rattle.hb_types.specs.declared.{ids.NodeId.NodeId, ids.NameId.NameId, types.Ty.Ty, types.MethodTy.MethodTy}
use Rattle.hb_types.specs.declared.types.Ty.TheVariants as ty
use Rattle.hb_types.specs.Types.{params_of as param_types_of}
use Rattle.hb_tree.specs.{Table.Table, Grows.Grows, Grows.IsFounded}
use Rattle.hb_tree.specs.declared.{node.Node.Node, node.Method.Method, parts.Body.Body, node.Placed.Placed}
use Rattle.hb_tree.specs.declared.node.Node.TheVariants as node
use Rattle.hb_tree.specs.declared.node.Method.TheVariants as method
use Rattle.hb_tree.specs.Tree.{Tree, TBlock, TDef, TDefComputed}
use Rattle.hb_tree.specs.Nodes.{params_of, items_of, numbers_of, node_at, block_in, exprs_of, blocks_of, parts_of}
use Rattle.hb_tree.specs.TreeAt.{forest_at, tree_of, tree_of_place, tree_down, tree_at}
use Rattle.hb_tree.specs.Program.{HasPlaces, HasParts, IsMethodIn, IsKnownIn, IsNodeIn, IsExprNode, IsBlockNode, IsDefNode, IsDeclareNode, HasParams, IsBodyIn, IsTyIn}
use Rattle.hb_tree.specs.Program.{IsMethodTyIn, IsTypeIn, IsRootIn, IsScriptIn, all_parts}
use Rattle.hb_tree.proofs.Lists.{each_weaker, each_from, some_begins, flat_map_alike, length-begins, slice_get-within, slice_range-begins}
use Rattle.hb_tree.proofs.Trees.{tree_alike, parts_weaker, node_within}

module _ (t u : Table) (grown : Grows t u) where
  -- a node keeps its number
  pub node_at-grown : (id : ℕ) → id < length t.nodes → node_at u id ≡ node_at t id
  node_at-grown id within = ap (option_map (λ p. p.node)) (slice_get-within t.nodes u.nodes grown.nodes id within)

  pub node_at-kept : (id : ℕ) (n : Node) → node_at t id ≡ Some n → node_at u id ≡ Some n
  node_at-kept id n e = node_at-grown id (node_within t id n e) ∙ e

  items_of-grown : (first count : ℕ) → first + count ≤ length t.items → items_of u first count ≡ items_of t first count
  items_of-grown first count within = slice_range-begins t.items u.items grown.items first (first + count) within

  block_in-grown : (site : ℕ) → site < length t.bodies → block_in (slice_get u.bodies site) ≡ block_in (slice_get t.bodies site)
  block_in-grown site within = ap block_in (slice_get-within t.bodies u.bodies grown.bodies site within)

  -- so it keeps its parts
  pub exprs_of-grown : (n : Node) → HasPlaces t n → exprs_of u n ≡ exprs_of t n
  exprs_of-grown (node.Block first count) h = ap numbers_of (items_of-grown first count h)
  exprs_of-grown _ h = refl

  pub blocks_of-grown : (n : Node) → HasPlaces t n → blocks_of u n ≡ blocks_of t n
  blocks_of-grown (node.Def m s) h = ap (λ b. b ∷ []) (block_in-grown s.0 h)
  blocks_of-grown _ h = refl

  pub parts_of-grown : (n : Node) → HasPlaces t n → parts_of u n ≡ parts_of t n
  parts_of-grown n h = rw (exprs_of-grown n h, blocks_of-grown n h) refl

  tree_of-grown : (f : ℕ → Tree) (id : ℕ) (n : Node) → HasPlaces t n → tree_of u f id n ≡ tree_of t f id n
  tree_of-grown f id (node.Block first count) h = ap (λ is. TBlock id (forest_at f is)) (items_of-grown first count h)
  tree_of-grown f id (node.Def (method.Named c m) s) h = ap (λ b. TDef id c.0 m.0 s.0 (f b)) (block_in-grown s.0 h)
  tree_of-grown f id (node.Def (method.Computed c e) s) h = ap (λ b. TDefComputed id c.0 (f e.0) s.0 (f b)) (block_in-grown s.0 h)
  tree_of-grown f id (node.Declare (method.Named c m) s q) h = refl
  tree_of-grown f id (node.Declare (method.Computed c e) s q) h = refl
  tree_of-grown f id _ h = refl

  place_grown : (id : ℕ) (f g : ℕ → Tree) → ((j : ℕ) → j < id → f j ≡ g j) → (o : Option Node) → ((n : Node) → o ≡ Some n → HasParts t id n) → tree_of_place u f id o ≡ tree_of_place t g id o
  place_grown id f g same None h = refl
  place_grown id f g same (Some n) h =
      tree_of-grown f id n (h n refl).places
      ∙ tree_alike t f g id n (parts_weaker t (λ j. j < id) (λ j. f j ≡ g j) same n (h n refl).below)

  -- what a node of a table meets without regard to its tree
  kept : (P : Option Node → Type 0) → (P None → ⊥) → (id : ℕ) → P (node_at t id) → P (node_at u id)
  kept P none id h = go (node_at t id) refl h
    where
      go : (o : Option Node) → node_at t id ≡ o → P o → P (node_at u id)
      go None e k = absurd (none k)
      go (Some n) e k = subst P (sym (node_at-kept id n e)) k

  pub expr_node-kept : (id : ℕ) → IsExprNode (node_at t id) → IsExprNode (node_at u id)
  expr_node-kept = kept IsExprNode (λ h. h)

  pub block_node-kept : (id : ℕ) → IsBlockNode (node_at t id) → IsBlockNode (node_at u id)
  block_node-kept = kept IsBlockNode (λ h. h)

  places-kept : (n : Node) → HasPlaces t n → HasPlaces u n
  places-kept (node.Def m s) h = omega (arith, length-begins t.bodies u.bodies grown.bodies)
  places-kept (node.Block first count) h = omega (arith, length-begins t.items u.items grown.items)
  places-kept _ h = tt

  pub parts-kept : (id : ℕ) (n : Node) → HasParts t id n → HasParts u id n
  parts-kept id n h = record {
    places = places-kept n h.places;
    below = (subst (AllByRecursion (λ j. j < id)) (sym (exprs_of-grown n h.places)) h.below.0, subst (AllByRecursion (λ j. j < id)) (sym (blocks_of-grown n h.places)) h.below.1);
  }

  method-kept : (m : Method) → IsMethodIn t m → IsMethodIn u m
  method-kept (method.Named c m) h = (omega (arith, length-begins t.classes u.classes grown.classes), omega (arith, length-begins t.names u.names grown.names))
  method-kept (method.Computed c e) h = omega (arith, length-begins t.classes u.classes grown.classes)

  known-kept : (id : ℕ) (n : Node) → IsKnownIn t id n → IsKnownIn u id n
  known-kept id (node.Int n) h = h
  known-kept id (node.Text x) h = omega (arith, length-begins t.texts u.texts grown.texts)
  known-kept id (node.Var x) h = omega (arith, length-begins t.names u.names grown.names)
  known-kept id (node.New c) h = omega (arith, length-begins t.classes u.classes grown.classes)
  known-kept id (node.Assign x e) h = omega (arith, length-begins t.names u.names grown.names)
  known-kept id (node.Call r m args) h = (omega (arith, length-begins t.names u.names grown.names), h.1)
  known-kept id (node.Def m s) h = (method-kept m h.0, some_begins t.bodies u.bodies grown.bodies (λ b. b.def.0 ≡ id) s.0 h.1)
  known-kept id (node.Declare m s q) h = (method-kept m h.0, some_begins t.types u.types grown.types (λ y. y.1.0 ≡ id) s.0 h.1)
  known-kept id _ h = tt

  ty-kept : (a : Ty) → IsTyIn t a → IsTyIn u a
  ty-kept (ty.Class c) h = omega (arith, length-begins t.classes u.classes grown.classes)
  ty-kept _ h = tt

  method_ty-kept : (m : MethodTy) → IsMethodTyIn t m → IsMethodTyIn u m
  method_ty-kept m h = record { form = h.form; params = each_weaker (IsTyIn t) (IsTyIn u) ty-kept (param_types_of m) h.params; result = ty-kept m.result h.result }

  pub type-kept : (site : ℕ) (y : MethodTy × NodeId) → IsTypeIn t site y → IsTypeIn u site y
  type-kept site y h = record { named = kept (IsDeclareNode site) (λ k. k) y.1.0 h.named; known = method_ty-kept y.0 h.known }

  params-kept : (b : Body) → HasParams t b → HasParams u b
  params-kept b h = record {
    places = h.places;
    few = h.few;
    known = each_weaker (λ x. x < length t.names) (λ x. x < length u.names) (λ x k. omega (arith, length-begins t.names u.names grown.names)) (params_of b) h.known;
    apart = h.apart;
  }

-- the tree at a node down to any depth stays the same
tree_down-grown : (t u : Table) (grown : Grows t u) (founded : IsFounded t) (d id : ℕ) → id < length t.nodes → tree_down u d id ≡ tree_down t d id
unfolding tree_down
tree_down-grown t u grown founded zero id within = refl
tree_down-grown t u grown founded (suc d) id within =
    ap (tree_of_place u (tree_down u d) id) (node_at-grown t u grown id within)
    ∙ place_grown t u grown id (tree_down u d) (tree_down t d) (λ j l. tree_down-grown t u grown founded d j (omega arith)) (node_at t id) (founded id)

module _ (t u : Table) (grown : Grows t u) (founded : IsFounded t) where
  -- and so does the tree at a node
  pub tree_at-grown : (id : ℕ) → id < length t.nodes → tree_at u id ≡ tree_at t id
  unfolding tree_at
  tree_at-grown id within = tree_down-grown t u grown founded (suc id) id within

  -- a block of the smaller table keeps its tree
  block_tree-grown : (id : ℕ) → IsBlockNode (node_at t id) → tree_at u id ≡ tree_at t id
  block_tree-grown id h = go (node_at t id) refl h
    where
      go : (o : Option Node) → node_at t id ≡ o → IsBlockNode o → tree_at u id ≡ tree_at t id
      go None e k = absurd k
      go (Some n) e k = tree_at-grown id (node_within t id n e)

  pub node-kept : (id : ℕ) (n : Node) → node_at t id ≡ Some n → IsNodeIn t id n → IsNodeIn u id n
  node-kept id n e h = record {
    parts = parts-kept t u grown id n h.parts;
    exprs = rw (exprs_of-grown t u grown n h.parts.places) (each_weaker (λ j. IsExprNode (node_at t j)) (λ j. IsExprNode (node_at u j)) (expr_node-kept t u grown) (exprs_of t n) h.exprs);
    blocks = rw (blocks_of-grown t u grown n h.parts.places) (each_weaker (λ j. IsBlockNode (node_at t j)) (λ j. IsBlockNode (node_at u j)) (block_node-kept t u grown) (blocks_of t n) h.blocks);
    known = known-kept t u grown id n h.known;
    low = rw (tree_at-grown id (node_within t id n e)) h.low;
  }

  pub body-kept : (site : ℕ) (b : Body) → IsBodyIn t site b → IsBodyIn u site b
  body-kept site b h = record {
    named = kept t u grown (IsDefNode site) (λ k. k) b.def.0 h.named;
    block = block_node-kept t u grown b.block.0 h.block;
    params = params-kept t u grown b h.params;
    few_nodes = rw (block_tree-grown b.block.0 h.block) h.few_nodes;
    few_calls = rw (block_tree-grown b.block.0 h.block) h.few_calls;
    few_variables = rw (block_tree-grown b.block.0 h.block) h.few_variables;
  }

  pub root-kept : (id : NodeId) → IsRootIn t id → IsRootIn u id
  root-kept id h = record { block = block_node-kept t u grown id.0 h.block; few_variables = rw (block_tree-grown id.0 h.block) h.few_variables }

  pub script-kept : (s : NameId × NodeId) → IsScriptIn t s → IsScriptIn u s
  script-kept s h = record { name = omega (arith, h.name, length-begins t.names u.names grown.names); root = root-kept s.1 h.root }

  -- the parts of the nodes that are there stay, and those of the new nodes come behind them
  pub all_parts-grown : all_parts u ≡ all_parts t ++ flat_map (λ p. parts_of u p.node) grown.nodes.0
  all_parts-grown =
      ap (flat_map (λ p. parts_of u p.node)) grown.nodes.1
      ∙ flat_map-append (λ p. parts_of u p.node) t.nodes grown.nodes.0
      ∙ ap (λ js. js ++ flat_map (λ p. parts_of u p.node) grown.nodes.0)
      (flat_map_alike (λ p. parts_of u p.node) (λ p. parts_of t p.node) t.nodes
      (each_from (λ p. parts_of u p.node ≡ parts_of t p.node) t.nodes (λ i p e. parts_of-grown t u grown p.node (founded i p.node (ap (option_map (λ q. q.node)) e)).places)))
