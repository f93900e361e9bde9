-- The parts of a node: what their trees say of the node.
use Rattle.std.proofs.Common.{◌≡◌, ℕ, ◌<◌, ◌≤◌, List, [], ◌∷◌, Option, Some, None, refl, sym, ap, ◌∙◌, subst, arith, length, inl, inr}
use Rattle.std.specs.{Prelude.slice_get, Option.option_map, List.AllByRecursion}
use Rattle.std.proofs.lemmas.Option.{slice_get_cases, none-some}
use Rattle.hb_types.specs.declared.ids.NodeId.{NodeId}
use Rattle.hb_tree.proofs.{Lists.each_from, Lists.each_weaker, Trees.tree_at_node, Trees.node_within}
use Rattle.hb_tree.specs.{Table.Table, Counts.height, Counts.highest, Grows.IsFounded}
use Rattle.hb_tree.specs.declared.{node.Node.Node, node.Placed.Placed}
use Rattle.hb_tree.specs.declared.node.Node.TheVariants as node
use Rattle.hb_tree.specs.declared.node.Method.TheVariants as method
use Rattle.hb_tree.specs.{Tree.Tree, Tree.IsExpr, Tree.IsBlock, TreeAt.forest_at, TreeAt.tree_of, TreeAt.tree_at, Program.IsExprNode, Program.IsBlockNode, Program.all_parts}
use Rattle.hb_tree.specs.Nodes.{args_of, items_of, numbers_of, node_at, exprs_of, blocks_of, parts_of, AllParts}
use Rattle.hb_draft.proofs.Lists.{each-append, each-flat_map}

highest-forest : (f : ℕ → Tree) (is : List NodeId) → AllByRecursion (λ j. height (f j) < 256) (numbers_of is) → highest (forest_at f is) < 256
highest-forest f [] h = omega arith
highest-forest f (i ∷ is) h = omega (arith, h.0, highest-forest f is h.1)

-- a node whose parts are not of the greatest height
pub height-node : (t : Table) (f : ℕ → Tree) (id : ℕ) (n : Node) → AllParts (λ j. height (f j) < 256) t n → height (tree_of t f id n) ≤ 256
height-node t f id (node.Assign x e) h = omega (arith, h.0.0)
height-node t f id (node.Print e) h = omega (arith, h.0.0)
height-node t f id (node.ToStr e) h = omega (arith, h.0.0)
height-node t f id (node.Not e) h = omega (arith, h.0.0)
height-node t f id (node.Binary op a b) h = omega (arith, h.0.0, h.0.1.0)
height-node t f id (node.If c a b) h = omega (arith, h.0.0, h.1.0, h.1.1.0)
height-node t f id (node.While c b) h = omega (arith, h.0.0, h.1.0)
height-node t f id (node.Call r m args) h = omega (arith, h.0.0, highest-forest f (args_of args) h.0.1)
height-node t f id (node.Def (method.Named c m) s) h = omega (arith, h.1.0)
height-node t f id (node.Def (method.Computed c e) s) h = omega (arith, h.0.0, h.1.0)
height-node t f id (node.Declare (method.Named c m) s q) h = omega arith
height-node t f id (node.Declare (method.Computed c e) s q) h = omega (arith, h.0.0)
height-node t f id (node.Block first count) h = omega (arith, highest-forest f (items_of t first count) h.0)
height-node t f id _ h = omega arith

-- a tree that is an expression, or a block, is that of such a node
expr_node : (t : Table) (f : ℕ → Tree) (id : ℕ) (n : Node) → IsExpr (tree_of t f id n) → IsExprNode (Some n)
expr_node t f id (node.Block first count) h = h
expr_node t f id _ h = tt

block_node : (t : Table) (f : ℕ → Tree) (id : ℕ) (n : Node) → IsBlock (tree_of t f id n) → IsBlockNode (Some n)
block_node t f id (node.Block first count) h = tt
block_node t f id (node.Def (method.Named c m) s) h = h
block_node t f id (node.Declare (method.Named c m) s q) h = h
block_node _ _ _ _ h = h

module _ (t : Table) (founded : IsFounded t) (id : ℕ) (within : id < length t.nodes) where
  pub expr_node-at : IsExpr (tree_at t id) → IsExprNode (node_at t id)
  expr_node-at h = go (node_at t id) refl
    where
      go : (o : Option Node) → node_at t id ≡ o → IsExprNode o
      go None e = absurd (elim (slice_get_cases t.nodes id).1 [ inl k ↦ none-some (k.0).node (sym e ∙ ap (option_map (λ p. p.node)) k.2) | inr k ↦ omega arith ])
      go (Some n) e = expr_node t (tree_at t) id n (subst IsExpr (tree_at_node t founded id n e) h)

  pub block_node-at : IsBlock (tree_at t id) → IsBlockNode (node_at t id)
  block_node-at h = go (node_at t id) refl
    where
      go : (o : Option Node) → node_at t id ≡ o → IsBlockNode o
      go None e = absurd (elim (slice_get_cases t.nodes id).1 [ inl k ↦ none-some (k.0).node (sym e ∙ ap (option_map (λ p. p.node)) k.2) | inr k ↦ omega arith ])
      go (Some n) e = block_node t (tree_at t) id n (subst IsBlock (tree_at_node t founded id n e) h)

-- each part of a node is a node of the table
pub all_parts-within : (t : Table) → IsFounded t → AllByRecursion (λ j. j < length t.nodes) (all_parts t)
all_parts-within t founded =
    each-flat_map (λ j. j < length t.nodes) (λ p. parts_of t p.node) t.nodes (each_from (λ p. AllByRecursion (λ j. j < length t.nodes) (parts_of t p.node)) t.nodes within)
  where
    within : (id : ℕ) (p : Placed) → slice_get t.nodes id ≡ Some p → AllByRecursion (λ j. j < length t.nodes) (parts_of t p.node)
    within id p e =
        let at : node_at t id ≡ Some p.node = ap (option_map (λ q. q.node)) e in
        let low : id < length t.nodes = node_within t id p.node at in
        let below = (founded id p.node at).below in
        each-append (λ j. j < length t.nodes) (exprs_of t p.node) (blocks_of t p.node)
        (each_weaker (λ j. j < id) (λ j. j < length t.nodes) (λ j k. omega arith) (exprs_of t p.node) below.0)
        (each_weaker (λ j. j < id) (λ j. j < length t.nodes) (λ j k. omega arith) (blocks_of t p.node) below.1)
