-- The tree at a node is made of the trees at its parts.
use Rattle.std.proofs.Common.{◌≡◌, length, ℕ, zero, suc, ◌<◌, List, [], ◌∷◌, Option, Some, None, refl, sym, ap, ◌∙◌, subst, arith}
use Rattle.std.specs.{Prelude.slice_get, Option.option_map, List.AllByRecursion}
use Rattle.std.proofs.lemmas.Option.{slice_get_within, none-some}
use Rattle.hb_types.specs.declared.ids.NodeId.{NodeId}
use Rattle.hb_tree.specs.{Table.Table, Program.IsExprNode, Program.IsBlockNode, Grows.IsFounded}
use Rattle.hb_tree.specs.declared.{node.Node.Node, node.Placed.Placed}
use Rattle.hb_tree.specs.declared.node.Node.TheVariants as node
use Rattle.hb_tree.specs.declared.node.Method.TheVariants as method
use Rattle.hb_tree.specs.Tree.{Tree, TAssign, TPrint, TToStr, TNot, TBlock, TDef, TDeclareComputed, IsExpr, IsBlock, id_of}
use Rattle.hb_tree.specs.Nodes.{args_of, items_of, numbers_of, node_at, exprs_of, blocks_of, AllParts}
use Rattle.hb_tree.specs.TreeAt.{forest_at, tree_of, tree_of_place, tree_down, tree_at, IsExprAt, IsBlockAt}
use Rattle.hb_tree.proofs.Lists.{each_weaker}

-- two functions that are alike at these nodes make one list of trees
forest_alike : (f g : ℕ → Tree) (is : List NodeId) → AllByRecursion (λ j. f j ≡ g j) (numbers_of is) → forest_at f is ≡ forest_at g is
forest_alike f g [] h = refl
forest_alike f g (i ∷ is) h = rw (h.0, forest_alike f g is h.1) refl

-- two functions that are alike at the parts of a node make one tree
pub tree_alike : (t : Table) (f g : ℕ → Tree) (id : ℕ) (n : Node) → AllParts (λ j. f j ≡ g j) t n → tree_of t f id n ≡ tree_of t g id n
tree_alike t f g id (node.Assign x e) h = ap (TAssign id x.0) h.0.0
tree_alike t f g id (node.Print e) h = ap (TPrint id) h.0.0
tree_alike t f g id (node.ToStr e) h = ap (TToStr id) h.0.0
tree_alike t f g id (node.Not e) h = ap (TNot id) h.0.0
tree_alike t f g id (node.Binary op a b) h = let ea = h.0.0 in let eb = h.0.1.0 in cc
tree_alike t f g id (node.If c a b) h = let ec = h.0.0 in let ea = h.1.0 in let eb = h.1.1.0 in cc
tree_alike t f g id (node.While c b) h = let ec = h.0.0 in let eb = h.1.0 in cc
tree_alike t f g id (node.Call r m args) h = let er = h.0.0 in let ea = forest_alike f g (args_of args) h.0.1 in cc
tree_alike t f g id (node.Def (method.Named c m) s) h = ap (TDef id c.0 m.0 s.0) h.1.0
tree_alike t f g id (node.Def (method.Computed c e) s) h = let ee = h.0.0 in let eb = h.1.0 in cc
tree_alike t f g id (node.Declare (method.Computed c e) s q) h = ap (λ u. TDeclareComputed id c.0 u s.0 q) h.0.0
tree_alike t f g id (node.Block first count) h = ap (TBlock id) (forest_alike f g (items_of t first count) h.0)
tree_alike _ _ _ _ _ _ = refl

-- a weaker fact of each part
pub parts_weaker : (t : Table) (P Q : ℕ → Type 0) → ((j : ℕ) → P j → Q j) → (n : Node) → AllParts P t n → AllParts Q t n
parts_weaker t P Q f n h = (each_weaker P Q f (exprs_of t n) h.0, each_weaker P Q f (blocks_of t n) h.1)

module _ (t : Table) (founded : IsFounded t) where
  place_alike : (f g : ℕ → Tree) (id : ℕ) → ((j : ℕ) → j < id → f j ≡ g j) → (o : Option Node) → node_at t id ≡ o → tree_of_place t f id o ≡ tree_of_place t g id o
  place_alike f g id same None e = refl
  place_alike f g id same (Some n) e = tree_alike t f g id n (parts_weaker t (λ j. j < id) (λ j. f j ≡ g j) same n (founded id n e).below)

  -- two depths that are deep enough give one tree
  deep_enough : (d e id : ℕ) → id < d → id < e → tree_down t d id ≡ tree_down t e id
  unfolding tree_down
  deep_enough zero e id h k = absurd (omega arith)
  deep_enough (suc d) zero id h k = absurd (omega arith)
  deep_enough (suc d) (suc e) id h k =
      place_alike (tree_down t d) (tree_down t e) id (λ j l. deep_enough d e j (omega arith) (omega arith)) (node_at t id) refl

  -- the tree at a node, from the trees at its parts
  pub tree_at_node : (id : ℕ) (n : Node) → node_at t id ≡ Some n → tree_at t id ≡ tree_of t (tree_at t) id n
  unfolding tree_at tree_down
  tree_at_node id n e =
      ap (tree_of_place t (tree_down t id) id) e
      ∙ place_alike (tree_down t id) (λ j. tree_down t (suc j) j) id (λ j l. deep_enough id (suc j) j l (omega arith)) (Some n) e

-- a node that is an expression has the tree of one
expr_kind : (t : Table) (part : ℕ → Tree) (id : ℕ) (n : Node) → IsExprNode (Some n) → IsExpr (tree_of t part id n)
expr_kind t part id (node.Block first count) h = h
expr_kind t part id (node.Def (method.Named c m) s) h = tt
expr_kind t part id (node.Declare (method.Named c m) s q) h = tt
expr_kind _ _ _ _ _ = tt

-- and one that is a block that of a block
block_kind : (t : Table) (part : ℕ → Tree) (id : ℕ) (n : Node) → IsBlockNode (Some n) → IsBlock (tree_of t part id n)
block_kind t part id (node.Block first count) h = tt
block_kind t part id _ h = absurd h

-- a number with a node is one of the table's
pub node_within : (t : Table) (id : ℕ) (n : Node) → node_at t id ≡ Some n → id < length t.nodes
node_within t id n e = go (slice_get t.nodes id) refl e
  where
    go : (o : Option Placed) → slice_get t.nodes id ≡ o → option_map (λ p. p.node) o ≡ Some n → id < length t.nodes
    go None k l = absurd (none-some n l)
    go (Some p) k l = slice_get_within t.nodes id p k

module _ (t : Table) (founded : IsFounded t) (id : ℕ) where
  pub expr_seen : IsExprNode (node_at t id) → IsExprAt t id
  expr_seen h = go (node_at t id) refl h
    where
      go : (o : Option Node) → node_at t id ≡ o → IsExprNode o → IsExprAt t id
      go None e k = absurd k
      go (Some n) e k = (node_within t id n e, subst IsExpr (sym (tree_at_node t founded id n e)) (expr_kind t (tree_at t) id n k))

  pub block_seen : IsBlockNode (node_at t id) → IsBlockAt t id
  block_seen h = go (node_at t id) refl h
    where
      go : (o : Option Node) → node_at t id ≡ o → IsBlockNode o → IsBlockAt t id
      go None e k = absurd k
      go (Some n) e k = (node_within t id n e, subst IsBlock (sym (tree_at_node t founded id n e)) (block_kind t (tree_at t) id n k))

-- the tree at a node carries its number
id_of_place : (t : Table) (f : ℕ → Tree) (id : ℕ) (o : Option Node) → id_of (tree_of_place t f id o) ≡ id
id_of_place t f id (Some (node.Def (method.Named c m) s)) = refl
id_of_place t f id (Some (node.Declare (method.Named c m) s q)) = refl
id_of_place _ _ _ _ = refl

pub id_of-tree_at : (t : Table) (id : ℕ) → id_of (tree_at t id) ≡ id
unfolding tree_at tree_down
id_of-tree_at t id = id_of_place t (tree_down t id) id (node_at t id)
