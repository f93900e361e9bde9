-- How often a block of this number occurs in trees.
use Rattle.std.proofs.Common.{◌≡◌, ℕ, zero, suc, ◌+◌, List, [], ◌∷◌, ◌++◌, cond, nat_eq, Option, Some, None, slice_get, option_map, map, refl, ap, subst, ◌∙◌, arith}
use Rattle.std.proofs.lemmas.Bool.{cond-true, cond-false, eq-eqb, ne_eqb}
use Rattle.hb_types.specs.declared.{ids.NameId.NameId, ids.NodeId.NodeId}
use Rattle.hb_tree.specs.{Table.Table, Program.IsExprNode}
use Rattle.hb_tree.specs.declared.node.Node.{Node}
use Rattle.hb_tree.specs.declared.node.Node.TheVariants as node
use Rattle.hb_tree.specs.declared.node.Method.TheVariants as method
use Rattle.hb_tree.specs.Tree.{Tree, TAssign, TPrint, TToStr, TNot, TBinary, TIf, TWhile, TCall, TDef, TDefComputed, TDeclareComputed, TBlock, Forest, NoTree, Trees}
use Rattle.hb_tree.specs.Nodes.{node_at, args_of, items_of, block_in}
use Rattle.hb_tree.specs.TreeAt.{forest_at, tree_of, tree_of_place, tree_down, tree_at}
use Rattle.hb_draft.specs.Unfinished.{forest_of, setup_in, scripts_in}

-- ── two numbers that are one ──

-- one where they are, and else nothing
abbrev pub hit : ℕ → ℕ → ℕ
hit a b = cond (nat_eq a b) 1 0

pub hit-same : (a : ℕ) → hit a a ≡ 1
hit-same a = cond-true (nat_eq a a) 1 0 (eq-eqb a a refl)

pub hit-other : (a b : ℕ) → (a ≡ b → ⊥) → hit a b ≡ 0
hit-other a b ne = cond-false (nat_eq a b) 1 0 (ne_eqb a b ne)

-- ── blocks ──

abbrev mutual
  pub blocks : ℕ → Tree → ℕ
  blocks k (TAssign id x e) = blocks k e
  blocks k (TPrint id e) = blocks k e
  blocks k (TToStr id e) = blocks k e
  blocks k (TNot id e) = blocks k e
  blocks k (TBinary id op a b) = blocks k a + blocks k b
  blocks k (TIf id c a b) = blocks k c + blocks k a + blocks k b
  blocks k (TWhile id c b) = blocks k c + blocks k b
  blocks k (TCall id r m args) = blocks k r + blocks_in_all k args
  blocks k (TDef id c m s b) = blocks k b
  blocks k (TDefComputed id c e s b) = blocks k e + blocks k b
  blocks k (TDeclareComputed id c e s q) = blocks k e
  blocks k (TBlock id es) = hit k id + blocks_in_all k es
  blocks k _ = 0

  pub blocks_in_all : ℕ → Forest → ℕ
  blocks_in_all k NoTree = 0
  blocks_in_all k (Trees e es) = blocks k e + blocks_in_all k es

pub blocks-more : (k : ℕ) (es : List Tree) (e : Tree) → blocks_in_all k (forest_of (es ++ e ∷ [])) ≡ blocks_in_all k (forest_of es) + blocks k e
blocks-more k [] e = omega arith
blocks-more k (x ∷ es) e =
    let h : blocks_in_all k (forest_of (es ++ e ∷ [])) ≡ blocks_in_all k (forest_of es) + blocks k e = blocks-more k es e in
    omega (arith, h)

-- ── the blocks of the setup and of the scripts ──

abbrev pub blocks_of_setup : ℕ → Option Tree → ℕ
blocks_of_setup k None = 0
blocks_of_setup k (Some b) = blocks k b

abbrev pub blocks_of_scripts : ℕ → List (ℕ × Tree) → ℕ
blocks_of_scripts k [] = 0
blocks_of_scripts k (s ∷ more) = blocks k s.1 + blocks_of_scripts k more

pub scripts-more : (k : ℕ) (scripts : List (ℕ × Tree)) (x : ℕ) (b : Tree) → blocks_of_scripts k (scripts ++ (x, b) ∷ []) ≡ blocks_of_scripts k scripts + blocks k b
scripts-more k [] x b = omega arith
scripts-more k (s ∷ more) x b =
    let h : blocks_of_scripts k (more ++ (x, b) ∷ []) ≡ blocks_of_scripts k more + blocks k b = scripts-more k more x b in
    omega (arith, h)

-- ── a node of a program that is no block ──

module _ (t : Table) (k : ℕ) (expr : IsExprNode (node_at t k)) where
  -- no tree of some has it as a block
  abbrev HasNone : (ℕ → Tree) → Type 0
  HasNone part = (i : ℕ) → blocks k (part i) ≡ 0

  forest-none : (part : ℕ → Tree) (ids : List NodeId) → HasNone part → blocks_in_all k (forest_at part ids) ≡ 0
  forest-none part [] none = refl
  forest-none part (i ∷ ids) none = omega (arith, none i.0, forest-none part ids none)

  block-none : (id first count : ℕ) → node_at t id ≡ Some (node.Block first count) → hit k id ≡ 0
  block-none id first count is = hit-other k id (λ e. subst IsExprNode (ap (node_at t) e ∙ is) expr)

  node-none : (part : ℕ → Tree) (id : ℕ) (n : Node) → node_at t id ≡ Some n → HasNone part → blocks k (tree_of t part id n) ≡ 0
  node-none part id (node.Assign x e) is none = none e.0
  node-none part id (node.Print e) is none = none e.0
  node-none part id (node.ToStr e) is none = none e.0
  node-none part id (node.Not e) is none = none e.0
  node-none part id (node.Binary op a b) is none = omega (arith, none a.0, none b.0)
  node-none part id (node.If c a b) is none = omega (arith, none c.0, none a.0, none b.0)
  node-none part id (node.While c b) is none = omega (arith, none c.0, none b.0)
  node-none part id (node.Call r m args) is none = omega (arith, none r.0, forest-none part (args_of args) none)
  node-none part id (node.Def (method.Named c m) s) is none = none (block_in (slice_get t.bodies s.0))
  node-none part id (node.Def (method.Computed c e) s) is none = omega (arith, none e.0, none (block_in (slice_get t.bodies s.0)))
  node-none part id (node.Declare (method.Computed c e) s q) is none = none e.0
  node-none part id (node.Block first count) is none = omega (arith, block-none id first count is, forest-none part (items_of t first count) none)
  node-none _ _ _ _ _ = refl

  place-none : (part : ℕ → Tree) (id : ℕ) (o : Option Node) → node_at t id ≡ o → HasNone part → blocks k (tree_of_place t part id o) ≡ 0
  place-none part id None is none = refl
  place-none part id (Some n) is none = node-none part id n is none

  down-none : (depth id : ℕ) → blocks k (tree_down t depth id) ≡ 0
  unfolding tree_down
  down-none zero id = refl
  down-none (suc depth) id = place-none (tree_down t depth) id (node_at t id) refl (down-none depth)

  tree-none : (id : ℕ) → blocks k (tree_at t id) ≡ 0
  unfolding tree_at
  tree-none id = down-none (suc id) id

  pub setup-none : blocks_of_setup k (setup_in t) ≡ 0
  setup-none = some-none t.setup
    where
      some-none : (b : Option NodeId) → blocks_of_setup k (option_map (λ b. tree_at t b.0) b) ≡ 0
      some-none None = refl
      some-none (Some b) = tree-none b.0

  pub scripts-none : blocks_of_scripts k (scripts_in t) ≡ 0
  scripts-none = each-none t.scripts
    where
      each-none : (scripts : List (NameId × NodeId)) → blocks_of_scripts k (map (λ s. (s.0.0, tree_at t s.1.0)) scripts) ≡ 0
      each-none [] = refl
      each-none (s ∷ more) = omega (arith, tree-none s.1.0, each-none more)
