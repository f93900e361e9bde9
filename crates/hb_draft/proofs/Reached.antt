-- The tree at the number of a node that is reached is told by the tree in which it lies.
use Rattle.std.proofs.Common.{◌≡◌, inl, inr, ℕ, zero, suc, ◌+◌, ◌<◌, ◌≤◌, List, [], ◌∷◌, map, length, Option, Some, None, refl, sym, ap, ◌∙◌, subst, arith, IfSome, option_map}
use Rattle.std.specs.List.{AllByRecursion}
use Rattle.std.proofs.{lemmas.Option.slice_get_cases, lemmas.Bool.Decides.eqb_tells}
use Rattle.hb_types.specs.declared.{ids.NodeId.NodeId, ids.NameId.NameId}
use Rattle.hb_tree.specs.{Table.Table, Program.IsProgram, Program.IsRootIn, Program.IsScriptIn, TreeAt.forest_at, TreeAt.tree_at, TreeAt.tree_of, Grows.IsFounded}
use Rattle.hb_tree.specs.declared.node.Node.{Node}
use Rattle.hb_tree.specs.declared.node.Node.TheVariants as node
use Rattle.hb_tree.specs.declared.node.Method.TheVariants as method
use Rattle.hb_tree.specs.Tree.{Tree, TAssign, TPrint, TToStr, TNot, TBinary, TIf, TWhile, TCall, TDef, TDefComputed, TDeclareComputed, TBlock, Forest, NoTree, Trees, id_of}
use Rattle.hb_tree.specs.Nodes.{AllParts, args_of, items_of, node_at, numbers_of}
use Rattle.hb_tree.proofs.Trees.{block_seen, parts_weaker, tree_at_node}
use Rattle.hb_draft.specs.{Unfinished.setup_in, Unfinished.scripts_in}
use Rattle.hb_draft.specs.Whole.{IsWhole, hit, nodes, nodes_in_all, nodes_of_setup, nodes_of_scripts}
use Rattle.hb_draft.proofs.Append.{founded}

-- each tree in this one is that at its number
abbrev mutual
  pub Knows : Table → Tree → Type 0
  Knows t (TAssign id x e) = (tree_at t id ≡ TAssign id x e) × Knows t e
  Knows t (TPrint id e) = (tree_at t id ≡ TPrint id e) × Knows t e
  Knows t (TToStr id e) = (tree_at t id ≡ TToStr id e) × Knows t e
  Knows t (TNot id e) = (tree_at t id ≡ TNot id e) × Knows t e
  Knows t (TBinary id op a b) = (tree_at t id ≡ TBinary id op a b) × Knows t a × Knows t b
  Knows t (TIf id c a b) = (tree_at t id ≡ TIf id c a b) × Knows t c × Knows t a × Knows t b
  Knows t (TWhile id c b) = (tree_at t id ≡ TWhile id c b) × Knows t c × Knows t b
  Knows t (TCall id r m args) = (tree_at t id ≡ TCall id r m args) × Knows t r × KnowsAll t args
  Knows t (TDef id c m s b) = (tree_at t id ≡ TDef id c m s b) × Knows t b
  Knows t (TDefComputed id c e s b) = (tree_at t id ≡ TDefComputed id c e s b) × Knows t e × Knows t b
  Knows t (TDeclareComputed id c e s q) = (tree_at t id ≡ TDeclareComputed id c e s q) × Knows t e
  Knows t (TBlock id es) = (tree_at t id ≡ TBlock id es) × KnowsAll t es
  Knows t e = tree_at t (id_of e) ≡ e

  pub KnowsAll : Table → Forest → Type 0
  KnowsAll t NoTree = Unit {0}
  KnowsAll t (Trees e es) = Knows t e × KnowsAll t es

-- so it is with the trees of a program
module _ (t : Table) where
  knows-forest : (is : List NodeId) → AllByRecursion (λ j. Knows t (tree_at t j)) (numbers_of is) → KnowsAll t (forest_at (tree_at t) is)
  knows-forest [] h = tt
  knows-forest (i ∷ is) h = (h.0, knows-forest is h.1)

  knows-node : (id : ℕ) (n : Node) → tree_at t id ≡ tree_of t (tree_at t) id n → AllParts (λ j. Knows t (tree_at t j)) t n → Knows t (tree_of t (tree_at t) id n)
  knows-node id (node.Assign x e) is h = (is, h.0.0)
  knows-node id (node.Print e) is h = (is, h.0.0)
  knows-node id (node.ToStr e) is h = (is, h.0.0)
  knows-node id (node.Not e) is h = (is, h.0.0)
  knows-node id (node.Binary op a b) is h = (is, h.0.0, h.0.1.0)
  knows-node id (node.If c a b) is h = (is, h.0.0, h.1.0, h.1.1.0)
  knows-node id (node.While c b) is h = (is, h.0.0, h.1.0)
  knows-node id (node.Call r m args) is h = (is, h.0.0, knows-forest (args_of args) h.0.1)
  knows-node id (node.Def (method.Named c m) s) is h = (is, h.1.0)
  knows-node id (node.Def (method.Computed c e) s) is h = (is, h.0.0, h.1.0)
  knows-node id (node.Declare (method.Named c m) s q) is h = is
  knows-node id (node.Declare (method.Computed c e) s q) is h = (is, h.0.0)
  knows-node id (node.Block first count) is h = (is, knows-forest (items_of t first count) h.0)
  knows-node id _ is h = is

  module _ (founds : IsFounded t) where
    knows-below : (bound k : ℕ) → k < bound → k < length t.nodes → Knows t (tree_at t k)
    knows-below zero k low within = absurd (omega arith)
    knows-below (suc bound) k low within = elim (slice_get_cases t.nodes k).1 [
      | inl h ↦ (
          let n : Node = (h.0).node in
          let here : node_at t k ≡ Some n = ap (option_map (λ p. p.node)) h.2 in
          let is : tree_at t k ≡ tree_of t (tree_at t) k n = tree_at_node t founds k n here in
          subst (Knows t) (sym is) (knows-node k n is
          (parts_weaker t (λ j. j < k) (λ j. Knows t (tree_at t j)) (λ j less. knows-below bound j (omega arith) (omega arith)) n (founds k n here).below))
          )
      | inr past ↦ absurd (omega (arith, past.0))
    ]

    pub knows-at : (k : ℕ) → k < length t.nodes → Knows t (tree_at t k)
    knows-at k within = knows-below (suc k) k (omega arith) within

abbrev pub KnowsSetup : Table → Option Tree → Type 0
KnowsSetup t None = Unit {0}
KnowsSetup t (Some b) = Knows t b

abbrev pub KnowsScripts : Table → List (ℕ × Tree) → Type 0
KnowsScripts t [] = Unit {0}
KnowsScripts t (s ∷ more) = Knows t s.1 × KnowsScripts t more

module _ (t : Table) (program : IsProgram t) where
  knows-root : (b : NodeId) → IsRootIn t b → Knows t (tree_at t b.0)
  knows-root b h = knows-at t (founded t program) b.0 (block_seen t (founded t program) b.0 h.block).0

  pub knows-setup : KnowsSetup t (setup_in t)
  knows-setup = go t.setup program.setup
    where
      go : (o : Option NodeId) → IfSome o (IsRootIn t) → KnowsSetup t (option_map (λ b. tree_at t b.0) o)
      go None h = tt
      go (Some b) h = knows-root b h

  pub knows-scripts : KnowsScripts t (scripts_in t)
  knows-scripts = go t.scripts program.scripts
    where
      go : (ss : List (NameId × NodeId)) → AllByRecursion (IsScriptIn t) ss → KnowsScripts t (map (λ s. (s.0.0, tree_at t s.1.0)) ss)
      go [] h = tt
      go (s ∷ ss) h = (knows-root s.1 h.0.root, go ss h.1)

-- Two tables that know one tree have one tree at the number of each node in it.
module _ (t u : Table) (k : ℕ) where
  abbrev Agree : Type 0
  Agree = tree_at t k ≡ tree_at u k

  here : (id : ℕ) (e : Tree) → tree_at t id ≡ e → tree_at u id ≡ e → (rest : ℕ) → 1 ≤ hit k id + rest → (1 ≤ rest → Agree) → Agree
  here id e p q rest some go = elim (eqb_tells k id) [
    | inl same ↦ ap (tree_at t) same.1 ∙ p ∙ sym q ∙ sym (ap (tree_at u) same.1)
    | inr other ↦ (let none : hit k id ≡ 0 = rw other.0 refl in go (omega (arith, some, none)))
  ]

  either : (a b : ℕ) → 1 ≤ a + b → (1 ≤ a → Agree) → (1 ≤ b → Agree) → Agree
  either zero b some go next = next (omega (arith, some))
  either (suc a) b some go next = go (omega arith)

  mutual
    agree : (e : Tree) → Knows t e → Knows u e → 1 ≤ nodes k e → Agree
    agree (TAssign id x e) h g some = here id (TAssign id x e) h.0 g.0 (nodes k e) some (agree e h.1 g.1)
    agree (TPrint id e) h g some = here id (TPrint id e) h.0 g.0 (nodes k e) some (agree e h.1 g.1)
    agree (TToStr id e) h g some = here id (TToStr id e) h.0 g.0 (nodes k e) some (agree e h.1 g.1)
    agree (TNot id e) h g some = here id (TNot id e) h.0 g.0 (nodes k e) some (agree e h.1 g.1)
    agree (TBinary id op a b) h g some = here id (TBinary id op a b) h.0 g.0 (nodes k a + nodes k b) some (λ s. either (nodes k a) (nodes k b) s (agree a h.1 g.1) (agree b h.2 g.2))
    agree (TIf id c a b) h g some = here id (TIf id c a b) h.0 g.0 (nodes k c + (nodes k a + nodes k b)) some
        (λ s. either (nodes k c) (nodes k a + nodes k b) s (agree c h.1 g.1) (λ s. either (nodes k a) (nodes k b) s (agree a h.2 g.2) (agree b h.3 g.3)))
    agree (TWhile id c b) h g some = here id (TWhile id c b) h.0 g.0 (nodes k c + nodes k b) some (λ s. either (nodes k c) (nodes k b) s (agree c h.1 g.1) (agree b h.2 g.2))
    agree (TCall id r m args) h g some = here id (TCall id r m args) h.0 g.0 (nodes k r + nodes_in_all k args) some (λ s. either (nodes k r) (nodes_in_all k args) s (agree r h.1 g.1) (agree-all args h.2 g.2))
    agree (TDef id c m s b) h g some = here id (TDef id c m s b) h.0 g.0 (nodes k b) some (agree b h.1 g.1)
    agree (TDefComputed id c e s b) h g some = here id (TDefComputed id c e s b) h.0 g.0 (nodes k e + nodes k b) some (λ s. either (nodes k e) (nodes k b) s (agree e h.1 g.1) (agree b h.2 g.2))
    agree (TDeclareComputed id c e s q) h g some = here id (TDeclareComputed id c e s q) h.0 g.0 (nodes k e) some (agree e h.1 g.1)
    agree (TBlock id es) h g some = here id (TBlock id es) h.0 g.0 (nodes_in_all k es) some (agree-all es h.1 g.1)
    agree e h g some = here (id_of e) e h g 0 (omega (arith, some)) (λ s. absurd (omega (arith, s)))

    agree-all : (es : Forest) → KnowsAll t es → KnowsAll u es → 1 ≤ nodes_in_all k es → Agree
    agree-all NoTree h g some = absurd (omega (arith, some))
    agree-all (Trees e es) h g some = either (nodes k e) (nodes_in_all k es) some (agree e h.0 g.0) (agree-all es h.1 g.1)

  agree-setup : (o : Option Tree) → KnowsSetup t o → KnowsSetup u o → 1 ≤ nodes_of_setup k o → Agree
  agree-setup None h g some = absurd (omega (arith, some))
  agree-setup (Some b) h g some = agree b h g some

  agree-scripts : (ss : List (ℕ × Tree)) → KnowsScripts t ss → KnowsScripts u ss → 1 ≤ nodes_of_scripts k ss → Agree
  agree-scripts [] h g some = absurd (omega (arith, some))
  agree-scripts (s ∷ more) h g some = either (nodes k s.1) (nodes_of_scripts k more) some (agree s.1 h.0 g.0) (agree-scripts more h.1 g.1)

  pub agree-said : IsProgram t → IsProgram u → (count : ℕ) → IsWhole count (setup_in t) (scripts_in t) → setup_in t ≡ setup_in u → scripts_in t ≡ scripts_in u → k < count → Agree
  agree-said program other count whole setup scripts within =
      either (nodes_of_setup k (setup_in t)) (nodes_of_scripts k (scripts_in t)) (whole k within)
      (agree-setup (setup_in t) (knows-setup t program) (subst (KnowsSetup u) (sym setup) (knows-setup u other)))
      (agree-scripts (scripts_in t) (knows-scripts t program) (subst (KnowsScripts u) (sym scripts) (knows-scripts u other)))
