-- Nodes that are reached from the setup or from a script.
use Rattle.std.specs.Prelude.{ℕ, ◌+◌, ◌<◌, ◌≤◌, List, [], ◌∷◌, Option, Some, None, nat_eq, if◌then◌else◌}
use Rattle.hb_tree.specs.Tree.{Tree, TAssign, TPrint, TToStr, TNot, TBinary, TIf, TWhile, TCall, TDef, TDefComputed, TDeclareComputed, TBlock, Forest, NoTree, Trees, id_of}

-- one where the numbers are the same, and else none
abbrev pub hit : ℕ → ℕ → ℕ
hit k id = if nat_eq k id then 1 else 0

-- how often the node of this number lies in a tree
abbrev mutual
  pub nodes : ℕ → Tree → ℕ
  nodes k (TAssign id x e) = hit k id + nodes k e
  nodes k (TPrint id e) = hit k id + nodes k e
  nodes k (TToStr id e) = hit k id + nodes k e
  nodes k (TNot id e) = hit k id + nodes k e
  nodes k (TBinary id op a b) = hit k id + (nodes k a + nodes k b)
  nodes k (TIf id c a b) = hit k id + (nodes k c + (nodes k a + nodes k b))
  nodes k (TWhile id c b) = hit k id + (nodes k c + nodes k b)
  nodes k (TCall id r m args) = hit k id + (nodes k r + nodes_in_all k args)
  nodes k (TDef id c m s b) = hit k id + nodes k b
  nodes k (TDefComputed id c e s b) = hit k id + (nodes k e + nodes k b)
  nodes k (TDeclareComputed id c e s q) = hit k id + nodes k e
  nodes k (TBlock id es) = hit k id + nodes_in_all k es
  nodes k e = hit k (id_of e)

  pub nodes_in_all : ℕ → Forest → ℕ
  nodes_in_all k NoTree = 0
  nodes_in_all k (Trees e es) = nodes k e + nodes_in_all k es

-- in the setup's
abbrev pub nodes_of_setup : ℕ → Option Tree → ℕ
nodes_of_setup k None = 0
nodes_of_setup k (Some b) = nodes k b

-- and in the scripts'
abbrev pub nodes_of_scripts : ℕ → List (ℕ × Tree) → ℕ
nodes_of_scripts k [] = 0
nodes_of_scripts k (s ∷ more) = nodes k s.1 + nodes_of_scripts k more

-- each of so many nodes lies in the setup or in a script
abbrev pub IsWhole : ℕ → Option Tree → List (ℕ × Tree) → Type 0
IsWhole count setup scripts = (k : ℕ) → k < count → 1 ≤ nodes_of_setup k setup + nodes_of_scripts k scripts
