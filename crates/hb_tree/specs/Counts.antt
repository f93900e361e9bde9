-- How high a tree is, and what a body has of nodes, calls and variables.
use Rattle.std.specs.Prelude.{ℕ, ◌+◌, max, List, [], ◌∷◌, ◌++◌, nat_eq}
use Rattle.std.specs.Set.{distinct_count}
use Rattle.hb_tree.specs.Tree.{Tree, TAssign, TPrint, TToStr, TNot, TBinary, TIf, TWhile, TCall, TDef, TDefComputed, TDeclareComputed, TBlock, Forest, NoTree, Trees}

-- one more than the highest of its parts, among which is the block of a definition
abbrev mutual
  pub height : Tree → ℕ
  height (TAssign id x e) = 1 + height e
  height (TPrint id e) = 1 + height e
  height (TToStr id e) = 1 + height e
  height (TNot id e) = 1 + height e
  height (TBinary id op a b) = 1 + max (height a) (height b)
  height (TIf id c a b) = 1 + max (height c) (max (height a) (height b))
  height (TWhile id c b) = 1 + max (height c) (height b)
  height (TCall id r m args) = 1 + max (height r) (highest args)
  height (TDef id c m s b) = 1 + height b
  height (TDefComputed id c e s b) = 1 + max (height e) (height b)
  height (TDeclareComputed id c e s q) = 1 + height e
  height (TBlock id es) = 1 + highest es
  height _ = 1

  pub highest : Forest → ℕ
  highest NoTree = 0
  highest (Trees e es) = max (height e) (highest es)

-- how many nodes it has, where the block of a definition counts for that definition's body alone
abbrev mutual
  pub nodes_in : Tree → ℕ
  nodes_in (TAssign id x e) = 1 + nodes_in e
  nodes_in (TPrint id e) = 1 + nodes_in e
  nodes_in (TToStr id e) = 1 + nodes_in e
  nodes_in (TNot id e) = 1 + nodes_in e
  nodes_in (TBinary id op a b) = 1 + nodes_in a + nodes_in b
  nodes_in (TIf id c a b) = 1 + nodes_in c + nodes_in a + nodes_in b
  nodes_in (TWhile id c b) = 1 + nodes_in c + nodes_in b
  nodes_in (TCall id r m args) = 1 + nodes_in r + nodes_in_all args
  nodes_in (TDefComputed id c e s b) = 1 + nodes_in e
  nodes_in (TDeclareComputed id c e s q) = 1 + nodes_in e
  nodes_in (TBlock id es) = 1 + nodes_in_all es
  nodes_in _ = 1

  pub nodes_in_all : Forest → ℕ
  nodes_in_all NoTree = 0
  nodes_in_all (Trees e es) = nodes_in e + nodes_in_all es

-- how many calls, likewise
abbrev mutual
  pub calls_in : Tree → ℕ
  calls_in (TAssign id x e) = calls_in e
  calls_in (TPrint id e) = calls_in e
  calls_in (TToStr id e) = calls_in e
  calls_in (TNot id e) = calls_in e
  calls_in (TBinary id op a b) = calls_in a + calls_in b
  calls_in (TIf id c a b) = calls_in c + calls_in a + calls_in b
  calls_in (TWhile id c b) = calls_in c + calls_in b
  calls_in (TCall id r m args) = 1 + calls_in r + calls_in_all args
  calls_in (TDefComputed id c e s b) = calls_in e
  calls_in (TDeclareComputed id c e s q) = calls_in e
  calls_in (TBlock id es) = calls_in_all es
  calls_in _ = 0

  pub calls_in_all : Forest → ℕ
  calls_in_all NoTree = 0
  calls_in_all (Trees e es) = calls_in e + calls_in_all es

-- which names are assigned, in the order of the text, likewise
abbrev mutual
  pub names_assigned_in : Tree → List ℕ
  names_assigned_in (TAssign id x e) = x ∷ names_assigned_in e
  names_assigned_in (TPrint id e) = names_assigned_in e
  names_assigned_in (TToStr id e) = names_assigned_in e
  names_assigned_in (TNot id e) = names_assigned_in e
  names_assigned_in (TBinary id op a b) = names_assigned_in a ++ names_assigned_in b
  names_assigned_in (TIf id c a b) = names_assigned_in c ++ names_assigned_in a ++ names_assigned_in b
  names_assigned_in (TWhile id c b) = names_assigned_in c ++ names_assigned_in b
  names_assigned_in (TCall id r m args) = names_assigned_in r ++ names_assigned_in_all args
  names_assigned_in (TDefComputed id c e s b) = names_assigned_in e
  names_assigned_in (TDeclareComputed id c e s q) = names_assigned_in e
  names_assigned_in (TBlock id es) = names_assigned_in_all es
  names_assigned_in _ = []

  pub names_assigned_in_all : Forest → List ℕ
  names_assigned_in_all NoTree = []
  names_assigned_in_all (Trees e es) = names_assigned_in e ++ names_assigned_in_all es

-- how many variables a block has that begins with these: each name counts once
abbrev pub variables_in : List ℕ → Tree → ℕ
variables_in params block = distinct_count nat_eq (params ++ names_assigned_in block)
