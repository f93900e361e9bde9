-- A node with its parts, as a tree. Each tree carries the number of its node.
use Rattle.std.specs.Prelude.{ℕ, ℤ, Bool}
use Rattle.hb_tree.specs.declared.node.Op.{Op}

mutual
  pub data Tree : Type 0 where
    TNil : (id : ℕ) → Tree
    TTrue : (id : ℕ) → Tree
    TFalse : (id : ℕ) → Tree
    TSelf : (id : ℕ) → Tree
    TInt : (id : ℕ) (value : ℤ) → Tree
    TText : (id text : ℕ) → Tree
    TVar : (id x : ℕ) → Tree
    TNew : (id class : ℕ) → Tree
    TAssign : (id x : ℕ) (e : Tree) → Tree
    TPrint : (id : ℕ) (e : Tree) → Tree
    TToStr : (id : ℕ) (e : Tree) → Tree
    TNot : (id : ℕ) (e : Tree) → Tree
    TBinary : (id : ℕ) (op : Op) (a b : Tree) → Tree
    TIf : (id : ℕ) (c a b : Tree) → Tree
    TWhile : (id : ℕ) (c b : Tree) → Tree
    TCall : (id : ℕ) (r : Tree) (m : ℕ) (args : Forest) → Tree
    -- a definition with a plain name, or with a computed one; it holds its block
    TDef : (id class m site : ℕ) (b : Tree) → Tree
    TDefComputed : (id class : ℕ) (e : Tree) (site : ℕ) (b : Tree) → Tree
    -- a declaration with a plain name, or with a computed one
    TDeclare : (id class m site : ℕ) (asks : Bool) → Tree
    TDeclareComputed : (id class : ℕ) (e : Tree) (site : ℕ) (asks : Bool) → Tree
    TBlock : (id : ℕ) (es : Forest) → Tree

  pub data Forest : Type 0 where
    NoTree : Forest
    Trees : (first : Tree) (rest : Forest) → Forest

-- the node of a tree
abbrev pub id_of : Tree → ℕ
id_of (TNil id) = id
id_of (TTrue id) = id
id_of (TFalse id) = id
id_of (TSelf id) = id
id_of (TInt id n) = id
id_of (TText id x) = id
id_of (TVar id x) = id
id_of (TNew id c) = id
id_of (TAssign id x e) = id
id_of (TPrint id e) = id
id_of (TToStr id e) = id
id_of (TNot id e) = id
id_of (TBinary id op a b) = id
id_of (TIf id c a b) = id
id_of (TWhile id c b) = id
id_of (TCall id r m args) = id
id_of (TDef id c m s b) = id
id_of (TDefComputed id c e s b) = id
id_of (TDeclare id c m s q) = id
id_of (TDeclareComputed id c e s q) = id
id_of (TBlock id es) = id

abbrev pub IsBlock : Tree → Type 0
IsBlock (TBlock id es) = Unit {0}
IsBlock _ = ⊥

abbrev pub IsExpr : Tree → Type 0
IsExpr (TBlock id es) = ⊥
IsExpr _ = Unit {0}
