-- The parts of a tree, and the variables with which the judgement reaches them.
use Rattle.std.specs.Prelude.{◌≡◌, ◌⊎◌, ℕ, Ok}
use Rattle.hb_types.specs.Variables.{Variables}
use Rattle.hb_tree.specs.Tree.{Tree, TNil, TTrue, TFalse, TSelf, TInt, TText, TVar, TNew, TAssign, TPrint, TToStr, TNot, TBinary, TIf, TWhile, TCall, TDef, TDefComputed, TDeclare, TDeclareComputed, TBlock, Forest, NoTree, Trees}
use Rattle.hb_deriv.specs.Judge.{Types, Verdict, judge}

-- x is the tree or one of its parts, and no part of the body of a definition within it
abbrev mutual
  pub IsPart : Tree → Tree → Type 0
  IsPart x (TNil id) = x ≡ TNil id
  IsPart x (TTrue id) = x ≡ TTrue id
  IsPart x (TFalse id) = x ≡ TFalse id
  IsPart x (TSelf id) = x ≡ TSelf id
  IsPart x (TInt id v) = x ≡ TInt id v
  IsPart x (TText id y) = x ≡ TText id y
  IsPart x (TVar id y) = x ≡ TVar id y
  IsPart x (TNew id c) = x ≡ TNew id c
  IsPart x (TAssign id y e) = (x ≡ TAssign id y e) ⊎ IsPart x e
  IsPart x (TPrint id e) = (x ≡ TPrint id e) ⊎ IsPart x e
  IsPart x (TToStr id e) = (x ≡ TToStr id e) ⊎ IsPart x e
  IsPart x (TNot id e) = (x ≡ TNot id e) ⊎ IsPart x e
  IsPart x (TBinary id o a b) = (x ≡ TBinary id o a b) ⊎ (IsPart x a ⊎ IsPart x b)
  IsPart x (TIf id c a b) = (x ≡ TIf id c a b) ⊎ (IsPart x c ⊎ (IsPart x a ⊎ IsPart x b))
  IsPart x (TWhile id c b) = (x ≡ TWhile id c b) ⊎ (IsPart x c ⊎ IsPart x b)
  IsPart x (TCall id r m args) = (x ≡ TCall id r m args) ⊎ (IsPart x r ⊎ IsPartAmong x args)
  IsPart x (TDef id c m site b) = x ≡ TDef id c m site b
  IsPart x (TDefComputed id c e site b) = (x ≡ TDefComputed id c e site b) ⊎ IsPart x e
  IsPart x (TDeclare id c m site asks) = x ≡ TDeclare id c m site asks
  IsPart x (TDeclareComputed id c e site asks) = (x ≡ TDeclareComputed id c e site asks) ⊎ IsPart x e
  IsPart x (TBlock id es) = (x ≡ TBlock id es) ⊎ IsPartAmong x es

  pub IsPartAmong : Tree → Forest → Type 0
  IsPartAmong x NoTree = ⊥
  IsPartAmong x (Trees e es) = IsPart x e ⊎ IsPartAmong x es

-- the judgement gives something, of which this holds
pub record Gives {A : Type 0} (v : Verdict A) (P : A → Type 0) : Type 0 where
  pub value : A
  pub is : v ≡ Ok value
  pub holds : P value

-- the tree itself is reached with the variables with which its judgement begins
abbrev pub IsAt : Tree → Variables → Tree → Variables → Type 0
IsAt x H e G = (x ≡ e) × (H ≡ G)

-- The judgement of a tree, which begins with the variables G, reaches x with the variables H: those that it has behind the parts before x.
abbrev mutual
  pub IsReached : Types → (me : ℕ) → Tree → Variables → Tree → Variables → Type 0
  IsReached types me x H (TNil id) G = IsAt x H (TNil id) G
  IsReached types me x H (TTrue id) G = IsAt x H (TTrue id) G
  IsReached types me x H (TFalse id) G = IsAt x H (TFalse id) G
  IsReached types me x H (TSelf id) G = IsAt x H (TSelf id) G
  IsReached types me x H (TInt id v) G = IsAt x H (TInt id v) G
  IsReached types me x H (TText id y) G = IsAt x H (TText id y) G
  IsReached types me x H (TVar id y) G = IsAt x H (TVar id y) G
  IsReached types me x H (TNew id c) G = IsAt x H (TNew id c) G
  IsReached types me x H (TAssign id y e) G = IsAt x H (TAssign id y e) G ⊎ IsReached types me x H e G
  IsReached types me x H (TPrint id e) G = IsAt x H (TPrint id e) G ⊎ IsReached types me x H e G
  IsReached types me x H (TToStr id e) G = IsAt x H (TToStr id e) G ⊎ IsReached types me x H e G
  IsReached types me x H (TNot id e) G = IsAt x H (TNot id e) G ⊎ IsReached types me x H e G
  IsReached types me x H (TBinary id o a b) G = IsAt x H (TBinary id o a b) G ⊎ (IsReached types me x H a G ⊎ Gives (judge types me a G) (λ r. IsReached types me x H b r.0))
  IsReached types me x H (TIf id c a b) G = IsAt x H (TIf id c a b) G ⊎ (IsReached types me x H c G ⊎ Gives (judge types me c G) (λ r. IsReached types me x H a r.0 ⊎ IsReached types me x H b r.0))
  IsReached types me x H (TWhile id c b) G = IsAt x H (TWhile id c b) G ⊎ (IsReached types me x H c G ⊎ Gives (judge types me c G) (λ r. IsReached types me x H b r.0))
  IsReached types me x H (TCall id r m args) G = IsAt x H (TCall id r m args) G ⊎ (IsReached types me x H r G ⊎ Gives (judge types me r G) (λ p. IsReachedAmong types me x H args p.0))
  IsReached types me x H (TDef id c m site b) G = IsAt x H (TDef id c m site b) G
  IsReached types me x H (TDefComputed id c e site b) G = IsAt x H (TDefComputed id c e site b) G ⊎ IsReached types me x H e G
  IsReached types me x H (TDeclare id c m site asks) G = IsAt x H (TDeclare id c m site asks) G
  IsReached types me x H (TDeclareComputed id c e site asks) G = IsAt x H (TDeclareComputed id c e site asks) G ⊎ IsReached types me x H e G
  IsReached types me x H (TBlock id es) G = IsAt x H (TBlock id es) G ⊎ IsReachedAmong types me x H es G

  pub IsReachedAmong : Types → (me : ℕ) → Tree → Variables → Forest → Variables → Type 0
  IsReachedAmong types me x H NoTree G = ⊥
  IsReachedAmong types me x H (Trees e es) G = IsReached types me x H e G ⊎ Gives (judge types me e G) (λ r. IsReachedAmong types me x H es r.0)
