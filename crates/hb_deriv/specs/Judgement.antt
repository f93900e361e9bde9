-- The judgement, as a relation by cases.
use Rattle.std.specs.Prelude.{◌≡◌, ℕ, ℤ, List, [], ◌∷◌, ◌++◌, length, Some, Bool, true}
use Rattle.hb_types.specs.declared.{types.Ty.Ty, ids.ClassId.ClassId, types.MethodTy.MethodTy}
use Rattle.hb_types.specs.declared.types.Ty.TheVariants as ty
use Rattle.hb_types.specs.Types.{is_below, join_of, params_of}
use Rattle.hb_types.specs.Variables.{Variables, get, set, join, keeps}
use Rattle.hb_tree.specs.declared.node.Op.{Op}
use Rattle.hb_tree.specs.Tree.{Tree, TNil, TTrue, TFalse, TSelf, TInt, TText, TVar, TNew, TAssign, TPrint, TToStr, TNot, TBinary, TIf, TWhile, TCall, TDef, TDefComputed}
use Rattle.hb_tree.specs.Tree.{TDeclare, TDeclareComputed, TBlock, Forest, NoTree, Trees}
use Rattle.hb_deriv.specs.Judge.{Types, object, operand_limit, operator_type, declaration_type, all_below, Subject, variables_of}

mutual
  -- where self is of the class, the tree has a type and variables behind it, from the variables before it
  pub data Judged (types : Types) (self : ℕ) : Variables → Tree → Variables → Ty → Type 0 where
    JudgedNil : {G : Variables} {id : ℕ} → Judged types self G (TNil id) G ty.Nil
    JudgedTrue : {G : Variables} {id : ℕ} → Judged types self G (TTrue id) G ty.Bool
    JudgedFalse : {G : Variables} {id : ℕ} → Judged types self G (TFalse id) G ty.Bool
    JudgedSelf : {G : Variables} {id : ℕ} → Judged types self G (TSelf id) G (object self)
    JudgedInt : {G : Variables} {id : ℕ} {n : ℤ} → Judged types self G (TInt id n) G ty.Int
    JudgedText : {G : Variables} {id x : ℕ} → Judged types self G (TText id x) G ty.Str
    JudgedVar : {G : Variables} {id x : ℕ} {t : Ty} → get G x ≡ Some t → Judged types self G (TVar id x) G t
    JudgedNew : {G : Variables} {id c : ℕ} → Judged types self G (TNew id c) G (object c)
    JudgedAssign : {G G1 : Variables} {id x : ℕ} {e : Tree} {t : Ty} → Judged types self G e G1 t → Judged types self G (TAssign id x e) (set G1 x t) t
    JudgedPrint : {G G1 : Variables} {id : ℕ} {e : Tree} {t : Ty} → Judged types self G e G1 t → Judged types self G (TPrint id e) G1 ty.Nil
    JudgedToStr : {G G1 : Variables} {id : ℕ} {e : Tree} {t : Ty} → Judged types self G e G1 t → Judged types self G (TToStr id e) G1 ty.Str
    JudgedNot : {G G1 : Variables} {id : ℕ} {e : Tree} {t : Ty} → Judged types self G e G1 t → Judged types self G (TNot id e) G1 ty.Bool
    JudgedBinary : {G G1 G2 : Variables} {id : ℕ} {o : Op} {a b : Tree} {s t : Ty} → Judged types self G a G1 s → Judged types self G1 b G2 t → is_below s (operand_limit o) ≡ true
        → is_below t (operand_limit o) ≡ true → Judged types self G (TBinary id o a b) G2 (operator_type o)
    JudgedIf : {G G1 Ga Gb : Variables} {id : ℕ} {c a b : Tree} {r s t : Ty} → Judged types self G c G1 r → Judged types self G1 a Ga s → Judged types self G1 b Gb t
        → Judged types self G (TIf id c a b) (join Ga Gb) (join_of s t)
    -- the variables before the condition are those that stay below their types
    JudgedWhile : {G G1 G2 : Variables} {id : ℕ} {c b : Tree} {r s : Ty} → Judged types self G c G1 r → Judged types self G1 b G2 s → keeps G G2 ≡ true → Judged types self G (TWhile id c b) G1 ty.Nil
    JudgedCall : {G G1 G2 : Variables} {id m : ℕ} {c : ClassId} {r : Tree} {args : Forest} {ts : List Ty} {s : MethodTy} → Judged types self G r G1 (ty.Class c)
        → JudgedArgs types self G1 args [] G2 ts → types (c.0, m) ≡ Some s → length ts ≡ s.count → all_below ts (params_of s) ≡ true → Judged types self G (TCall id r m args) G2 s.result
    -- the block of an inner definition is not judged
    JudgedDef : {G : Variables} {id c m s : ℕ} {b : Tree} → Judged types self G (TDef id c m s b) G ty.Nil
    JudgedDefComputed : {G G1 : Variables} {id c s : ℕ} {e b : Tree} {t : Ty} → Judged types self G e G1 t → is_below t ty.Str ≡ true → Judged types self G (TDefComputed id c e s b) G1 ty.Nil
    JudgedDeclare : {G : Variables} {id c m s : ℕ} {asks : Bool} → Judged types self G (TDeclare id c m s asks) G (declaration_type asks)
    JudgedDeclareComputed : {G G1 : Variables} {id c s : ℕ} {asks : Bool} {e : Tree} {t : Ty} → Judged types self G e G1 t → is_below t ty.Str ≡ true
        → Judged types self G (TDeclareComputed id c e s asks) G1 (declaration_type asks)
    JudgedBlock : {G G1 : Variables} {id : ℕ} {es : Forest} {t : Ty} → JudgedItems types self G es ty.Nil G1 t → Judged types self G (TBlock id es) G1 t

  -- the items of a block, behind one of a type
  pub data JudgedItems (types : Types) (self : ℕ) : Variables → Forest → Ty → Variables → Ty → Type 0 where
    JudgedNoItem : {G : Variables} {t : Ty} → JudgedItems types self G NoTree t G t
    JudgedItem : {G G1 G2 : Variables} {e : Tree} {es : Forest} {r s t : Ty} → Judged types self G e G1 s → JudgedItems types self G1 es s G2 t → JudgedItems types self G (Trees e es) r G2 t

  -- the arguments of a call, behind those of these types
  pub data JudgedArgs (types : Types) (self : ℕ) : Variables → Forest → List Ty → Variables → List Ty → Type 0 where
    JudgedNoArg : {G : Variables} {ts : List Ty} → JudgedArgs types self G NoTree ts G ts
    JudgedArg : {G G1 G2 : Variables} {e : Tree} {es : Forest} {s : Ty} {ss ts : List Ty} → Judged types self G e G1 s → JudgedArgs types self G1 es (ss ++ s ∷ []) G2 ts → JudgedArgs types self G (Trees e es) ss G2 ts

-- the body has as many parameters as its type, has a type itself, and this is below the declared result
pub record IsJudged (types : Types) (s : Subject) : Type 0 where
  pub count : length s.params ≡ s.declared.count
  pub behind : Variables
  pub ty : Ty
  pub judged : Judged types s.self (variables_of s) s.block behind ty
  pub below : is_below ty s.declared.result ≡ true
