-- The first fault, as a relation by cases: the first part that fails, where those before it are judged.
use Rattle.std.specs.Prelude.{◌≡◌, ℕ, List, [], ◌∷◌, ◌++◌, length, Some, None, Bool, false, ◌&&◌}
use Rattle.hb_types.specs.declared.{types.Ty.Ty, ids.ClassId.ClassId, types.MethodTy.MethodTy}
use Rattle.hb_types.specs.declared.types.Ty.TheVariants as ty
use Rattle.hb_types.specs.{Types.is_below, Types.params_of, Variables.Variables, Variables.get, Variables.keeps}
use Rattle.hb_tree.specs.declared.node.Op.{Op}
use Rattle.hb_tree.specs.Tree.{Tree, TVar, TAssign, TPrint, TToStr, TNot, TBinary, TIf, TWhile, TCall, TDefComputed, TDeclareComputed, TBlock, Forest, Trees, id_of}
use Rattle.hb_deriv.specs.declared.ill.Ill.{Ill}
use Rattle.hb_deriv.specs.declared.ill.Reason.TheVariants as reason
use Rattle.hb_deriv.specs.Judge.{Types, ill_at, operand_limit, all_below, Subject, variables_of}
use Rattle.hb_deriv.specs.Judgement.{Judged, JudgedArgs}

-- a type that is no class
abbrev pub IsNoClass : Ty → Type 0
IsNoClass ty.Nil = Unit {0}
IsNoClass ty.Bool = Unit {0}
IsNoClass ty.Int = Unit {0}
IsNoClass ty.Str = Unit {0}
IsNoClass ty.Any = Unit {0}
IsNoClass (ty.Class c) = ⊥

mutual
  -- where self is of the class, the tree fails so, from the variables before it
  pub data Fails (types : Types) (self : ℕ) : Variables → Tree → Ill → Type 0 where
    FailsVar : {G : Variables} {id x : ℕ} → get G x ≡ None → Fails types self G (TVar id x) (ill_at id reason.Unbound)
    FailsAssign : {G : Variables} {id x : ℕ} {e : Tree} {f : Ill} → Fails types self G e f → Fails types self G (TAssign id x e) f
    FailsPrint : {G : Variables} {id : ℕ} {e : Tree} {f : Ill} → Fails types self G e f → Fails types self G (TPrint id e) f
    FailsToStr : {G : Variables} {id : ℕ} {e : Tree} {f : Ill} → Fails types self G e f → Fails types self G (TToStr id e) f
    FailsNot : {G : Variables} {id : ℕ} {e : Tree} {f : Ill} → Fails types self G e f → Fails types self G (TNot id e) f
    FailsLeft : {G : Variables} {id : ℕ} {o : Op} {a b : Tree} {f : Ill} → Fails types self G a f → Fails types self G (TBinary id o a b) f
    FailsRight : {G G1 : Variables} {id : ℕ} {o : Op} {a b : Tree} {s : Ty} {f : Ill} → Judged types self G a G1 s → Fails types self G1 b f → Fails types self G (TBinary id o a b) f
    FailsOperand : {G G1 G2 : Variables} {id : ℕ} {o : Op} {a b : Tree} {s t : Ty} → Judged types self G a G1 s → Judged types self G1 b G2 t
        → (is_below s (operand_limit o) && is_below t (operand_limit o)) ≡ false → Fails types self G (TBinary id o a b) (ill_at id reason.Operand)
    FailsTest : {G : Variables} {id : ℕ} {c a b : Tree} {f : Ill} → Fails types self G c f → Fails types self G (TIf id c a b) f
    FailsFirst : {G G1 : Variables} {id : ℕ} {c a b : Tree} {r : Ty} {f : Ill} → Judged types self G c G1 r → Fails types self G1 a f → Fails types self G (TIf id c a b) f
    FailsSecond : {G G1 Ga : Variables} {id : ℕ} {c a b : Tree} {r s : Ty} {f : Ill} → Judged types self G c G1 r → Judged types self G1 a Ga s → Fails types self G1 b f → Fails types self G (TIf id c a b) f
    FailsCondition : {G : Variables} {id : ℕ} {c b : Tree} {f : Ill} → Fails types self G c f → Fails types self G (TWhile id c b) f
    FailsTurn : {G G1 : Variables} {id : ℕ} {c b : Tree} {r : Ty} {f : Ill} → Judged types self G c G1 r → Fails types self G1 b f → Fails types self G (TWhile id c b) f
    FailsLoop : {G G1 G2 : Variables} {id : ℕ} {c b : Tree} {r s : Ty} → Judged types self G c G1 r → Judged types self G1 b G2 s → keeps G G2 ≡ false → Fails types self G (TWhile id c b) (ill_at id reason.Loop)
    FailsReceiver : {G : Variables} {id m : ℕ} {r : Tree} {args : Forest} {f : Ill} → Fails types self G r f → Fails types self G (TCall id r m args) f
    FailsArgs : {G G1 : Variables} {id m : ℕ} {r : Tree} {args : Forest} {p : Ty} {f : Ill} → Judged types self G r G1 p → ArgsFail types self G1 args [] f → Fails types self G (TCall id r m args) f
    FailsNoClass : {G G1 G2 : Variables} {id m : ℕ} {r : Tree} {args : Forest} {p : Ty} {ts : List Ty} → Judged types self G r G1 p → JudgedArgs types self G1 args [] G2 ts → IsNoClass p
        → Fails types self G (TCall id r m args) (ill_at id reason.Receiver)
    FailsNoType : {G G1 G2 : Variables} {id m : ℕ} {c : ClassId} {r : Tree} {args : Forest} {ts : List Ty} → Judged types self G r G1 (ty.Class c) → JudgedArgs types self G1 args [] G2 ts
        → types (c.0, m) ≡ None → Fails types self G (TCall id r m args) (ill_at id reason.NoType)
    FailsCount : {G G1 G2 : Variables} {id m : ℕ} {c : ClassId} {r : Tree} {args : Forest} {ts : List Ty} {s : MethodTy} → Judged types self G r G1 (ty.Class c)
        → JudgedArgs types self G1 args [] G2 ts → types (c.0, m) ≡ Some s → (length ts ≡ s.count → ⊥) → Fails types self G (TCall id r m args) (ill_at id reason.Count)
    FailsArgument : {G G1 G2 : Variables} {id m : ℕ} {c : ClassId} {r : Tree} {args : Forest} {ts : List Ty} {s : MethodTy} → Judged types self G r G1 (ty.Class c)
        → JudgedArgs types self G1 args [] G2 ts → types (c.0, m) ≡ Some s → length ts ≡ s.count → all_below ts (params_of s) ≡ false
        → Fails types self G (TCall id r m args) (ill_at id reason.Argument)
    FailsDefName : {G : Variables} {id c s : ℕ} {e b : Tree} {f : Ill} → Fails types self G e f → Fails types self G (TDefComputed id c e s b) f
    FailsDefText : {G G1 : Variables} {id c s : ℕ} {e b : Tree} {t : Ty} → Judged types self G e G1 t → is_below t ty.Str ≡ false → Fails types self G (TDefComputed id c e s b) (ill_at id reason.Operand)
    FailsDeclareName : {G : Variables} {id c s : ℕ} {asks : Bool} {e : Tree} {f : Ill} → Fails types self G e f → Fails types self G (TDeclareComputed id c e s asks) f
    FailsDeclareText : {G G1 : Variables} {id c s : ℕ} {asks : Bool} {e : Tree} {t : Ty} → Judged types self G e G1 t → is_below t ty.Str ≡ false
        → Fails types self G (TDeclareComputed id c e s asks) (ill_at id reason.Operand)
    FailsBlock : {G : Variables} {id : ℕ} {es : Forest} {f : Ill} → ItemsFail types self G es ty.Nil f → Fails types self G (TBlock id es) f

  pub data ItemsFail (types : Types) (self : ℕ) : Variables → Forest → Ty → Ill → Type 0 where
    FailsItem : {G : Variables} {e : Tree} {es : Forest} {r : Ty} {f : Ill} → Fails types self G e f → ItemsFail types self G (Trees e es) r f
    FailsLaterItem : {G G1 : Variables} {e : Tree} {es : Forest} {r s : Ty} {f : Ill} → Judged types self G e G1 s → ItemsFail types self G1 es s f → ItemsFail types self G (Trees e es) r f

  pub data ArgsFail (types : Types) (self : ℕ) : Variables → Forest → List Ty → Ill → Type 0 where
    FailsArg : {G : Variables} {e : Tree} {es : Forest} {ss : List Ty} {f : Ill} → Fails types self G e f → ArgsFail types self G (Trees e es) ss f
    FailsLaterArg : {G G1 : Variables} {e : Tree} {es : Forest} {s : Ty} {ss : List Ty} {f : Ill} → Judged types self G e G1 s → ArgsFail types self G1 es (ss ++ s ∷ []) f → ArgsFail types self G (Trees e es) ss f

-- a body fails first by its count of parameters, then in its block, and last by its type
pub data BodyFails (types : Types) (s : Subject) : Ill → Type 0 where
  BodyCount : (length s.params ≡ s.declared.count → ⊥) → BodyFails types s (ill_at (id_of s.block) reason.Count)
  BodyPart : {f : Ill} → length s.params ≡ s.declared.count → Fails types s.self (variables_of s) s.block f → BodyFails types s f
  BodyResult : {G : Variables} {t : Ty} → length s.params ≡ s.declared.count → Judged types s.self (variables_of s) s.block G t → is_below t s.declared.result ≡ false
      → BodyFails types s (ill_at (id_of s.block) reason.Result)
