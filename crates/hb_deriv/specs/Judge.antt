-- The judgement, computed: the type of an expression and the variables behind it, or the first fault.
use Rattle.std.specs.Prelude.{ℕ, List, [], ◌∷◌, ◌++◌, length, Option, Some, None, Result, Ok, Err, Bool, true, false, nat_eq, if◌then◌else◌, ◌&&◌}
use Rattle.hb_types.specs.declared.{types.Ty.Ty, types.MethodTy.MethodTy}
use Rattle.hb_types.specs.declared.types.Ty.TheVariants as ty
use Rattle.hb_types.specs.Types.{is_below, join_of, params_of}
use Rattle.hb_types.specs.Variables.{Variables, variable, get, set, join, keeps}
use Rattle.hb_tree.specs.declared.node.Op.{Op}
use Rattle.hb_tree.specs.declared.node.Op.TheVariants as op
use Rattle.hb_tree.specs.Tree.{Tree, TNil, TTrue, TFalse, TSelf, TInt, TText, TVar, TNew, TAssign, TPrint, TToStr, TNot, TBinary, TIf, TWhile, TCall, TDef, TDefComputed}
use Rattle.hb_tree.specs.Tree.{TDeclare, TDeclareComputed, TBlock, Forest, NoTree, Trees, id_of}
use Rattle.hb_deriv.specs.declared.{ill.Ill.Ill, ill.Reason.Reason}
use Rattle.hb_deriv.specs.declared.ill.Reason.TheVariants as reason

-- a class, and the name of a method
abbrev pub Key : Type 0
Key = ℕ × ℕ

-- the types that methods have
abbrev pub Types : Type 0
Types = Key → Option MethodTy

-- the variables behind an expression, and its type
abbrev pub Typed : Type 0
Typed = Variables × Ty

abbrev pub Verdict : Type 0 → Type 0
Verdict A = Result A Ill

-- go on with what a part gives, up to the first fault
infixl 10 ◌>>=◌
unfoldable pub ◌>>=◌ : {A B : Type 0} → Verdict A → (A → Verdict B) → Verdict B
(Ok x) >>= f = f x
(Err e) >>= f = Err e

-- a reason at a node
abbrev pub ill_at : ℕ → Reason → Ill
ill_at id r = record { node = record { 0 = id }; reason = r }

abbrev pub fault : {A : Type 0} → ℕ → Reason → Verdict A
fault id r = Err (ill_at id r)

-- an object of a class
abbrev pub object : ℕ → Ty
object c = ty.Class (record { 0 = c })

abbrev pub variable_type : ℕ → Variables → Option Ty → Verdict Typed
variable_type id G None = fault id reason.Unbound
variable_type id G (Some t) = Ok (G, t)

-- what an operator asks of both operands, and what it gives
abbrev pub operand_limit : Op → Ty
operand_limit op.Add = ty.Int
operand_limit op.Sub = ty.Int
operand_limit op.Mul = ty.Int
operand_limit op.Less = ty.Int
operand_limit op.Concat = ty.Str
operand_limit op.Equal = ty.Any

abbrev pub operator_type : Op → Ty
operator_type op.Add = ty.Int
operator_type op.Sub = ty.Int
operator_type op.Mul = ty.Int
operator_type op.Less = ty.Bool
operator_type op.Concat = ty.Str
operator_type op.Equal = ty.Bool

abbrev pub operands : ℕ → Op → Variables → Ty → Ty → Verdict Typed
operands id o G s t =
    if is_below s (operand_limit o) && is_below t (operand_limit o) then Ok (G, operator_type o) else fault id reason.Operand

-- the turn of a loop leaves each variable from before it below its type
abbrev pub kept : ℕ → Variables → Variables → Variables → Verdict Typed
kept id G behind_test behind_turn = if keeps G behind_turn then Ok (behind_test, ty.Nil) else fault id reason.Loop

-- a computed name is a text
abbrev pub named : ℕ → Variables → Ty → Ty → Verdict Typed
named id G t result = if is_below t ty.Str then Ok (G, result) else fault id reason.Operand

-- `type?` tells whether it changed the type
abbrev pub declaration_type : Bool → Ty
declaration_type true = ty.Bool
declaration_type false = ty.Nil

-- the keys at which a call looks, by the type of its receiver
abbrev pub keys_of : Ty → ℕ → List Key
keys_of ty.Nil m = []
keys_of ty.Bool m = []
keys_of ty.Int m = []
keys_of ty.Str m = []
keys_of ty.Any m = []
keys_of (ty.Class c) m = (c.0, m) ∷ []

-- each argument's type is below its parameter's
abbrev pub all_below : List Ty → List Ty → Bool
all_below [] params = true
all_below (t ∷ ts) [] = false
all_below (t ∷ ts) (p ∷ params) = is_below t p && all_below ts params

-- a call of a method of this type
abbrev pub called : ℕ → Variables → List Ty → Option MethodTy → Verdict Typed
called id G args None = fault id reason.NoType
called id G args (Some m) =
    if nat_eq (length args) m.count
    then (if all_below args (params_of m) then Ok (G, m.result) else fault id reason.Argument)
    else fault id reason.Count

-- a call, by the type of its receiver
abbrev pub call_type : Types → ℕ → ℕ → Variables → Ty → List Ty → Verdict Typed
call_type types id m G ty.Nil args = fault id reason.Receiver
call_type types id m G ty.Bool args = fault id reason.Receiver
call_type types id m G ty.Int args = fault id reason.Receiver
call_type types id m G ty.Str args = fault id reason.Receiver
call_type types id m G ty.Any args = fault id reason.Receiver
call_type types id m G (ty.Class c) args = called id G args (types (c.0, m))

-- the judgement of an expression or a block, where self is of a class
abbrev mutual
  pub judge : Types → ℕ → Tree → Variables → Verdict Typed
  judge types self (TNil id) G = Ok (G, ty.Nil)
  judge types self (TTrue id) G = Ok (G, ty.Bool)
  judge types self (TFalse id) G = Ok (G, ty.Bool)
  judge types self (TSelf id) G = Ok (G, object self)
  judge types self (TInt id n) G = Ok (G, ty.Int)
  judge types self (TText id x) G = Ok (G, ty.Str)
  judge types self (TVar id x) G = variable_type id G (get G x)
  judge types self (TNew id c) G = Ok (G, object c)
  judge types self (TAssign id x e) G = judge types self e G >>= (λ r. Ok (set r.0 x r.1, r.1))
  judge types self (TPrint id e) G = judge types self e G >>= (λ r. Ok (r.0, ty.Nil))
  judge types self (TToStr id e) G = judge types self e G >>= (λ r. Ok (r.0, ty.Str))
  judge types self (TNot id e) G = judge types self e G >>= (λ r. Ok (r.0, ty.Bool))
  judge types self (TBinary id o a b) G =
      judge types self a G >>= (λ r. judge types self b r.0 >>= (λ q. operands id o q.0 r.1 q.1))
  judge types self (TIf id c a b) G =
      judge types self c G >>= (λ r. judge types self a r.0 >>= (λ p. judge types self b r.0 >>= (λ q. Ok (join p.0 q.0, join_of p.1 q.1))))
  judge types self (TWhile id c b) G =
      judge types self c G >>= (λ r. judge types self b r.0 >>= (λ q. kept id G r.0 q.0))
  judge types self (TCall id r m args) G =
      judge types self r G >>= (λ p. judge_args types self args p.0 [] >>= (λ q. call_type types id m q.0 p.1 q.1))
  judge types self (TDef id c m s b) G = Ok (G, ty.Nil)
  judge types self (TDefComputed id c e s b) G = judge types self e G >>= (λ r. named id r.0 r.1 ty.Nil)
  judge types self (TDeclare id c m s asks) G = Ok (G, declaration_type asks)
  judge types self (TDeclareComputed id c e s asks) G =
      judge types self e G >>= (λ r. named id r.0 r.1 (declaration_type asks))
  judge types self (TBlock id es) G = judge_items types self es G ty.Nil

  -- the items of a block, behind one of this type
  pub judge_items : Types → ℕ → Forest → Variables → Ty → Verdict Typed
  judge_items types self NoTree G t = Ok (G, t)
  judge_items types self (Trees e es) G t = judge types self e G >>= (λ r. judge_items types self es r.0 r.1)

  -- the arguments of a call, behind those of these types
  pub judge_args : Types → ℕ → Forest → Variables → List Ty → Verdict (Variables × List Ty)
  judge_args types self NoTree G ts = Ok (G, ts)
  judge_args types self (Trees e es) G ts = judge types self e G >>= (λ r. judge_args types self es r.0 (ts ++ r.1 ∷ []))

-- a body to be judged: the class of self, the parameters, the block, and the type that is declared of the method
pub record Subject : Type 0 where
  pub self : ℕ
  pub params : List ℕ
  pub block : Tree
  pub declared : MethodTy

abbrev pub parameters : List ℕ → List Ty → Variables
parameters [] ts = []
parameters (x ∷ xs) [] = []
parameters (x ∷ xs) (t ∷ ts) = variable x t ∷ parameters xs ts

-- the parameters at their declared types
abbrev pub variables_of : Subject → Variables
variables_of s = parameters s.params (params_of s.declared)

-- as many parameters as the declared type has
abbrev pub has_count : Subject → Bool
has_count s = nat_eq (length s.params) s.declared.count

-- at its end a body gives what is declared
abbrev pub ended : Subject → Typed → Verdict Typed
ended s r = if is_below r.1 s.declared.result then Ok r else fault (id_of s.block) reason.Result

abbrev pub judge_body : Types → Subject → Verdict Typed
judge_body types s =
    if has_count s then judge types s.self s.block (variables_of s) >>= ended s else fault (id_of s.block) reason.Count
