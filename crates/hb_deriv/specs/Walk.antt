-- The walk over a body with the uses and steps of a derivation in hand.
use Rattle.std.specs.Prelude.{◌≡◌, ℕ, suc, List, [], ◌∷◌, ◌++◌, map, length, Result, Ok, Err, nat_eq, ◌&&◌, if◌then◌else◌}
use Rattle.hb_types.specs.declared.types.Ty.{Ty}
use Rattle.hb_types.specs.declared.types.Ty.TheVariants as ty
use Rattle.hb_types.specs.Types.{same_ty, is_below, join_of}
use Rattle.hb_types.specs.Variables.{Variables, get, set, join}
use Rattle.hb_tree.specs.Tree.{Tree, TNil, TTrue, TFalse, TSelf, TInt, TText, TVar, TNew, TAssign, TPrint, TToStr, TNot, TBinary, TIf, TWhile, TCall, TDef, TDefComputed}
use Rattle.hb_tree.specs.Tree.{TDeclare, TDeclareComputed, TBlock, Forest, NoTree, Trees}
use Rattle.hb_deriv.specs.declared.{raw.Used.Used, raw.Step.Step}
use Rattle.hb_deriv.specs.Judge.{Key, Typed, Verdict, object, variable_type, operands, kept, named, declaration_type, keys_of, call_type, Subject, variables_of, has_count}
use Rattle.hb_deriv.specs.Events.{same_key, has}
use Rattle.hb_deriv.specs.Derivation.{Content, Sites, key_of, table}

-- the uses taken so far and those left, the steps left and the number of those passed
pub record State : Type 0 where
  pub taken : List Used
  pub left : List Used
  pub steps : List Step
  pub passed : ℕ

-- the number of uses taken, or of steps passed, where the walk stops
pub data WalkFault : Type 0 where
  AtUses : (n : ℕ) → WalkFault
  AtStep : (n : ℕ) → WalkFault

abbrev pub Walked : Type 0 → Type 0
Walked A = Result A WalkFault

-- go on from where a part ends, up to the first fault
infixl 10 ◌>>>◌
unfoldable pub ◌>>>◌ : {A B : Type 0} → Walked A → (A → Walked B) → Walked B
(Ok x) >>> f = f x
(Err e) >>> f = Err e

-- the next use must be of this key, and is taken
abbrev pub take_next : State → Key → List Used → Walked State
take_next s k [] = Err (AtUses (length s.taken))
take_next s k (u ∷ us) =
    if same_key (key_of u) k
    then Ok (record { taken = s.taken ++ u ∷ []; left = us; steps = s.steps; passed = s.passed })
    else Err (AtUses (length s.taken))

-- a look: the key is among the uses taken, or that of the next
abbrev pub look : State → Key → Walked State
look s k = if has k (map key_of s.taken) then Ok s else take_next s k s.left

abbrev pub look_all : State → List Key → Walked State
look_all s [] = Ok s
look_all s (k ∷ ks) = look s k >>> (λ z. look_all z ks)

-- an expression is finished: the next step must name it and its type
abbrev pub pass_next : State → ℕ → Ty → List Step → Walked State
pass_next s id t [] = Err (AtStep s.passed)
pass_next s id t (p ∷ ps) =
    if nat_eq p.node.0 id && same_ty p.ty t
    then Ok (record { taken = s.taken; left = s.left; steps = ps; passed = suc s.passed })
    else Err (AtStep s.passed)

abbrev pub pass : State → ℕ → Ty → Walked State
pass s id t = pass_next s id t s.steps

-- and it must have a type
abbrev pub finish : State → ℕ → Verdict Typed → Walked (State × Typed)
finish s id (Ok r) = pass s id r.1 >>> (λ z. Ok (z, r))
finish s id (Err f) = Err (AtStep s.passed)

-- a call: its keys are looked at, and have the types of the uses taken
abbrev pub walk_call : Sites → ℕ → ℕ → Variables → Ty → List Ty → State → Walked (State × Typed)
walk_call sites id m G t args s = look_all s (keys_of t m) >>> (λ z. finish z id (call_type (table sites z.taken) id m G t args))

abbrev mutual
  pub walk : Sites → ℕ → Tree → Variables → State → Walked (State × Typed)
  walk sites self (TNil id) G s = finish s id (Ok (G, ty.Nil))
  walk sites self (TTrue id) G s = finish s id (Ok (G, ty.Bool))
  walk sites self (TFalse id) G s = finish s id (Ok (G, ty.Bool))
  walk sites self (TSelf id) G s = finish s id (Ok (G, object self))
  walk sites self (TInt id n) G s = finish s id (Ok (G, ty.Int))
  walk sites self (TText id x) G s = finish s id (Ok (G, ty.Str))
  walk sites self (TVar id x) G s = finish s id (variable_type id G (get G x))
  walk sites self (TNew id c) G s = finish s id (Ok (G, object c))
  walk sites self (TAssign id x e) G s = walk sites self e G s >>> (λ p. finish p.0 id (Ok (set p.1.0 x p.1.1, p.1.1)))
  walk sites self (TPrint id e) G s = walk sites self e G s >>> (λ p. finish p.0 id (Ok (p.1.0, ty.Nil)))
  walk sites self (TToStr id e) G s = walk sites self e G s >>> (λ p. finish p.0 id (Ok (p.1.0, ty.Str)))
  walk sites self (TNot id e) G s = walk sites self e G s >>> (λ p. finish p.0 id (Ok (p.1.0, ty.Bool)))
  walk sites self (TBinary id o a b) G s =
      walk sites self a G s >>> (λ p. walk sites self b p.1.0 p.0 >>> (λ q. finish q.0 id (operands id o q.1.0 p.1.1 q.1.1)))
  walk sites self (TIf id c a b) G s =
      walk sites self c G s >>> (λ r. walk sites self a r.1.0 r.0 >>> (λ p. walk sites self b r.1.0 p.0 >>> (λ q. finish q.0 id (Ok (join p.1.0 q.1.0, join_of p.1.1 q.1.1)))))
  walk sites self (TWhile id c b) G s =
      walk sites self c G s >>> (λ p. walk sites self b p.1.0 p.0 >>> (λ q. finish q.0 id (kept id G p.1.0 q.1.0)))
  walk sites self (TCall id r m args) G s =
      walk sites self r G s >>> (λ p. walk_args sites self args p.1.0 [] p.0 >>> (λ q. walk_call sites id m q.1.0 p.1.1 q.1.1 q.0))
  walk sites self (TDef id c m b e) G s = finish s id (Ok (G, ty.Nil))
  walk sites self (TDefComputed id c e b f) G s = walk sites self e G s >>> (λ p. finish p.0 id (named id p.1.0 p.1.1 ty.Nil))
  walk sites self (TDeclare id c m y asks) G s = finish s id (Ok (G, declaration_type asks))
  walk sites self (TDeclareComputed id c e y asks) G s = walk sites self e G s >>> (λ p. finish p.0 id (named id p.1.0 p.1.1 (declaration_type asks)))
  walk sites self (TBlock id es) G s = walk_items sites self es G ty.Nil s

  pub walk_items : Sites → ℕ → Forest → Variables → Ty → State → Walked (State × Typed)
  walk_items sites self NoTree G t s = Ok (s, (G, t))
  walk_items sites self (Trees e es) G t s = walk sites self e G s >>> (λ p. walk_items sites self es p.1.0 p.1.1 p.0)

  pub walk_args : Sites → ℕ → Forest → Variables → List Ty → State → Walked (State × (Variables × List Ty))
  walk_args sites self NoTree G ts s = Ok (s, (G, ts))
  walk_args sites self (Trees e es) G ts s = walk sites self e G s >>> (λ p. walk_args sites self es p.1.0 (ts ++ p.1.1 ∷ []) p.0)

-- at the end no step is left, the body's type is below the declared result, and no use is left
abbrev pub no_use : State → List Used → Walked State
no_use s [] = Ok s
no_use s (u ∷ us) = Err (AtUses (length s.taken))

abbrev pub at_end : Ty → State → Ty → List Step → Walked State
at_end limit s t [] = if is_below t limit then no_use s s.left else Err (AtStep s.passed)
at_end limit s t (p ∷ ps) = Err (AtStep s.passed)

abbrev pub start : Content → State
start d = record { taken = []; left = d.uses; steps = d.steps; passed = 0 }

-- the walk over a body, up to its end
abbrev pub walk_body : Sites → Subject → Content → Walked State
walk_body sites s d =
    if has_count s
    then walk sites s.self s.block (variables_of s) (start d) >>> (λ p. at_end s.declared.result p.0 p.1.1 p.0.steps)
    else Err (AtStep 0)

-- a derivation is good where its walk has no fault
pub record IsGood (sites : Sites) (s : Subject) (d : Content) : Type 0 where
  pub last : State
  pub ends : walk_body sites s d ≡ Ok last
