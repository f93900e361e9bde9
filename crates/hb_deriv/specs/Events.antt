-- What the judgement does, in order: the keys at which it looks, and the expressions that it finishes.
use Rattle.std.specs.Prelude.{◌≡◌, ℕ, List, [], ◌∷◌, ◌++◌, map, Ok, Err, Bool, false, nat_eq, ◌&&◌, ◌||◌, if◌then◌else◌}
use Rattle.hb_types.specs.{Types.join_of, Variables.Variables, Variables.get}
use Rattle.hb_types.specs.declared.types.Ty.{Ty}
use Rattle.hb_types.specs.declared.types.Ty.TheVariants as ty
use Rattle.hb_tree.specs.Tree.{Tree, TNil, TTrue, TFalse, TSelf, TInt, TText, TVar, TNew, TAssign, TPrint, TToStr, TNot, TBinary, TIf, TWhile, TCall, TDef, TDefComputed}
use Rattle.hb_tree.specs.Tree.{TDeclare, TDeclareComputed, TBlock, Forest, NoTree, Trees}
use Rattle.hb_deriv.specs.Judge.{Key, Types, Typed, Verdict, object, variable_type, operands, kept, named, declaration_type, keys_of, call_type, judge, judge_args, Subject, variables_of, has_count}

pub data Event : Type 0 where
  -- a call looks at a key
  Look : (id : ℕ) (k : Key) → Event
  -- an expression is finished, and has a type
  Done : (id : ℕ) (t : Ty) → Event

abbrev pub Events : Type 0
Events = List Event

-- nothing is done behind a fault
unfoldable pub behind : {A : Type 0} → Verdict A → (A → Events) → Events
behind (Ok x) f = f x
behind (Err e) f = []

-- an expression is finished where it has a type
abbrev pub done : ℕ → Verdict Typed → Events
done id v = behind v (λ r. Done id r.1 ∷ [])

abbrev pub look_at : ℕ → List Key → Events
look_at id ks = map (Look id) ks

-- the parts come first; a block is no expression, and is never finished
abbrev mutual
  pub events : Types → ℕ → Tree → Variables → Events
  events types self (TNil id) G = Done id ty.Nil ∷ []
  events types self (TTrue id) G = Done id ty.Bool ∷ []
  events types self (TFalse id) G = Done id ty.Bool ∷ []
  events types self (TSelf id) G = Done id (object self) ∷ []
  events types self (TInt id n) G = Done id ty.Int ∷ []
  events types self (TText id x) G = Done id ty.Str ∷ []
  events types self (TVar id x) G = done id (variable_type id G (get G x))
  events types self (TNew id c) G = Done id (object c) ∷ []
  events types self (TAssign id x e) G = events types self e G ++ behind (judge types self e G) (λ r. Done id r.1 ∷ [])
  events types self (TPrint id e) G = events types self e G ++ behind (judge types self e G) (λ r. Done id ty.Nil ∷ [])
  events types self (TToStr id e) G = events types self e G ++ behind (judge types self e G) (λ r. Done id ty.Str ∷ [])
  events types self (TNot id e) G = events types self e G ++ behind (judge types self e G) (λ r. Done id ty.Bool ∷ [])
  events types self (TBinary id o a b) G =
      events types self a G ++ behind (judge types self a G) (λ r. events types self b r.0 ++ behind (judge types self b r.0) (λ q. done id (operands id o q.0 r.1 q.1)))
  events types self (TIf id c a b) G =
      events types self c G ++ behind (judge types self c G)
      (λ r. events types self a r.0 ++ behind (judge types self a r.0) (λ p. events types self b r.0 ++ behind (judge types self b r.0) (λ q. Done id (join_of p.1 q.1) ∷ [])))
  events types self (TWhile id c b) G =
      events types self c G ++ behind (judge types self c G) (λ r. events types self b r.0 ++ behind (judge types self b r.0) (λ q. done id (kept id G r.0 q.0)))
  events types self (TCall id r m args) G =
      events types self r G ++ behind (judge types self r G)
      (λ p. events_args types self args p.0 [] ++ behind (judge_args types self args p.0 []) (λ q. look_at id (keys_of p.1 m) ++ done id (call_type types id m q.0 p.1 q.1)))
  events types self (TDef id c m s b) G = Done id ty.Nil ∷ []
  events types self (TDefComputed id c e s b) G = events types self e G ++ behind (judge types self e G) (λ r. done id (named id r.0 r.1 ty.Nil))
  events types self (TDeclare id c m s asks) G = Done id (declaration_type asks) ∷ []
  events types self (TDeclareComputed id c e s asks) G = events types self e G ++ behind (judge types self e G) (λ r. done id (named id r.0 r.1 (declaration_type asks)))
  events types self (TBlock id es) G = events_items types self es G ty.Nil

  pub events_items : Types → ℕ → Forest → Variables → Ty → Events
  events_items types self NoTree G t = []
  events_items types self (Trees e es) G t = events types self e G ++ behind (judge types self e G) (λ r. events_items types self es r.0 r.1)

  pub events_args : Types → ℕ → Forest → Variables → List Ty → Events
  events_args types self NoTree G ts = []
  events_args types self (Trees e es) G ts = events types self e G ++ behind (judge types self e G) (λ r. events_args types self es r.0 (ts ++ r.1 ∷ []))

-- a body with another number of parameters than its type fails before all else
abbrev pub events_body : Types → Subject → Events
events_body types s = if has_count s then events types s.self s.block (variables_of s) else []

abbrev pub same_key : Key → Key → Bool
same_key j k = nat_eq j.0 k.0 && nat_eq j.1 k.1

-- the key is one of these
abbrev pub has : Key → List Key → Bool
has k [] = false
has k (j ∷ js) = same_key j k || has k js

-- the keys of the looks in their order, without repeats and without those seen before
abbrev pub fresh : List Key → Events → List Key
fresh seen [] = []
fresh seen (Look id k ∷ es) = if has k seen then fresh seen es else k ∷ fresh (seen ++ k ∷ []) es
fresh seen (Done id t ∷ es) = fresh seen es

-- the keys at which the judgement of a body looks, in order, without repeats, up to its fault
abbrev pub looks : Types → Subject → List Key
looks types s = fresh [] (events_body types s)

-- two tables have the same types at these keys
abbrev pub SameAt : Types → Types → List Key → Type 0
SameAt types others [] = Unit {0}
SameAt types others (k ∷ ks) = (types k ≡ others k) × SameAt types others ks

-- and where these events look
abbrev pub SameIn : Types → Types → Events → Type 0
SameIn types others [] = Unit {0}
SameIn types others (Look id k ∷ es) = (types k ≡ others k) × SameIn types others es
SameIn types others (Done id t ∷ es) = SameIn types others es
