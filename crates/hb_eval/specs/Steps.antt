-- What a step of the machine comes to.
use Rattle.std.specs.Prelude.{◌≡◌, ℕ, suc, Bool, true, false, ◌+◌, ◌<◌, ◌≤◌, ◌⊎◌, List, ◌∷◌, length, take, reverse, Option, Some, None, IfSome}
use Rattle.std.specs.List.{AllByRecursion}
use Rattle.hb_tree.specs.Table.{Table}
use Rattle.hb_tree.specs.TreeAt.{tree_at, IsExprAt, IsBlockAt}
use Rattle.hb_tree.specs.Tree.{Tree, TCall, TDef, TDefComputed, TDeclare, TDeclareComputed, Forest, NoTree, Trees}
use Rattle.hb_names.specs.Names.{Name}
use Rattle.hb_tables.specs.declared.entry.Act.{Act}
use Rattle.hb_eval.specs.declared.{cont.Cont.Cont, state.State.State, state.Hand.Hand, state.Move.Move}
use Rattle.hb_eval.specs.declared.cont.Cont.TheVariants as cont
use Rattle.hb_eval.specs.declared.state.Hand.TheVariants as hands
use Rattle.hb_eval.specs.{Values.IsKnown, State.St, State.Answer, Meaning.Calls, Fuel.KeepsFuel}
use Rattle.hb_eval.specs.Machine.{World, Frames, need, room, resume, stands, st_of}

-- this holds for each list of names, and for calls that give no fuel back
abbrev pub InEach : Table → (World → Type 0) → Type 0
InEach t P = (names : List Name) (calls : ℕ → Calls) → ((r : ℕ) → KeepsFuel (calls r)) → P (record { program = t; names = names; calls = calls })

abbrev pub onto : Option Cont → List Cont → List Cont
onto None ks = ks
onto (Some k) ks = k ∷ ks

abbrev pub need_of : Option Cont → ℕ
need_of None = 0
need_of (Some k) = need k

abbrev pub IsCall : Tree → Type 0
IsCall (TCall id r m args) = Unit {0}
IsCall _ = ⊥

abbrev pub IsComputed : Tree → Type 0
IsComputed (TDefComputed id c e site b) = Unit {0}
IsComputed (TDeclareComputed id c e site asks) = Unit {0}
IsComputed _ = ⊥

-- it is a `def` or a `type`
abbrev pub IsOfMethod : Tree → Type 0
IsOfMethod (TDef id c m site b) = Unit {0}
IsOfMethod (TDeclare id c m site asks) = Unit {0}
IsOfMethod e = IsComputed e

abbrev pub forest_size : Forest → ℕ
forest_size NoTree = 0
forest_size (Trees e es) = suc (forest_size es)

abbrev pub arguments_in : Tree → ℕ
arguments_in (TCall id r m args) = forest_size args
arguments_in _ = 0

-- the nodes of what is left to do are expressions and blocks of the program
abbrev pub IsFine : Table → Cont → Type 0
IsFine t (cont.Left id o b) = IsExprAt t b.0
IsFine t (cont.Choose x y) = IsBlockAt t x.0 × IsBlockAt t y.0
IsFine t (cont.Test c b) = IsExprAt t c.0 × IsBlockAt t b.0
IsFine t (cont.Turn c b) = IsExprAt t c.0 × IsBlockAt t b.0
IsFine t (cont.Items block at) = IsBlockAt t block.0
IsFine t (cont.Receiver id) = IsExprAt t id.0 × IsCall (tree_at t id.0)
IsFine t (cont.Arguments id n) = IsExprAt t id.0 × IsCall (tree_at t id.0) × (n < arguments_in (tree_at t id.0)) × (n < 4)
IsFine t (cont.Method id) = IsExprAt t id.0 × IsOfMethod (tree_at t id.0)
IsFine t _ = Unit {0}

abbrev pub IsFinePush : Table → Option Cont → Type 0
IsFinePush t None = Unit {0}
IsFinePush t (Some k) = IsFine t k

-- what begins next is an expression
abbrev pub IsFineStep : Table → Hand → State → Type 0
IsFineStep t hands.Begins x = IsExprAt t x.at.0
IsFineStep t _ x = Unit {0}

-- with a value or a stop, nothing is to be done first
abbrev pub IsLight : Hand → Option Cont → Type 0
IsLight hands.Begins k = Unit {0}
IsLight _ k = k ≡ None

-- how many turns it may take before an expression begins
abbrev pub weigh_one : Cont → ℕ
weigh_one (cont.Test c b) = 2
weigh_one (cont.Receiver id) = 2
weigh_one (cont.Arguments id n) = 2
weigh_one _ = 1

abbrev pub weigh_push : Option Cont → ℕ
weigh_push None = 0
weigh_push (Some k) = weigh_one k

-- it is neither part of a call nor the end of a frame
abbrev pub IsPlain : Option Cont → Type 0
IsPlain (Some (cont.Receiver id)) = ⊥
IsPlain (Some (cont.Arguments id n)) = ⊥
IsPlain (Some cont.Frame) = ⊥
IsPlain _ = Unit {0}

-- it is not the end of a frame
abbrev pub HasNoFrame : Option Cont → Type 0
HasNoFrame (Some cont.Frame) = ⊥
HasNoFrame _ = Unit {0}

-- each expression that began took a unit of fuel
abbrev pub TakesFuel : (old new : State) → Type 0
TakesFuel old new = new.begun + new.fuel ≡ old.begun + old.fuel

-- fuel was taken, or the script stops where there was none
abbrev pub IsFed : Hand → (old new : State) → Type 0
IsFed hands.Stops old new = TakesFuel old new ⊎ ((old.fuel ≡ 0) × (new.fuel ≡ 0))
IsFed _ old new = TakesFuel old new

-- one expression began; or some did, where that is allowed
abbrev pub HasCounted : (far : Bool) → (old new : State) → Type 0
HasCounted true old new = old.begun < new.begun
HasCounted false old new = new.begun ≡ old.begun + 1

-- no call was made
pub record SameCalls (old new : State) : Type 0 where
  pub made : new.made ≡ old.made
  pub decided : new.decided ≡ old.decided
  pub own : new.own ≡ old.own
  pub fresh : new.fresh ≡ old.fresh

-- nothing has begun, and no call was made
pub record Still (old new : State) : Type 0 where
  pub begun : new.begun ≡ old.begun
  pub fuel : new.fuel ≡ old.fuel
  pub calls : SameCalls old new

-- nothing has begun, no call was made, and the same checks are kept
pub record Steady (old new : State) : Type 0 where
  pub begun : new.begun ≡ old.begun
  pub fuel : new.fuel ≡ old.fuel
  pub calls : SameCalls old new
  pub cache : new.cache ≡ old.cache

-- the classes of all objects in hand are classes of the program
pub record AreKnown (t : Table) (x : State) : Type 0 where
  pub acc : IsKnown t x.acc
  pub operands : AllByRecursion (IsKnown t) x.operands.items
  pub vars : AllByRecursion (λ b. IsKnown t b.1) x.vars.items
  pub class : IfSome x.class (λ c. c.0 < length t.classes)

-- The move is fine, the operands have what it needs where they had what was to be done, and the variables below the frame's stay.
pub record Keeps (t : Table) (front : Option Cont) (old new : State) (move : Move) : Type 0 where
  pub under : IsFinePush t move.under
  pub push : IsFinePush t move.push
  pub step : IsFineStep t move.hand new
  pub light : IsLight move.hand move.push
  pub operands : length new.operands.items + need_of front ≡ length old.operands.items + need_of move.under + need_of move.push
  pub base : new.base ≡ old.base
  pub below : take new.base new.vars.items ≡ take old.base old.vars.items
  pub size : length old.vars.items ≤ length new.vars.items

-- This state goes on to that move and that state, and reads nothing.
pub record Moves (front : Option Cont) (before : Hand) (old new : State) (move : Move) (w : World) : Type 0 where
  pub same : (ks : List Cont) (fs : Frames) (read : List (ℕ × Act)) (journal : List Act)
      → stands w (onto front ks) fs before old read journal ≡ stands w (onto move.push (onto move.under ks)) fs move.hand new read journal
  pub keeps : Keeps w.program front old new move

-- The same behind what has no value yet.
pub record Starts (before : World → ℕ → St → Answer) (old new : State) (move : Move) (w : World) : Type 0 where
  pub same : (ks : List Cont) (fs : Frames) (read : List (ℕ × Act)) (journal : List Act)
      → resume w ks (reverse old.operands.items) fs (before w (room fs) (st_of old read journal)) ≡ stands w (onto move.push (onto move.under ks)) fs move.hand new read journal
  pub keeps : Keeps w.program None old new move

-- The move was taken: what it leaves to do stands on what was there.
pub record Took (move : Move) (was now : List Cont) (result : Hand) : Type 0 where
  pub hand : result ≡ move.hand
  pub conts : reverse now ≡ onto move.push (onto move.under (reverse was))

-- An expression began, which reads nothing, and its move was taken.
pub record Started (t : Table) (old new : State) (was now : List Cont) (result : Hand) : Type 0 where
  pub move : Move
  pub took : Took move was now result
  pub moves : InEach t (Moves None hands.Begins old new move)
  pub under : IsPlain move.under
  pub push : HasNoFrame move.push
