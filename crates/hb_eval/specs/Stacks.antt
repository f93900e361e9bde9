-- What stands on the machine's stacks, and its live frames as functions on answers.
use Rattle.std.specs.Prelude.{ℕ, ◌<◌, ◌≤◌, List, [], ◌∷◌, length, take, drop, reverse, Option, Some, None, IfSome}
use Rattle.std.specs.List.{AllByRecursion}
use Rattle.hb_types.specs.declared.ids.KeyId.{KeyId}
use Rattle.hb_tree.specs.Table.{Table}
use Rattle.hb_tables.specs.Standing.{Stand}
use Rattle.hb_eval.specs.declared.{cont.Cont.Cont, framed.Framed.Framed, state.State.State}
use Rattle.hb_eval.specs.declared.cont.Cont.TheVariants as cont
use Rattle.hb_eval.specs.{State.Bindings, State.Answer, Calls.leave, Machine.Frames, Machine.frames_in, Steps.AreKnown}

-- Holds of these keys, as the reading of Frees sees them
abbrev pub holds_of : List KeyId → List Stand
holds_of [] = []
holds_of (key ∷ keys) = record { key = key.0; ty = None; changes = 0 } ∷ holds_of keys

-- what a frame does with the answer of its body, where these are the variables of its caller
abbrev pub ends : Framed → Bindings → Answer → Answer
ends f vars a = leave f.frame.q.0 (holds_of f.frame.held.items) vars f.class a

-- the frames, the last first, over the variables below it
abbrev pub views : List Framed → Bindings → Frames
views [] vars = []
views (f ∷ fs) vars = ends f (drop f.base vars) ∷ views fs (take f.base vars)

abbrev pub frames_at : List Framed → State → Frames
frames_at frames x = views (reverse frames) (take x.base x.vars.items)

-- each frame's variables stand above those of its caller
abbrev pub Based : List Framed → ℕ → Type 0
Based [] n = Unit {0}
Based (f ∷ fs) n = (f.base ≤ n) × Based fs f.base

pub record IsBased (frames : List Framed) (x : State) : Type 0 where
  pub top : x.base ≤ length x.vars.items
  pub below : Based (reverse frames) x.base

abbrev pub IsKnownFrame : Table → Framed → Type 0
IsKnownFrame t f = IfSome f.class (λ c. c.0 < length t.classes)

-- the classes of all objects in hand, and of the callers of all frames, are classes of the program
pub record AllKnown (t : Table) (frames : List Framed) (x : State) : Type 0 where
  pub state : AreKnown t x
  pub callers : AllByRecursion (IsKnownFrame t) frames

-- how many frames end with this, and how many calls are not yet made
abbrev pub ended_of : Option Cont → ℕ
ended_of None = 0
ended_of (Some k) = frames_in k

abbrev pub calls_in : Cont → ℕ
calls_in (cont.Receiver id) = 1
calls_in (cont.Arguments id n) = 1
calls_in _ = 0

abbrev pub calls_of : Option Cont → ℕ
calls_of None = 0
calls_of (Some k) = calls_in k
