-- Fuel falls.
use Rattle.std.specs.Prelude.{ℕ, ◌<◌, List}
use Rattle.hb_eval.specs.declared.value.Value.{Value}
use Rattle.hb_eval.specs.State.{St, Answer, Lost, Done, Halt}
use Rattle.hb_eval.specs.Meaning.{Calls}

-- an answer that is a value leaves less fuel than this
abbrev pub LeavesBelow : ℕ → Answer → Type 0
LeavesBelow n Lost = Unit {0}
LeavesBelow n (Done v s) = s.fuel < n
LeavesBelow n (Halt e id s) = Unit {0}

-- a call gives no fuel back
abbrev pub KeepsFuel : Calls → Type 0
KeepsFuel call = (id : ℕ) (r : Value) (m : ℕ) (vs : List Value) (n : ℕ) (s : St) → s.fuel < n → LeavesBelow n (call id r m vs s)
