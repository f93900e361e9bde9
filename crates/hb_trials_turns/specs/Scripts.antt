-- A script between two turns.
use Rattle.std.specs.Prelude.{◌≡◌, ◌+◌, true, false, List}
use Rattle.hb_tree.specs.Table.{Table}
use Rattle.hb_names.specs.Names.{Name}
use Rattle.hb_call.specs.OwnCache.{IsTrueCache}
use Rattle.hb_eval.specs.Holding.{Holding, frames_of}
use Rattle.hb_eval.specs.Machines.{HasEnded, IsFineMachine, IsGoing}
use Rattle.hb_words.specs.declared.words.{MethodWords.MethodWords, WordSeat.WordSeat}
use Rattle.hb_words.specs.Seats.{IsSeatAt, view_of}
use Rattle.hb_trials_turns.specs.declared.{script.Script.Script, pair.Pair.Pair}

-- Its machine goes on or has ended. Its seat is one of the words, its frames hold their keys there, and what it keeps of its checks is true.
pub record IsReady (t : Table) (words : MethodWords) (names : List Name) (s : Script) : Type 0 where
  pub fine : IsFineMachine t s.machine
  pub going : s.over ≡ false → IsGoing s.machine
  pub done : s.over ≡ true → HasEnded s.machine
  pub seat : IsSeatAt words s.seat
  pub holding : Holding (view_of s.seat).caller (s.machine.state.made + 1) (frames_of s.machine.frames.items) (view_of s.seat).seen
  pub checks : IsTrueCache t names names (view_of s.seat).caller (view_of s.seat).seen s.machine.state.cache

-- the seat's caller is the same, and has made as many others
abbrev pub IsSameCaller : WordSeat → WordSeat → Type 0
IsSameCaller old new = ((view_of new).caller ≡ (view_of old).caller) × ((view_of new).made ≡ (view_of old).made)

-- both are ready, by the seats of callers 1 and 2
pub record AreReady (t : Table) (words : MethodWords) (names : List Name) (p : Pair) : Type 0 where
  pub one : IsReady t words names p.one
  pub two : IsReady t words names p.two
  pub first : (view_of p.one.seat).caller ≡ 1
  pub second : (view_of p.two.seat).caller ≡ 2
