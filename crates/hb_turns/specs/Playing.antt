-- Callers that take turns over one history and one list of names.
use Rattle.std.specs.Prelude.{◌≡◌, ◌⊎◌, ℕ, zero, suc, ◌+◌, ◌<◌, ◌≤◌, ◌==◌, cond, Bool, true, false, List, [], ◌∷◌, ◌++◌, length, map, Some}
use mathlib.Core.List.{IsPrefix}
use Rattle.hb_types.specs.declared.ids.NodeId.{NodeId}
use Rattle.hb_tree.specs.Table.{Table}
use Rattle.hb_names.specs.declared.names.TheConstants.{NAMES_MAX}
use Rattle.hb_names.specs.Names.{Name, Differ}
use Rattle.hb_tables.specs.declared.entry.Act.{Act}
use Rattle.hb_tables.specs.declared.entry.Entry.{Entry}
use Rattle.hb_tables.specs.Frames.{acts}
use Rattle.hb_tables.specs.History.{entry, Every, IsLegal}
use Rattle.hb_call.specs.Growth.{asked_after}
use Rattle.hb_call.specs.OwnCache.{IsOwnCache}
use Rattle.hb_call.specs.Rules.{EntersBy, FitsRules}
use Rattle.hb_eval.specs.declared.machine.Machine.{Machine}
use Rattle.hb_eval.specs.Holding.{Holding, frames_of}
use Rattle.hb_eval.specs.Machines.{HasEnded, IsFineMachine, IsGoing, StandsFor, keeps}
use Rattle.hb_eval.specs.State.{tagged}
use Rattle.hb_run.specs.History.{HasCaller, IsInTurn, block_of}

-- The machine of a caller between two turns, whoever takes them: it keeps no journal, it stands for the run of the caller's block behind the acts that the caller made, and its frames and its cache are those of these acts.
pub record Plays (t : Table) (steps c : ℕ) (names : List Name) (log : List Entry) (done : List (ℕ × Act)) (m : Machine) : Type 0 where
  pub caller : m.caller.0 ≡ c
  pub plain : keeps m ≡ false
  pub block : NodeId
  pub runs : block_of t c ≡ Some block
  pub fine : IsFineMachine t m
  pub holding : Holding c (m.state.made + 1) (frames_of m.frames.items) log
  pub own : IsOwnCache t names names c (Some []) log m.state.cache
  pub reads : acts c log ≡ map (λ e. e.1) done
  pub stands : StandsFor t names block.0 steps done m

-- What is true of the history and of the names between two turns. The names are those of the keys of its acts, in the order of the first.
pub record IsUnderWay (t : Table) (limit : ℕ) (names : List Name) (log : List Entry) : Type 0 where
  pub legal : IsLegal limit log
  pub rules : Every (λ before e. FitsRules t names e.caller.0 before e.act) log
  pub ways : Every (λ before e. EntersBy e.caller.0 [] before e.act) log
  pub callers : Every (λ before e. HasCaller t e) log
  pub in_turn : Every IsInTurn log
  pub differ : Differ names
  pub few : length names ≤ NAMES_MAX
  pub asked : (longer : List Name) → IsPrefix names longer → names ≡ asked_after longer [] (map (λ e. e.act) log)

-- A turn that was taken: whose it was, how many expressions had begun behind it, and the acts that came in it.
pub record Taken : Type 0 where
  pub caller : ℕ
  pub begun : ℕ
  pub acts : List Act

-- these acts, as a caller's entries
abbrev pub entries_by : ℕ → List Act → List Entry
entries_by c [] = []
entries_by c (a ∷ l) = entry c a ∷ entries_by c l

-- the entries of these turns, one turn behind the other
abbrev pub entries_of : List Taken → List Entry
entries_of [] = []
entries_of (u ∷ us) = entries_by u.caller u.acts ++ entries_of us

-- the acts of one caller in these turns, each with the number of beginnings
abbrev pub acts_by : ℕ → List Taken → List (ℕ × Act)
acts_by c [] = []
acts_by c (u ∷ us) = cond (c == u.caller) (tagged u.begun u.acts ++ acts_by c us) (acts_by c us)

-- how many of these turns the caller took
abbrev pub turns_by : ℕ → List Taken → ℕ
turns_by c [] = 0
turns_by c (u ∷ us) = cond (c == u.caller) 1 0 + turns_by c us

-- Behind these turns so many more of a caller, which have the next numbers, and in which nothing came.
abbrev pub and_idle : (c many : ℕ) → List Taken → List Taken
and_idle c zero us = us
and_idle c (suc many) us = and_idle c many (us ++ record { caller = c; begun = turns_by c us + 1; acts = [] } ∷ [])

-- how many turns the turn's caller took before it: so many, and it has the next number, or none and nothing began
abbrev pub HasNumber : List Taken → Taken → Type 0
HasNumber before u = (u.begun ≡ turns_by u.caller before + 1) ⊎ ((u.begun ≡ 0) × (turns_by u.caller before ≡ 0))

-- each turn has the number that its caller's turns before it give
abbrev pub AreNumbered : List Taken → Type 0
AreNumbered us = (before after : List Taken) (u : Taken) → us ≡ before ++ u ∷ after → HasNumber before u

-- These acts of the caller came.
pub record Came (c : ℕ) (more : List Act) (old new : List Entry) : Type 0 where
  pub is : old ++ entries_by c more ≡ new

-- One turn was taken: some acts of the caller came, and whatever run its machine stood for, it stands for it behind them.
pub record Took (t : Table) (c : ℕ) (names longer : List Name) (old new : List Entry) (was now : Machine) : Type 0 where
  pub more : List Act
  pub came : Came c more old new
  pub plays : (steps : ℕ) (done : List (ℕ × Act)) → Plays t steps c names old done was → Plays t steps c longer new (done ++ tagged now.state.begun more) now

-- the machine is at its end, or goes on
abbrev pub IsAt : (over : Bool) → Machine → Type 0
IsAt true m = HasEnded m
IsAt false m = IsGoing m

-- A run that goes on took as many turns as expressions began, and one that is over too, or it took one turn and its block has no expression.
abbrev pub IsNumbered : (over : Bool) → (begun turns : ℕ) → Type 0
IsNumbered true begun turns = ((begun ≡ turns) × (0 < turns)) ⊎ ((begun ≡ 0) × (turns ≡ 1))
IsNumbered false begun turns = begun ≡ turns

-- The caller took turns: whatever run its machine stood for, it stands for it behind some more acts.
abbrev pub PlaysOn : Table → (c : ℕ) → (names longer : List Name) → (old new : List Entry) → (was now : Machine) → Type 0
PlaysOn t c names longer old new was now = (steps : ℕ) (done : List (ℕ × Act)) → Plays t steps c names old done was → (later : List (ℕ × Act)) × Plays t steps c longer new later now
