-- A machine between two beginnings: for what it stands, and what its stacks have.
use Rattle.std.specs.Prelude.{◌≡◌, ℕ, Bool, is_some, ◌+◌, ◌^◌, ◌<◌, ◌≤◌, ◌⊎◌, List, [], ◌∷◌, ◌++◌, length, map, reverse, count_by, Some}
use Rattle.std.specs.List.{AllByRecursion}
use Rattle.std.specs.Option.{option_map}
use mathlib.Core.List.{IsPrefix}
use Rattle.hb_tree.specs.Table.{Table}
use Rattle.hb_tree.specs.TreeAt.{tree_at}
use Rattle.hb_names.specs.declared.names.TheConstants.{NAMES_MAX}
use Rattle.hb_names.specs.Names.{Name}
use Rattle.hb_tables.specs.declared.entry.Entry.{Entry}
use Rattle.hb_tables.specs.declared.entry.Act.{Act}
use Rattle.hb_tables.specs.declared.entry.By.TheVariants as by
use Rattle.hb_tables.specs.Frames.{acts}
use Rattle.hb_call.specs.Growth.{Grown}
use Rattle.hb_call.specs.OwnCache.{KeepsChecks}
use Rattle.hb_eval.specs.declared.cont.Cont.{Cont}
use Rattle.hb_eval.specs.declared.cont.Cont.TheVariants as cont
use Rattle.hb_eval.specs.declared.state.State.{State}
use Rattle.hb_eval.specs.declared.state.Hand.{Hand}
use Rattle.hb_eval.specs.declared.state.Hand.TheVariants as hands
use Rattle.hb_types.specs.declared.ids.NodeId.{NodeId}
use Rattle.hb_eval.specs.declared.value.Value.{Value}
use Rattle.hb_eval.specs.declared.stop.Stop.{Stop}
use Rattle.hb_eval.specs.declared.stop.Outcome.{Outcome}
use Rattle.hb_eval.specs.declared.stop.Outcome.TheVariants as outcome
use Rattle.hb_eval.specs.declared.machine.Machine.{Machine}
use Rattle.hb_eval.specs.declared.script_run.ScriptRun.{ScriptRun}
use Rattle.hb_eval.specs.declared.machine.Turn.{Turn}
use Rattle.hb_eval.specs.declared.machine.Turn.TheVariants as turn
use Rattle.hb_eval.specs.State.{Answer}
use Rattle.hb_eval.specs.Meaning.{ev}
use Rattle.hb_eval.specs.Calls.{call_in}
use Rattle.hb_eval.specs.Runs.{Run, script_run, start, is_call, is_entered}
use Rattle.hb_eval.specs.Told.{told, told_by}
use Rattle.hb_eval.specs.Noting.{IsJournal, journal_of}
use Rattle.hb_eval.specs.Machine.{need, frames_in}
use Rattle.hb_eval.specs.Steps.{IsFine, IsFineStep, HasCounted, IsFed, Steady, weigh_one}
use Rattle.hb_eval.specs.Stacks.{IsBased, AllKnown, calls_in}
use Rattle.hb_eval.specs.Turns.{Telling, stands_at, Reads}

-- the answer of the whole run, where these acts were read and those are left
abbrev pub answer : Table → List Name → Machine → List (ℕ × Act) → List Act → Answer
answer t names m read journal = stands_at t names (reverse m.conts.items) m.frames.items m.hand m.state read journal

-- the same, with nothing left to do below
abbrev pub of_machine : Table → Machine → Telling
of_machine t m names ks read journal = answer t names m read journal

-- what all these take
abbrev pub sum_over : (Cont → ℕ) → List Cont → ℕ
sum_over f [] = 0
sum_over f (k ∷ ks) = f k + sum_over f ks

-- time is left for what may still begin
abbrev pub IsTimed : Hand → State → Type 0
IsTimed hands.Stops x = Unit {0}
IsTimed _ x = x.begun + x.fuel < 2 ^ 32

-- The stacks have what is left to do needs.
pub record IsFineMachine (t : Table) (m : Machine) : Type 0 where
  pub conts : AllByRecursion (IsFine t) (reverse m.conts.items)
  pub step : IsFineStep t m.hand m.state
  pub operands : length m.state.operands.items ≡ sum_over need (reverse m.conts.items)
  pub frames : length m.frames.items ≡ sum_over frames_in (reverse m.conts.items)
  pub calls : m.state.made + sum_over calls_in (reverse m.conts.items) ≤ m.state.begun
  pub decided : m.state.decided ≤ m.state.made
  pub entered : m.state.own + m.state.fresh ≤ m.state.decided
  pub based : IsBased m.frames.items m.state
  pub known : AllKnown t m.frames.items m.state
  pub time : IsTimed m.hand m.state

-- The calls among the acts are counted.
pub record Counts (x : State) (done : List (ℕ × Act)) : Type 0 where
  pub decided : x.decided ≡ count_by (λ e. is_call e.1) done
  pub own : x.own ≡ count_by (λ e. is_entered by.Own e.1) done
  pub fresh : x.fresh ≡ count_by (λ e. is_entered by.Fresh e.1) done
  pub shared : count_by (λ e. is_entered by.Shared e.1) done ≡ 0

-- The machine stands for the run of a block with so many steps behind these acts: whatever acts and names come behind, the meaning of the block is what the machine makes of the rest.
pub record StandsFor (t : Table) (known : List Name) (block steps : ℕ) (done : List (ℕ × Act)) (m : Machine) : Type 0 where
  pub same : (names : List Name) → IsPrefix known names → length names ≤ NAMES_MAX → (journal : List Act)
      → ev t names (call_in t names 4096) (tree_at t block) (start steps (map (λ e. e.1) done ++ journal)) ≡ answer t names m done journal
  pub counts : Counts m.state done
  pub journal : IsJournal m.caller m.journal (map (λ e. e.1) done)

-- the machine keeps its caller's entries
abbrev pub keeps : Machine → Bool
keeps m = is_some m.journal

-- The acts that came are in the journal behind those that it had, where it is kept.
abbrev pub NotesOn : (c : ℕ) → (past now : List Entry) → (old new : Machine) → Type 0
NotesOn c past now old new = (more done : List Act) → acts c now ≡ acts c past ++ more → IsJournal old.caller old.journal done → IsJournal new.caller new.journal (done ++ more)

-- This is told of the run of a block with so many steps against these acts, which it reads to their end. So many expressions began in it as in the machine, and the journal has these acts where the machine keeps one.
pub record Finishes (t : Table) (names : List Name) (block steps : ℕ) (done : List (ℕ × Act)) (m : Machine) (r : ScriptRun) : Type 0 where
  pub run : Run
  pub reads : script_run t names (call_in t names 4096) block steps (map (λ e. e.1) done) ≡ Some run
  pub tells : told_by r ≡ told m.caller.0 run
  pub acts : run.acts ≡ done
  pub begun : run.begun ≡ m.state.begun
  pub journal : option_map (λ v. v.items) r.journal ≡ journal_of (keeps m) m.caller (map (λ e. e.1) done)

-- there is a value or a stop, and nothing is left to do with it
abbrev pub IsLast : Hand → List Cont → Type 0
IsLast hands.Begins ks = ⊥
IsLast _ ks = ks ≡ []

-- the run has ended
abbrev pub HasEnded : Machine → Type 0
HasEnded m = IsLast m.hand m.conts.items

-- the items of a block are all that is to be done
abbrev pub IsOneBlock : List Cont → Type 0
IsOneBlock (cont.Items block at ∷ []) = Unit {0}
IsOneBlock _ = ⊥

abbrev pub IsNext : Hand → (begun : ℕ) → List Cont → Type 0
IsNext hands.Begins begun ks = Unit {0}
IsNext hands.Gives begun ks = (begun ≡ 0) × IsOneBlock ks
IsNext hands.Stops begun ks = ⊥

-- the run goes on: an expression is to begin, or it has not begun at all
abbrev pub IsGoing : Machine → Type 0
IsGoing m = IsNext m.hand m.state.begun m.conts.items

-- an expression is to begin, or nothing is left to do
abbrev pub IsRest : Hand → List Cont → Type 0
IsRest hands.Begins ks = Unit {0}
IsRest _ ks = ks ≡ []

abbrev pub IsAtRest : Machine → Type 0
IsAtRest m = IsRest m.hand m.conts.items

-- an expression is to begin, the script stops, or nothing is left to do
abbrev pub IsSettledAt : Hand → List Cont → Type 0
IsSettledAt hands.Gives ks = ks ≡ []
IsSettledAt _ ks = Unit {0}

abbrev pub IsSettled : Machine → Type 0
IsSettled m = IsSettledAt m.hand m.conts.items

abbrev pub weigh : Hand → List Cont → ℕ
weigh hands.Begins ks = 0
weigh _ ks = 1 + sum_over weigh_one ks

-- how many turns are left before an expression begins
abbrev pub turns_left : Machine → ℕ
turns_left m = weigh m.hand (reverse m.conts.items)

-- Some acts come, and no expression begins.
pub record Carries (t : Table) (c : ℕ) (names known was asked : List Name) (past now : List Entry) (old new : Machine) : Type 0 where
  pub reads : Reads known c past now old.state new.state (of_machine t old) (of_machine t new)
  pub fine : IsFineMachine t new
  pub begun : new.state.begun ≡ old.state.begun
  pub fuel : new.state.fuel ≡ old.state.fuel
  pub stops : old.hand ≡ hands.Stops → new.hand ≡ hands.Stops
  pub grown : Grown t c known was asked past now
  pub own : KeepsChecks t c names known was asked past now old.state.cache new.state.cache

-- Expressions begin, and then some acts come.
pub record Begins (far : Bool) (t : Table) (c : ℕ) (names known was asked : List Name) (past now : List Entry) (old new : Machine) : Type 0 where
  pub reads : Reads known c past now old.state new.state (of_machine t old) (of_machine t new)
  pub fine : IsFineMachine t new
  pub begun : HasCounted far old.state new.state
  pub fed : IsFed new.hand old.state new.state
  pub grown : Grown t c known was asked past now
  pub own : KeepsChecks t c names known was asked past now old.state.cache new.state.cache

-- Nothing begins, and the answer is the same.
pub record Opens (t : Table) (old new : Machine) : Type 0 where
  pub same : (names : List Name) (read : List (ℕ × Act)) (journal : List Act) → answer t names old read journal ≡ answer t names new read journal
  pub fine : IsFineMachine t new
  pub steady : Steady old.state new.state
  pub rest : IsAtRest new
  pub first : old.hand ≡ hands.Begins → new.hand ≡ hands.Begins

-- Some acts come, and the machine is fine behind them.
pub record Advances (t : Table) (c : ℕ) (names known was asked : List Name) (past now : List Entry) (old new : Machine) : Type 0 where
  pub reads : Reads known c past now old.state new.state (of_machine t old) (of_machine t new)
  pub fine : IsFineMachine t new
  pub grown : Grown t c known was asked past now
  pub own : KeepsChecks t c names known was asked past now old.state.cache new.state.cache

-- how a run ended
abbrev pub outcome_of : Hand → Stop → NodeId → Value → Outcome
outcome_of hands.Stops e id v = outcome.Stopped e id
outcome_of _ e id v = outcome.Done v

-- whether a machine goes on
abbrev pub turn_of : Hand → Turn
turn_of hands.Begins = turn.More
turn_of _ = turn.Ended

-- with less fuel than before an expression is to begin, or nothing is left to do
abbrev pub Turns : Turn → (old new : Machine) → Type 0
Turns turn.More old new = IsGoing new × (new.state.fuel < old.state.fuel)
Turns turn.Ended old new = HasEnded new

-- expressions began, each with a unit of fuel but one that stopped for want of it; or the block has none
abbrev pub HasBegun : (far : Bool) → Turn → (old new : Machine) → Type 0
HasBegun far turn.More old new = HasCounted far old.state new.state
HasBegun far turn.Ended old new = HasCounted far old.state new.state ⊎ ((new.state.begun ≡ old.state.begun) × (old.hand ≡ hands.Gives))
