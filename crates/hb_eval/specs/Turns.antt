-- What a turn of the machine comes to: an expression begins, what is left to do is done with a value, or a stop passes it.
use Rattle.std.specs.Prelude.{◌≡◌, ℕ, ◌+◌, ◌^◌, ◌<◌, ◌≤◌, List, ◌∷◌, ◌++◌, length, take, drop, reverse, count_by}
use mathlib.Core.List.{IsPrefix}
use Rattle.hb_tree.specs.Table.{Table}
use Rattle.hb_names.specs.declared.names.TheConstants.{NAMES_MAX}
use Rattle.hb_names.specs.Names.{Name}
use Rattle.hb_tables.specs.declared.{entry.Entry.Entry, entry.Act.Act}
use Rattle.hb_tables.specs.declared.entry.By.TheVariants as by
use Rattle.hb_tables.specs.Frames.{acts}
use Rattle.hb_eval.specs.declared.{value.Value.Value, cont.Cont.Cont, framed.Framed.Framed, state.State.State, state.Hand.Hand, state.Move.Move}
use Rattle.hb_eval.specs.declared.state.Hand.TheVariants as hands
use Rattle.hb_eval.specs.State.{St, Answer, tagged}
use Rattle.hb_eval.specs.{Calls.call_in, Runs.is_call, Runs.is_entered}
use Rattle.hb_eval.specs.Machine.{World, need, frames_in, room, resume, stands, st_of}
use Rattle.hb_eval.specs.Steps.{onto, need_of, IsFine, IsFinePush, IsFineStep, IsLight, Took, weigh_push}
use Rattle.hb_eval.specs.Stacks.{frames_at, IsBased, AllKnown, ended_of, calls_in, calls_of}

-- a program, with the calls that it makes
abbrev pub world : Table → List Name → World
world t names = record { program = t; names = names; calls = call_in t names }

-- the answer of the whole run, where these are left to do
abbrev pub stands_at : Table → List Name → List Cont → List Framed → Hand → State → List (ℕ × Act) → List Act → Answer
stands_at t names ks frames hand x read journal = stands (world t names) ks (frames_at frames x) hand x read journal

-- the answer of a run, by the names, what is left to do below, the acts read and those left
abbrev pub Telling : Type 0
Telling = List Name → List Cont → List (ℕ × Act) → List Act → Answer

-- where this is left to do with a value
abbrev pub with_value : Table → Cont → List Framed → State → Telling
with_value t k frames x names ks read journal = stands_at t names (k ∷ ks) frames hands.Gives x read journal

-- where an expression begins
abbrev pub at_beginning : Table → List Framed → State → Telling
at_beginning t frames x names ks read journal = stands_at t names ks frames hands.Begins x read journal

-- where this is left to do with the operands from a place on
abbrev pub with_operands : Table → (at : ℕ) → (World → (room : ℕ) → List Value → St → Answer) → List Framed → State → Telling
with_operands t at f frames x names ks read journal =
    resume (world t names) ks (reverse (take at x.operands.items)) (frames_at frames x)
    (f (world t names) (room (frames_at frames x)) (drop at x.operands.items) (st_of x read journal))

-- behind a move
abbrev pub after : Table → Move → List Framed → State → Telling
after t m frames x names ks read journal = stands_at t names (onto m.push (onto m.under ks)) frames m.hand x read journal

-- the calls among these acts were counted
pub record Tallies (old new : State) (more : List Act) : Type 0 where
  pub decided : new.decided ≡ old.decided + count_by is_call more
  pub own : new.own ≡ old.own + count_by (is_entered by.Own) more
  pub fresh : new.fresh ≡ old.fresh + count_by (is_entered by.Fresh) more
  pub shared : count_by (is_entered by.Shared) more ≡ 0

-- Some acts come to the caller's journal. Whatever comes behind them, and whichever names come behind the known ones, the run has the same answer.
pub record Reads (known : List Name) (c : ℕ) (was now : List Entry) (old new : State) (told telling : Telling) : Type 0 where
  pub more : List Act
  pub grows : acts c now ≡ acts c was ++ more
  pub same : (names : List Name) → IsPrefix known names → length names ≤ NAMES_MAX → (ks : List Cont) (read : List (ℕ × Act)) (journal : List Act)
      → told names ks read (more ++ journal) ≡ telling names ks (read ++ tagged new.begun more) journal
  pub tallies : Tallies old new more

-- The move is fine, and the stacks have what it needs where so many operands, frames and calls not yet made were taken.
pub record Goes (t : Table) (taken ended pending : ℕ) (old_frames : List Framed) (old : State) (new_frames : List Framed) (new : State) (move : Move) : Type 0 where
  pub under : IsFinePush t move.under
  pub push : IsFinePush t move.push
  pub step : IsFineStep t move.hand new
  pub light : IsLight move.hand move.push
  pub operands : length new.operands.items + taken ≡ length old.operands.items + need_of move.under + need_of move.push
  pub frames : length new_frames + ended ≡ length old_frames + ended_of move.under + ended_of move.push
  pub calls : new.made + calls_of move.under + calls_of move.push + old.begun ≤ old.made + pending + new.begun
  pub decided : old.decided ≤ old.made → new.decided ≤ new.made
  pub entered : old.own + old.fresh ≤ old.decided → new.own + new.fresh ≤ new.decided
  pub based : IsBased old_frames old → IsBased new_frames new
  pub known : AllKnown t old_frames old → AllKnown t new_frames new

-- what this may rely on, where it is left to do with a value
pub record Ready (t : Table) (k : Cont) (frames : List Framed) (x : State) : Type 0 where
  pub fine : IsFine t k
  pub operands : need k ≤ length x.operands.items
  pub ended : frames_in k ≤ length frames
  pub based : IsBased frames x
  pub known : AllKnown t frames x
  pub calls : x.made + calls_in k ≤ x.begun
  pub few : x.begun < 2 ^ 32
  pub decided : x.decided ≤ x.made
  pub entered : x.own + x.fresh ≤ x.decided

-- one more call has its number
pub record MayCall (x : State) : Type 0 where
  pub made : x.made < x.begun
  pub few : x.begun < 2 ^ 32
  pub decided : x.decided ≤ x.made
  pub entered : x.own + x.fresh ≤ x.decided

-- Some acts came, and a move was taken that leaves less to do than was there.
pub record Turned (t : Table) (known : List Name) (c : ℕ) (past now : List Entry) (taken ended pending weight : ℕ) (old_frames : List Framed) (old : State) (new_frames : List Framed)
    (new : State) (told : Telling) (was conts : List Cont) (result : Hand) : Type 0 where
  pub move : Move
  pub took : Took move was conts result
  pub reads : Reads known c past now old new told (after t move new_frames new)
  pub goes : Goes t taken ended pending old_frames old new_frames new move
  pub light : weigh_push move.under < weight
