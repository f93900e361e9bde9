-- How frames end, and how a stop passes what is left to do.
use Rattle.std.specs.Prelude.{◌≡◌, ℕ, ◌+◌, List, [], ◌∷◌, ◌++◌, length, take}
use Rattle.hb_tree.specs.Table.{Table}
use Rattle.hb_tables.specs.declared.entry.Entry.{Entry}
use Rattle.hb_tables.specs.Frames.{acts}
use Rattle.hb_call.specs.Held.{frees}
use Rattle.hb_eval.specs.declared.{cont.Cont.Cont, framed.Framed.Framed, state.State.State}
use Rattle.hb_eval.specs.declared.state.Hand.TheVariants as hands
use Rattle.hb_eval.specs.{Steps.Steady, Stacks.IsBased, Stacks.AllKnown, Turns.Telling, Turns.stands_at}

-- The frame on top ends: its call gives its keys back, and the caller's variables and class are there again.
pub record Leaves (c : ℕ) (was now : List Entry) (old_frames : List Framed) (old : State) (new_frames : List Framed) (new : State) : Type 0 where
  pub frame : Framed
  pub frames : old_frames ≡ new_frames ++ frame ∷ []
  pub grows : acts c now ≡ acts c was ++ frees frame.frame.q frame.frame.held.items
  pub state : new ≡ record old { vars = new.vars; base = frame.base; class = frame.class }
  pub vars : new.vars.items ≡ take old.base old.vars.items

-- a stop, where this is left to do
abbrev pub with_stop : Table → List Cont → List Framed → State → Telling
with_stop t on frames x names ks read journal = stands_at t names (on ++ ks) frames hands.Stops x read journal

-- so many operands and frames less
pub record Lowers (t : Table) (taken ended : ℕ) (old_frames : List Framed) (old : State) (new_frames : List Framed) (new : State) : Type 0 where
  pub operands : length new.operands.items + taken ≡ length old.operands.items
  pub frames : length new_frames + ended ≡ length old_frames
  pub steady : Steady old new
  pub based : IsBased old_frames old → IsBased new_frames new
  pub known : AllKnown t old_frames old → AllKnown t new_frames new
