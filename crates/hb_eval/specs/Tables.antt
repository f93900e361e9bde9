-- What the tables' answers mean to a script.
use Rattle.std.specs.Prelude.{◌≡◌, ◌≤◌, ℕ, List, [], ◌∷◌, ◌++◌, length, reverse, false, Option, Some, Result}
use Rattle.std.specs.List.{AllByRecursion}
use mathlib.Core.List.{IsPrefix}
use Rattle.hb_names.specs.declared.names.TheConstants.{NAMES_MAX}
use Rattle.hb_names.specs.Names.{Name}
use Rattle.hb_tables.specs.declared.{entry.Entry.Entry, entry.Act.Act}
use Rattle.hb_tables.specs.Frames.{acts}
use Rattle.hb_eval.specs.declared.{value.Value.Value, stop.Stop.Stop, cont.Cont.Cont, state.State.State, state.Move.Move}
use Rattle.hb_eval.specs.State.{St, Answer, tagged}
use Rattle.hb_eval.specs.{Runs.is_call, Steps.onto}
use Rattle.hb_eval.specs.Machine.{World, Frames, resume, stands, st_of}

-- one act comes to the caller's journal, and this is what it means
pub record Adds (c : ℕ) (old new : List Entry) (meaning : Act → Option (Result Value Stop)) (r : Result Value Stop) : Type 0 where
  pub act : Act
  pub grows : acts c new ≡ acts c old ++ act ∷ []
  pub means : meaning act ≡ Some r
  pub apart : is_call act ≡ false

-- Some acts come to the caller's journal. Whatever comes behind them, and whichever names come behind the known ones, what was due goes on to that move and that state.
pub record ActsOn (known : List Name) (c : ℕ) (was now : List Entry) (before : World → St → Answer) (old new : State) (move : Move) : Type 0 where
  pub more : List Act
  pub grows : acts c now ≡ acts c was ++ more
  pub apart : AllByRecursion (λ a. is_call a ≡ false) more
  pub same : (w : World) → IsPrefix known w.names → length w.names ≤ NAMES_MAX → (ks : List Cont) (fs : Frames) (read : List (ℕ × Act)) (journal : List Act)
      → resume w ks (reverse old.operands.items) fs (before w (st_of old read (more ++ journal))) ≡ stands w (onto move.push (onto move.under ks)) fs move.hand new (read ++ tagged new.begun more) journal
