-- A caller's front of a history: it begins the history, and has all of the caller's acts.
use Rattle.std.specs.Prelude.{◌≡◌, ℕ, List, ◌∷◌, ◌++◌}
use mathlib.Core.List.{IsPrefix}
use Rattle.hb_tables.specs.declared.entry.Entry.{Entry}
use Rattle.hb_tables.specs.Frames.{acts}

-- there is a front of the caller, in which each of its own entries stands in this relation to the entries before it
pub record HasFront (F : List Entry → Entry → Type 0) (log : List Entry) (c : ℕ) : Type 0 where
  pub front : List Entry
  pub begins : IsPrefix front log
  pub whole : acts c log ≡ acts c front
  pub own : (before after : List Entry) (e : Entry) → front ≡ before ++ e ∷ after → e.caller.0 ≡ c → F before e
