-- How a machine goes on.
use Rattle.std.specs.Prelude.{◌≡◌, ℕ, List, ◌++◌, map}
use Rattle.hb_tree.specs.Table.{Table}
use Rattle.hb_names.specs.Names.{Name}
use Rattle.hb_tables.specs.declared.entry.Entry.{Entry}
use Rattle.hb_tables.specs.declared.entry.Act.{Act}
use Rattle.hb_tables.specs.Answers.{Fixed}
use Rattle.hb_tables.specs.Frames.{acts}
use Rattle.hb_call.specs.Growth.{Grown}
use Rattle.hb_call.specs.OwnCache.{KeepsChecks}
use Rattle.hb_eval.specs.declared.machine.Machine.{Machine}
use Rattle.hb_eval.specs.Machines.{StandsFor, keeps}
use Rattle.hb_eval.specs.Staying.{Stays}

-- Some acts came to the caller's own, each with the number of beginnings. Whatever run the machine stood for, it stands for it behind these acts.
pub record GoesOn (t : Table) (c : ℕ) (names known : List Name) (was now : List Entry) (old new : Machine) : Type 0 where
  pub made : List (ℕ × Act)
  pub grows : acts c now ≡ acts c was ++ map (λ e. e.1) made
  pub stands : (block steps : ℕ) (done : List (ℕ × Act)) → StandsFor t names block steps done old → StandsFor t known block steps (done ++ made) new

-- The machine went on, and so did the desk and the names that it used.
pub record Went (t : Table) (door later : Fixed) (names known was asked : List Name) (log now : List Entry) (old new : Machine) : Type 0 where
  pub goes : GoesOn t door.caller names known log now old new
  pub stays : Stays door later log now names known
  pub grown : Grown t door.caller known was asked log now
  pub checks : KeepsChecks t door.caller names known was asked log now old.state.cache new.state.cache
  pub caller : new.caller ≡ old.caller
  pub keeps : keeps new ≡ keeps old
