-- The run of a script against its journal, and what is told of it.
use Rattle.std.specs.Prelude.{ℕ, List, [], ◌∷◌, Option, Some, None, Bool, true, false, count_by}
use Rattle.hb_tree.specs.Table.{Table}
use Rattle.hb_tree.specs.TreeAt.{tree_at}
use Rattle.hb_names.specs.Names.{Name}
use Rattle.hb_tables.specs.declared.entry.Act.{Act}
use Rattle.hb_tables.specs.declared.entry.Act.TheVariants.{Call}
use Rattle.hb_tables.specs.declared.entry.Verdict.{Verdict}
use Rattle.hb_tables.specs.declared.entry.Verdict.TheVariants.{Enter}
use Rattle.hb_tables.specs.declared.entry.By.{By}
use Rattle.hb_tables.specs.declared.entry.By.TheVariants as by
use Rattle.hb_eval.specs.declared.stop.Outcome.{Outcome}
use Rattle.hb_eval.specs.declared.stop.Outcome.TheVariants as outcome
use Rattle.hb_eval.specs.State.{St, Answer, Lost, Done, Halt}
use Rattle.hb_eval.specs.Meaning.{Calls, ev}

-- a script begins at script level, with no variable
abbrev pub start : ℕ → List Act → St
start steps journal = record {
  vars = [];
  self = None;
  fuel = steps;
  begun = 0;
  next = 1;
  output = [];
  read = [];
  journal = journal;
}

-- how it ended, what it printed, its acts, each with the number of beginnings, and how many expressions began
pub record Run : Type 0 where
  pub outcome : Outcome
  pub output : List ℕ
  pub acts : List (ℕ × Act)
  pub begun : ℕ

abbrev pub ended : Outcome → St → List Act → Option Run
ended o s [] = Some (record { outcome = o; output = s.output; acts = s.read; begun = s.begun })
ended o s (e ∷ rest) = None

-- there is a run where the journal is read to its end
abbrev pub run_of : Answer → Option Run
run_of Lost = None
run_of (Done v s) = ended (outcome.Done v) s s.journal
run_of (Halt e id s) = ended (outcome.Stopped e (record { 0 = id })) s s.journal

-- the run of a block, with so many steps
abbrev pub script_run : Table → List Name → Calls → (block steps : ℕ) → List Act → Option Run
script_run t names call block steps journal = run_of (ev t names call (tree_at t block) (start steps journal))

abbrev pub is_call : Act → Bool
is_call (Call key q site args verdict) = true
is_call _ = false

abbrev pub same_way : By → By → Bool
same_way by.Own by.Own = true
same_way by.Shared by.Shared = true
same_way by.Fresh by.Fresh = true
same_way _ _ = false

abbrev pub enters : By → Verdict → Bool
enters way (Enter found) = same_way way found
enters way _ = false

abbrev pub is_entered : By → Act → Bool
is_entered way (Call key q site args verdict) = enters way verdict
is_entered way _ = false

-- how many calls were decided, and how many of them entered by each way
abbrev pub calls_in : Run → ℕ
calls_in run = count_by (λ e. is_call e.1) run.acts

abbrev pub entered_in : By → Run → ℕ
entered_in way run = count_by (λ e. is_entered way e.1) run.acts
