-- What the generated text of a size comes to: a line of how many calls its scripts made.
use Rattle.std.specs.Prelude.{◌≡◌, ℕ, List, ◌++◌, None, false, length, sum_by, codes, decimal}
use Rattle.hb_tree.specs.Table.{Table}
use Rattle.hb_names.specs.Names.{Name}
use Rattle.hb_tables.specs.declared.entry.Entry.{Entry}
use Rattle.hb_eval.specs.Told.{Told}
use Rattle.hb_jobs.specs.Jobs.{Options}
use Rattle.hb_jobs.specs.declared.options.TheConstants.{CHANGES_MAX}
use Rattle.hb_top.specs.Outcomes.{Outcome}
use Rattle.hb_top.specs.Reports.{Ran, ending_of}
use Rattle.hb_top.specs.declared.work.Counted.{Counted}
use Rattle.hb_top.specs.declared.work.Counted.TheVariants as counted
use Rattle.hb_top.specs.declared.work.TheConstants.{WORK_STEPS}

-- its scripts run at once, and none is traced
abbrev pub work_options : Options
work_options = record { order = None; trace = false; steps = WORK_STEPS; changes = CHANGES_MAX }

-- how many calls of a run were decided, or entered by this way
abbrev pub count_of : Counted → Told → ℕ
count_of counted.Calls r = r.calls
count_of counted.Own r = r.own
count_of counted.Shared r = r.shared
count_of counted.Fresh r = r.fresh

abbrev pub total_of : Counted → List Told → ℕ
total_of what runs = sum_by (count_of what) runs

abbrev pub head_of : (size scripts : ℕ) → List ℕ
head_of size scripts = codes "work " ++ decimal size ++ codes " scripts " ++ decimal scripts ++ codes " "

abbrev pub calls_text : (calls own : ℕ) → List ℕ
calls_text calls own = codes "calls " ++ decimal calls ++ codes " own " ++ decimal own

abbrev pub others_text : (shared fresh : ℕ) → List ℕ
others_text shared fresh = codes " shared " ++ decimal shared ++ codes " fresh " ++ decimal fresh ++ codes "\n"

-- how many scripts there are, and the sums over them, however they ended
abbrev pub work_line : ℕ → List Told → List ℕ
work_line size runs =
    head_of size (length runs) ++ calls_text (total_of counted.Calls runs) (total_of counted.Own runs)
    ++ others_text (total_of counted.Shared runs) (total_of counted.Fresh runs)

-- the line is due, and nothing of the source was taken
abbrev pub worked : ℕ → List Told → Outcome
worked size runs = record { ending = ending_of runs; text = work_line size runs; takes = 0 }

-- the line is that of the program's runs
pub record IsWorked (size : ℕ) (t : Table) (o : Outcome) : Type 0 where
  pub names : List Name
  pub log : List Entry
  pub runs : List Told
  pub ran : Ran t work_options names log runs
  pub same : o ≡ worked size runs
