-- What a program comes to: the report of its runs, and their trace where it is wanted.
use Rattle.std.specs.Prelude.{◌≡◌, ◌≤◌, ℕ, ◌+◌, List, [], ◌++◌, length, Option, Some, None, if◌then◌else◌}
use Rattle.std.specs.List.{AllByRecursion, list_all}
use Rattle.hb_tree.specs.Table.{Table}
use Rattle.hb_names.specs.Names.{Name}
use Rattle.hb_tables.specs.declared.entry.Entry.{Entry}
use Rattle.hb_call.specs.Held.{stands}
use Rattle.hb_eval.specs.Told.{Told, is_done}
use Rattle.hb_run.specs.Headline.{KeepsPromise, StopsInBodies}
use Rattle.hb_run.specs.History.{IsHistory}
use Rattle.hb_turns.specs.Players.{IsOrdered}
use Rattle.hb_report.specs.Report.{report_of}
use Rattle.hb_report.specs.Journals.{journals}
use Rattle.hb_report.specs.Trace.{trace_of}
use Rattle.hb_jobs.specs.Jobs.{Options}
use Rattle.hb_top.specs.Outcomes.{Outcome}
use Rattle.hb_top.specs.declared.due.Ending.{Ending}
use Rattle.hb_top.specs.declared.due.Ending.TheVariants.{Done, Stopped}

-- done where each run is
abbrev pub ending_of : List Told → Ending
ending_of runs = if list_all (λ r. is_done r.outcome) runs then Done else Stopped

-- the trace of a history: in its order where an order of turns was given, and else caller by caller
abbrev pub trace_by : Table → Option (List ℕ) → List Name → List Entry → List ℕ
trace_by t None names log = trace_of t names (journals (length t.scripts + 1) log)
trace_by t (Some order) names log = trace_of t names log

-- the trace, where it is wanted
abbrev pub traced : Table → Options → List Name → List Entry → List ℕ
traced t options names log = if options.trace then trace_by t options.order names log else []

-- the report of these runs is due, with their trace where it is wanted, and all of a text of this length was taken
abbrev pub reported : Table → Options → List Name → List Entry → List Told → ℕ → Outcome
reported t options names log runs len = record { ending = ending_of runs; text = report_of t runs ++ traced t options names log; takes = len }

abbrev pub order_or : Option (List ℕ) → List ℕ
order_or None = []
order_or (Some order) = order

-- the scripts whose turns come first
abbrev pub order_or_none : Options → List ℕ
order_or_none options = order_or options.order

-- whose turns they are is fixed: by an order that was given, or since there is one script at most
abbrev pub AreFixed : Table → Option (List ℕ) → Type 0
AreFixed t None = length t.scripts ≤ 1
AreFixed t (Some order) = Unit {0}

-- The program has these runs against one legal history, which holds each of their table calls once. Where the turns are fixed it is the one that they fix. Each call enters exactly where a fresh check succeeds, no type that a live frame uses is changed, a stop at a node in a definition's body is for a named cause, and in the end nobody holds anything.
pub record Ran (t : Table) (options : Options) (names : List Name) (log : List Entry) (runs : List Told) : Type 0 where
  pub history : IsHistory t options.changes options.steps names log runs
  pub in_order : AreFixed t options.order → IsOrdered t options.changes options.steps (order_or_none options) names log runs
  pub promise : KeepsPromise t names log runs
  pub bodies : AllByRecursion (StopsInBodies t) runs
  pub free : (c q : ℕ) → stands c q log ≡ []

-- the report is that of the program's runs
pub record IsReported (t : Table) (options : Options) (len : ℕ) (o : Outcome) : Type 0 where
  pub names : List Name
  pub log : List Entry
  pub runs : List Told
  pub ran : Ran t options names log runs
  pub same : o ≡ reported t options names log runs len
