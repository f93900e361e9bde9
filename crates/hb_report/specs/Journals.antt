-- A history caller by caller.
use Rattle.std.specs.Prelude.{ℕ, zero, suc, List, [], ◌++◌, Option, Some, None}
use Rattle.std.specs.Global.{Vec}
use Rattle.std.specs.List.{flat_map}
use Rattle.hb_tables.specs.declared.entry.Entry.{Entry}
use Rattle.hb_tables.specs.History.{journal}
use Rattle.hb_eval.specs.declared.script_run.ScriptRun.{ScriptRun}

-- the entries of so many callers, from the setup's on, each caller's in the order of the history
abbrev pub journals : ℕ → List Entry → List Entry
journals zero log = []
journals (suc n) log = journals n log ++ journal n log

abbrev pub entries_or_none : Option (Vec Entry) → List Entry
entries_or_none None = []
entries_or_none (Some entries) = entries.items

-- what a run kept of its caller's entries
abbrev pub kept : ScriptRun → List Entry
kept run = entries_or_none run.journal

-- what these runs kept, one run's behind the other's
abbrev pub kept_in : List ScriptRun → List Entry
kept_in runs = flat_map kept runs
