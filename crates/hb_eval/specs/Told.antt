-- What is told of a run.
use Rattle.std.specs.Prelude.{ℕ, List, Bool, true, false}
use Rattle.hb_tables.specs.declared.entry.By.TheVariants as by
use Rattle.hb_eval.specs.declared.{script_run.ScriptRun.ScriptRun, stop.Outcome.Outcome}
use Rattle.hb_eval.specs.declared.stop.Outcome.TheVariants as outcome
use Rattle.hb_eval.specs.Runs.{Run, calls_in, entered_in}

-- whose run it is, how it ended, what it printed, how many calls were decided, and how many of them entered by each way
pub record Told : Type 0 where
  pub caller : ℕ
  pub outcome : Outcome
  pub output : List ℕ
  pub calls : ℕ
  pub own : ℕ
  pub shared : ℕ
  pub fresh : ℕ

-- what is to be told of the caller's run against its journal
abbrev pub told : ℕ → Run → Told
told c run = record {
  caller = c;
  outcome = run.outcome;
  output = run.output;
  calls = calls_in run;
  own = entered_in by.Own run;
  shared = entered_in by.Shared run;
  fresh = entered_in by.Fresh run;
}

-- what the code's record tells
abbrev pub told_by : ScriptRun → Told
told_by r = record {
  caller = r.caller.0;
  outcome = r.outcome;
  output = r.output.items;
  calls = r.calls;
  own = r.own;
  shared = r.shared;
  fresh = r.fresh;
}

-- the run came to its end
abbrev pub is_done : Outcome → Bool
is_done (outcome.Done v) = true
is_done (outcome.Stopped e id) = false
