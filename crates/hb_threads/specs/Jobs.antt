-- Scripts that run at once.
use Rattle.std.specs.Prelude.{◌≡◌, ℕ, suc, ◌<◌, List, [], length, slice_index_or, Option, Some, None}
use Rattle.hb_tree.specs.Table.{Table}
use Rattle.hb_tree.specs.TreeAt.{IsBlockAt}
use Rattle.hb_tables.specs.Frames.{acts}
use Rattle.hb_call.specs.Held.{stands}
use Rattle.hb_eval.specs.declared.script_run.ScriptRun.{ScriptRun}
use Rattle.hb_eval.specs.Told.{told_by}
use Rattle.hb_row.specs.declared.row.NameRow.{NameRow}
use Rattle.hb_row.specs.Seats.{IsSeatOf, asked_by}
use Rattle.hb_run.specs.History.{block_of}
use Rattle.hb_fronts.specs.declared.caller.CallerOptions.{CallerOptions}
use Rattle.hb_fronts.specs.Exits.{HasJournal, IsExit, View}
use Rattle.hb_words.specs.declared.words.MethodWords.{MethodWords}
use Rattle.hb_words.specs.Seats.{IsSeatAt, view_of}
use Rattle.hb_threads.specs.declared.job.Job.{Job}
use Rattle.hb_threads.specs.Seated.{known_at}

-- these are the jobs of the callers from 1 on, and each is so
abbrev pub AreJobs : (Job → Type 0) → List Job → Type 0
AreJobs P jobs = (k : ℕ) (d : Job) → k < length jobs → P (slice_index_or jobs k d) × ((slice_index_or jobs k d).caller.0 ≡ suc k)

-- its seats are those of its caller, one at the words and one of the row
pub record IsSeated (words : MethodWords) (row : NameRow) (j : Job) : Type 0 where
  pub seat : IsSeatAt words j.seat
  pub mine : (view_of j.seat).caller ≡ j.caller.0
  pub names : IsSeatOf row.table.shared.table_id j.names
  pub named : j.names.caller ≡ j.caller.0

-- its caller has a block, has done nothing, and has asked for no name
pub record IsReady (t : Table) (words : MethodWords) (row : NameRow) (j : Job) : Type 0 where
  pub seated : IsSeated words row j
  pub runs : block_of t j.caller.0 ≡ Some j.block
  pub block : IsBlockAt t j.block.0
  pub idle : acts j.caller.0 (view_of j.seat).seen ≡ []
  pub unasked : asked_by j.names ≡ []

abbrev pub job_view : Job → View
job_view j = known_at j.seat j.names

-- the caller is at its exit, unless memory was wanting
abbrev pub IsRunOr : Table → CallerOptions → (c : ℕ) → View → Option ScriptRun → Type 0
IsRunOr t options c v None = Unit {0}
IsRunOr t options c v (Some r) = IsExit t options.steps c v (told_by r) × HasJournal options.keep_journal v.front r

-- its seats are as before, its caller ran, and it holds nothing
pub record HasRun (t : Table) (options : CallerOptions) (words : MethodWords) (row : NameRow) (j : Job) : Type 0 where
  pub seated : IsSeated words row j
  pub run : IsRunOr t options j.caller.0 (job_view j) j.run
  pub free : (q : ℕ) → stands j.caller.0 q (view_of j.seat).seen ≡ []
