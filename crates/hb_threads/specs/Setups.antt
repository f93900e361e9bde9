-- What the run of a setup comes to.
use Rattle.std.specs.Prelude.{◌≡◌, ℕ, Bool, true, List, [], ◌∷◌, Option, Some, None}
use Rattle.hb_types.specs.declared.ids.NodeId.{NodeId}
use Rattle.hb_tree.specs.Table.{Table}
use Rattle.hb_tables.specs.Frames.{acts}
use Rattle.hb_call.specs.Held.{stands}
use Rattle.hb_eval.specs.declared.script_run.ScriptRun.{ScriptRun}
use Rattle.hb_eval.specs.Told.{is_done, told_by}
use Rattle.hb_fronts.specs.declared.caller.CallerOptions.{CallerOptions}
use Rattle.hb_fronts.specs.Exits.{HasJournal, IsExit, View}

-- The setup's run is there, with its journal where it is kept, and its caller holds nothing, and the scripts run behind it where it is done. Without a setup caller 0 did nothing.
abbrev pub IsSetUp : Table → CallerOptions → Option NodeId → (goes_on : Bool) → View → List ScriptRun → Type 0
IsSetUp t options None goes_on v runs = (goes_on ≡ true) × (runs ≡ []) × (acts 0 v.front ≡ []) × (v.asked ≡ [])
IsSetUp t options (Some block) goes_on v runs = (r : ScriptRun) × (runs ≡ r ∷ []) × (goes_on ≡ is_done r.outcome) × IsExit t options.steps 0 v (told_by r) × HasJournal options.keep_journal v.front r × ((q : ℕ) → stands 0 q v.front ≡ [])
