-- What a program comes to of which the derivations are wanted: the bundle of its text and of those that its run made.
use Rattle.std.specs.Prelude.{◌≡◌, ℕ, List, [], ◌∷◌, Some, false, length, map}
use Rattle.hb_tree.specs.Table.{Table}
use Rattle.hb_deriv.specs.Derivation.{content_of}
use Rattle.hb_deriv.specs.declared.raw.Derivation.{Derivation}
use Rattle.hb_names.specs.Names.{Name}
use Rattle.hb_tables.specs.declared.entry.Entry.{Entry}
use Rattle.hb_eval.specs.Told.{Told}
use Rattle.hb_turns.specs.Collecting.{Collects}
use Rattle.hb_bundle.specs.Bundle.{bundle_of}
use Rattle.hb_jobs.specs.Jobs.{Options}
use Rattle.hb_jobs.specs.declared.options.TheConstants.{CHANGES_MAX, STEPS_SEEN_MAX}
use Rattle.hb_top.specs.Outcomes.{Outcome}
use Rattle.hb_top.specs.Reports.{Ran, ending_of}

-- its scripts run one after another, since the first one's turn comes first
abbrev pub derive_options : Options
derive_options = record { order = Some (1 ∷ []); trace = false; steps = STEPS_SEEN_MAX; changes = CHANGES_MAX }

-- the bundle of these derivations is due, and all of the text was taken
abbrev pub derived : Table → (text : List ℕ) → List Told → List Derivation → Outcome
derived t text runs made = record { ending = ending_of runs; text = bundle_of text t (map content_of made); takes = length text }

-- the derivations are those that the program's run made, in the order of its history
pub record IsDerived (t : Table) (text : List ℕ) (o : Outcome) : Type 0 where
  pub names : List Name
  pub log : List Entry
  pub runs : List Told
  pub ran : Ran t derive_options names log runs
  pub made : List Derivation
  pub collects : Collects t names [] log (Some []) (Some made)
  pub same : o ≡ derived t text runs made
