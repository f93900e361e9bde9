-- What a history of a program says of its calls.
use Rattle.std.specs.Prelude.{◌≡◌, ◌↔◌, ℕ, List, ◌∷◌, ◌++◌, Some}
use Rattle.std.specs.List.{AllByRecursion}
use Rattle.hb_types.specs.declared.ids.KeyId.{KeyId}
use Rattle.hb_types.specs.declared.ids.NodeId.{NodeId}
use Rattle.hb_types.specs.declared.ids.TypeSite.{TypeSite}
use Rattle.hb_tree.specs.Table.{Table}
use Rattle.hb_tree.specs.TreeAt.{tree_at}
use Rattle.hb_deriv.specs.Judgement.{IsJudged}
use Rattle.hb_names.specs.Names.{Name, place}
use Rattle.hb_tables.specs.declared.entry.Act.{Act}
use Rattle.hb_tables.specs.declared.entry.Act.TheVariants.{Retype, Call}
use Rattle.hb_tables.specs.declared.entry.By.{By}
use Rattle.hb_tables.specs.declared.entry.Entry.{Entry}
use Rattle.hb_tables.specs.declared.entry.Verdict.{Verdict}
use Rattle.hb_tables.specs.declared.entry.Verdict.TheVariants as verdict
use Rattle.hb_tables.specs.History.{entry, spot, times, Every}
use Rattle.hb_tables.specs.Frames.{acts, StaysLive}
use Rattle.hb_tables.specs.Rows.{body_at, kinds_of, type_of_key, types_in}
use Rattle.hb_tables.specs.Verdicts.{Reaches}
use Rattle.hb_eval.specs.Told.{Told}
use Rattle.hb_eval.specs.declared.stop.Outcome.TheVariants.{Stopped}
use Rattle.hb_eval.specs.declared.stop.Stop.{Stop}
use Rattle.hb_sound.specs.Scripts.{EndsWell, IsInBody}
use Rattle.hb_sound.specs.Sound.{IsNamed}
use Rattle.hb_run.specs.History.{block_of}

-- the verdict enters the body
abbrev pub DoesEnter : Verdict → Type 0
DoesEnter v = (way : By) × (v ≡ verdict.Enter way)

-- A call enters its body exactly where a fresh check succeeds in the tables at its place: its method has a definition and a type there, takes the arguments, and the body is judged.
abbrev pub EntersRightly : Table → List Name → List Entry → Act → Type 0
EntersRightly t names before (Call key q site args v) = (name : Name) × (place names name ≡ Some key.0) × (site ≡ (spot key.0 before).body)
    × (DoesEnter v ↔ Reaches (IsJudged (types_in t names before)) t name.0 (body_at t site) (type_of_key t before key.0) (kinds_of args))
EntersRightly t names before _ = Unit {0}

-- While a frame is live, the types of the keys that its call holds are not changed.
abbrev pub KeepsTypes : List Entry → Type 0
KeepsTypes log = (c q k d : ℕ) (before rest after : List Entry) (key : KeyId) (site : TypeSite)
    → log ≡ (before ++ rest) ++ entry d (Retype key site) ∷ after → StaysLive q (acts c rest) → times (c, q) (spot k before).calls ≡ 1 → key.0 ≡ k → ⊥

-- A run stops for a named cause, or at a node of its own block.
abbrev pub StopsRightly : Table → Told → Type 0
StopsRightly t r = (block : NodeId) → block_of t r.caller ≡ Some block → EndsWell (tree_at t block.0) r.outcome

-- A run that stops at a node of an expression in a definition's body stops for a named cause.
abbrev pub StopsInBodies : Table → Told → Type 0
StopsInBodies t r = (e : Stop) (id : NodeId) → r.outcome ≡ Stopped e id → IsInBody t id.0 → IsNamed e

-- What is promised of each history: of its calls, of the types that live frames use, and of how its runs end.
pub record KeepsPromise (t : Table) (names : List Name) (log : List Entry) (runs : List Told) : Type 0 where
  pub enters : Every (λ before e. EntersRightly t names before e.act) log
  pub keeps : KeepsTypes log
  pub stops : AllByRecursion (StopsRightly t) runs
