-- What callers come to, each over a front of its own, and how that is put together.
use Rattle.std.specs.Prelude.{◌≡◌, ◌⊎◌, ℕ, suc, ◌≤◌, List, [], ◌∷◌, ◌++◌, length, Contains, Bool, true, false, Option, Some, None}
use Rattle.std.specs.Option.{option_map}
use mathlib.Core.List.{IsPrefix}
use Rattle.hb_types.specs.declared.ids.NodeId.{NodeId}
use Rattle.hb_types.specs.declared.ids.NameId.{NameId}
use Rattle.hb_tree.specs.Table.{Table}
use Rattle.hb_names.specs.declared.names.TheConstants.{NAMES_MAX}
use Rattle.hb_names.specs.Names.{Name, Differ}
use Rattle.hb_tables.specs.declared.entry.Entry.{Entry}
use Rattle.hb_tables.specs.Frames.{acts}
use Rattle.hb_tables.specs.History.{IsLegal}
use Rattle.hb_tables.specs.Plain.{AreOwn}
use Rattle.hb_call.specs.Growth.{asked_after}
use Rattle.hb_call.specs.Rules.{EntersBy, FitsRules}
use Rattle.hb_eval.specs.Calls.{call_in}
use Rattle.hb_eval.specs.Noting.{journal_of}
use Rattle.hb_eval.specs.Runs.{Run, script_run}
use Rattle.hb_eval.specs.Told.{Told, is_done, told}
use Rattle.hb_eval.specs.declared.script_run.ScriptRun.{ScriptRun}
use Rattle.hb_run.specs.History.{block_of}

-- What a caller knows in the end: entries, names, and the names that it asked for itself.
pub record View : Type 0 where
  pub front : List Entry
  pub known : List Name
  pub asked : List Name

-- each of the caller's own entries stands in this relation to the entries before it
abbrev pub EachOwn : (List Entry → Entry → Type 0) → ℕ → List Entry → Type 0
EachOwn F c log = (before after : List Entry) (e : Entry) → log ≡ before ++ e ∷ after → e.caller.0 ≡ c → F before e

-- The caller ran its block to its end, and this is told of it. Each of its acts fits the rules and enters by the right check, the names that it asked for are those of its acts, and the run reads just these acts, for the names that it knows and for each longer list.
pub record IsExit (t : Table) (steps c : ℕ) (v : View) (r : Told) : Type 0 where
  pub block : NodeId
  pub runs : block_of t c ≡ Some block
  pub rules : EachOwn (λ before e. FitsRules t v.known c before e.act) c v.front
  pub ways : EachOwn (λ before e. EntersBy c [] before e.act) c v.front
  pub names : (names : List Name) → IsPrefix v.known names → v.asked ≡ asked_after names [] (acts c v.front)
  pub run : (names : List Name) → IsPrefix v.known names → length names ≤ NAMES_MAX
      → (run : Run) × (script_run t names (call_in t names 4096) block.0 steps (acts c v.front) ≡ Some run) × (r ≡ told c run)

-- The run has its caller's entries, where they are kept.
abbrev pub HasJournal : (keep : Bool) → List Entry → ScriptRun → Type 0
HasJournal keep log r = option_map (λ v. v.items) r.journal ≡ journal_of keep r.caller (acts r.caller.0 log)

-- the callers of these scripts, from this one on, came to these ends
abbrev pub AreExits : Table → (steps c : ℕ) → List (NameId × NodeId) → List View → List Told → Type 0
AreExits t steps c [] [] [] = Unit {0}
AreExits t steps c (s ∷ ss) (v ∷ vs) (r ∷ rs) = IsExit t steps c v r × AreExits t steps (suc c) ss vs rs
AreExits t steps c _ _ _ = ⊥

-- behind a setup that is done each script came to an end, and behind one that stopped there is none
abbrev pub ExitsBehind : Table → (steps : ℕ) → (setup_done : Bool) → List View → List Told → Type 0
ExitsBehind t steps true vs rs = AreExits t steps 1 t.scripts vs rs
ExitsBehind t steps false vs rs = (vs ≡ []) × (rs ≡ [])

-- Without a setup the caller 0 did nothing, and the scripts came to their ends. A setup ran before them: what it knew had its own entries alone.
abbrev pub AreAllExits : Table → (steps : ℕ) → (setup : Option NodeId) → (first : View) → (others : List View) → List Told → Type 0
AreAllExits t steps None first vs rs = (acts 0 first.front ≡ []) × (first.asked ≡ []) × AreExits t steps 1 t.scripts vs rs
AreAllExits t steps (Some block) first vs [] = ⊥
AreAllExits t steps (Some block) first vs (r ∷ rs) = IsExit t steps 0 first r × AreOwn 0 first.front × ExitsBehind t steps (is_done r.outcome) vs rs

-- The caller's front begins the list and has all of its acts, and its names begin the list of names.
pub record IsPart (names : List Name) (log : List Entry) (c : ℕ) (v : View) : Type 0 where
  pub begins : IsPrefix v.front log
  pub whole : acts c log ≡ acts c v.front
  pub known : IsPrefix v.known names

-- these are the parts of the callers from this one on, and no other of them has an act
abbrev pub AreParts : List Name → List Entry → (c : ℕ) → List View → Type 0
AreParts names log c [] = (d : ℕ) → c ≤ d → acts d log ≡ []
AreParts names log c (v ∷ vs) = IsPart names log c v × AreParts names log (suc c) vs

-- one of these asked for the name
abbrev pub WasAsked : Name → List View → Type 0
WasAsked name [] = ⊥
WasAsked name (v ∷ vs) = Contains v.asked name ⊎ WasAsked name vs

-- What the callers from 0 on know was put together: one legal list of entries, and one of names, each of which one of them asked for.
pub record IsJoined (limit : ℕ) (names : List Name) (log : List Entry) (views : List View) : Type 0 where
  pub legal : IsLegal limit log
  pub parts : AreParts names log 0 views
  pub differ : Differ names
  pub few : length names ≤ NAMES_MAX
  pub asked : (name : Name) → Contains names name → WasAsked name views
