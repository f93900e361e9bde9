-- The history of a program, and the runs of its setup and its scripts against it.
use Rattle.std.specs.Prelude.{◌≡◌, ℕ, zero, suc, ◌<◌, ◌≤◌, List, [], ◌∷◌, ◌++◌, length, slice_get, All, Bool, true, false, Option, Some, None, IsSome}
use Rattle.std.specs.Option.{option_map}
use Rattle.hb_types.specs.declared.{ids.NodeId.NodeId, ids.NameId.NameId}
use Rattle.hb_tree.specs.Table.{Table}
use Rattle.hb_names.specs.declared.names.TheConstants.{NAMES_MAX}
use Rattle.hb_names.specs.Names.{Name, Differ}
use Rattle.hb_tables.specs.declared.entry.Entry.{Entry}
use Rattle.hb_tables.specs.Frames.{acts}
use Rattle.hb_tables.specs.History.{key_of, Every, IsLegal}
use Rattle.hb_call.specs.Rules.{EntersBy, FitsRules}
use Rattle.hb_eval.specs.Calls.{call_in}
use Rattle.hb_eval.specs.Runs.{Run, script_run}
use Rattle.hb_eval.specs.Told.{Told, is_done, told}

-- the block that a caller runs: the caller 0 the setup's, and the caller i that of the i-th script
abbrev pub block_of : Table → ℕ → Option NodeId
block_of t zero = t.setup
block_of t (suc i) = option_map (λ s. s.1) (slice_get t.scripts i)

-- This is told of the caller's run. It reads the acts that the history has of the caller, and all of them.
pub record IsRunOf (t : Table) (names : List Name) (steps : ℕ) (log : List Entry) (c : ℕ) (r : Told) : Type 0 where
  pub block : NodeId
  pub runs : block_of t c ≡ Some block
  pub run : Run
  pub reads : script_run t names (call_in t names 4096) block.0 steps (acts c log) ≡ Some run
  pub tells : r ≡ told c run

-- these are the runs of these callers, in their order
abbrev pub AreRuns : Table → List Name → (steps : ℕ) → List Entry → List ℕ → List Told → Type 0
AreRuns t names steps log [] [] = Unit {0}
AreRuns t names steps log (c ∷ cs) (r ∷ rs) = IsRunOf t names steps log c r × AreRuns t names steps log cs rs
AreRuns t names steps log _ _ = ⊥

-- the callers of so many scripts, from this one on
abbrev pub callers_from : ℕ → List (NameId × NodeId) → List ℕ
callers_from c [] = []
callers_from c (s ∷ ss) = c ∷ callers_from (suc c) ss

-- behind a setup that is done each script runs, and behind one that stopped nothing does
abbrev pub RunBehind : Table → List Name → (steps : ℕ) → List Entry → (setup_done : Bool) → List Told → Type 0
RunBehind t names steps log true rs = AreRuns t names steps log (callers_from 1 t.scripts) rs
RunBehind t names steps log false rs = (rs ≡ []) × Every (λ before e. e.caller.0 ≡ 0) log

-- the runs of the whole program: the setup's, where there is one, and then the scripts'
abbrev pub AreAllRuns : Table → List Name → (steps : ℕ) → List Entry → Option NodeId → List Told → Type 0
AreAllRuns t names steps log None rs = AreRuns t names steps log (callers_from 1 t.scripts) rs
AreAllRuns t names steps log (Some block) [] = ⊥
AreAllRuns t names steps log (Some block) (r ∷ rs) = IsRunOf t names steps log 0 r × RunBehind t names steps log (is_done r.outcome) rs

-- the entry is of the setup, where there is one, or of a script
abbrev pub HasCaller : Table → Entry → Type 0
HasCaller t e = IsSome (block_of t e.caller.0)

-- an entry of the setup stands behind none of a script
abbrev pub IsInTurn : List Entry → Entry → Type 0
IsInTurn before e = e.caller.0 ≡ 0 → All (λ b. b.caller.0 ≡ 0) before

-- the name is that of some entry's key
abbrev pub IsUsed : List Name → List Entry → ℕ → Type 0
IsUsed names log key = (before : List Entry) × (after : List Entry) × (e : Entry) × (log ≡ before ++ e ∷ after) × (key_of e.act ≡ key)

-- One history of the whole program, for a limit of changes, a number of steps and a list of names. Each table call of each script stands in it once: a script's run reads its own acts, and all of them.
pub record IsHistory (t : Table) (limit steps : ℕ) (names : List Name) (log : List Entry) (runs : List Told) : Type 0 where
  pub legal : IsLegal limit log
  pub rules : Every (λ before e. FitsRules t names e.caller.0 before e.act) log
  pub ways : Every (λ before e. EntersBy e.caller.0 [] before e.act) log
  pub differ : Differ names
  pub few : length names ≤ NAMES_MAX
  pub keys : Every (λ before e. key_of e.act < length names) log
  pub used : (key : ℕ) → key < length names → IsUsed names log key
  pub callers : Every (λ before e. HasCaller t e) log
  pub in_turn : Every IsInTurn log
  pub all_runs : AreAllRuns t names steps log t.setup runs
