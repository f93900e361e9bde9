-- How many runs a program has.
use Rattle.std.proofs.Common.{◌≡◌, ◌≤◌, ◌+◌, ℕ, suc, List, [], ◌∷◌, Bool, true, false, length, Some, None, refl, ap, arith}
use Rattle.std.specs.declared.option.Option.{Option}
use Rattle.hb_types.specs.declared.ids.NameId.{NameId}
use Rattle.hb_types.specs.declared.ids.NodeId.{NodeId}
use Rattle.hb_tree.specs.Table.{Table}
use Rattle.hb_tree.specs.Program.{IsProgram}
use Rattle.hb_names.specs.Names.{Name}
use Rattle.hb_tables.specs.declared.entry.Entry.{Entry}
use Rattle.hb_eval.specs.Told.{Told, is_done}
use Rattle.hb_run.specs.History.{AreAllRuns, AreRuns, IsHistory, RunBehind, callers_from}

scripts_few : (t : Table) (names : List Name) (steps : ℕ) (log : List Entry) (c : ℕ) (scripts : List (NameId × NodeId)) (runs : List Told)
    → AreRuns t names steps log (callers_from c scripts) runs → length runs ≡ length scripts
scripts_few t names steps log c [] [] ran = refl
scripts_few t names steps log c [] (r ∷ rs) ran = absurd ran
scripts_few t names steps log c (s ∷ ss) [] ran = absurd ran
scripts_few t names steps log c (s ∷ ss) (r ∷ rs) ran = let rest = scripts_few t names steps log (suc c) ss rs ran.1 in omega (arith, rest)

behind_few : (t : Table) (names : List Name) (steps : ℕ) (log : List Entry) (done : Bool) (runs : List Told) → RunBehind t names steps log done runs → length runs ≤ length t.scripts
behind_few t names steps log true runs ran = let same = scripts_few t names steps log 1 t.scripts runs ran in omega (arith, same)
behind_few t names steps log false runs ran = let none = ap length ran.0 in omega (arith, none)

all_few : (t : Table) (names : List Name) (steps : ℕ) (log : List Entry) (setup : Option NodeId) (runs : List Told) → AreAllRuns t names steps log setup runs → length runs ≤ 1 + length t.scripts
all_few t names steps log None runs ran = let same = scripts_few t names steps log 1 t.scripts runs ran in omega (arith, same)
all_few t names steps log (Some block) [] ran = absurd ran
all_few t names steps log (Some block) (r ∷ rs) ran = let rest = behind_few t names steps log (is_done r.outcome) rs ran.1 in omega (arith, rest)

-- the setup and the scripts are at most 17
pub few_runs : (t : Table) (limit steps : ℕ) (names : List Name) (log : List Entry) (runs : List Told) → IsProgram t → IsHistory t limit steps names log runs → length runs ≤ 17
few_runs t limit steps names log runs is history = let few = all_few t names steps log t.setup runs history.all_runs in let scripts = is.scripts in omega (arith, few, scripts)
