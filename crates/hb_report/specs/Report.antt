-- The report of a program's runs: a section for each.
use Rattle.std.specs.Prelude.{ℕ, ◌-◌, List, [], ◌++◌, Bool, true, false, nat_eq, if◌then◌else◌, Option, Some, None, codes, decimal, slice_get}
use Rattle.std.specs.List.{flat_map, list_all}
use Rattle.hb_types.specs.declared.ids.NameId.{NameId}
use Rattle.hb_types.specs.declared.ids.NodeId.{NodeId}
use Rattle.hb_tree.specs.Table.{Table}
use Rattle.hb_tree.specs.Canon.{bytes_at}
use Rattle.hb_eval.specs.declared.stop.Stop.{Stop}
use Rattle.hb_eval.specs.declared.stop.Stop.TheVariants as stop
use Rattle.hb_eval.specs.declared.stop.Outcome.{Outcome}
use Rattle.hb_eval.specs.declared.stop.Outcome.TheVariants as outcome
use Rattle.hb_eval.specs.Told.{Told, is_done}
use Rattle.hb_report.specs.Places.{fault, place}
use Rattle.hb_report.specs.Words.{stop_word}

abbrev pub name_of : Table → Option (NameId × NodeId) → List ℕ
name_of t None = []
name_of t (Some script) = bytes_at t.names script.0.0

-- caller 0 is the setup, and caller i is the i-th script
abbrev pub head_line : Table → ℕ → List ℕ
head_line t caller =
    if nat_eq caller 0
    then codes "setup\n"
    else codes "script " ++ name_of t (slice_get t.scripts (caller - 1)) ++ codes "\n"

-- of a call that does not enter since its body is ill typed
abbrev pub fault_of : Table → Stop → List ℕ
fault_of t (stop.IllTyped ill) = fault t ill
fault_of t _ = []

abbrev pub stop_line : Table → Stop → NodeId → List ℕ
stop_line t e id = codes "stop " ++ stop_word e ++ codes " " ++ place t id.0 ++ fault_of t e ++ codes "\n"

abbrev pub end_line : Table → Outcome → List ℕ
end_line t (outcome.Done v) = codes "done\n"
end_line t (outcome.Stopped e id) = stop_line t e id

abbrev pub count_line : Told → List ℕ
count_line r =
    codes "calls " ++ decimal r.calls ++ codes " own " ++ decimal r.own ++ codes " shared " ++ decimal r.shared
    ++ codes " fresh " ++ decimal r.fresh ++ codes "\n"

-- whose run it is, the lines that it printed, how it ended, and its counts of calls
abbrev pub section : Table → Told → List ℕ
section t r = head_line t r.caller ++ r.output ++ end_line t r.outcome ++ count_line r

abbrev pub report_of : Table → List Told → List ℕ
report_of t runs = flat_map (section t) runs

-- no run stopped
abbrev pub are_done : List Told → Bool
are_done runs = list_all (λ r. is_done r.outcome) runs
