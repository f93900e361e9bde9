-- How the machine enters into a call.
use Rattle.std.specs.Prelude.{◌≡◌, ℕ, ◌+◌, ◌-◌, List, [], ◌∷◌, Bool, true, false, Option, Some, None, if◌then◌else◌}
use Rattle.hb_names.specs.Names.{Name, place, with_name, IsFull}
use Rattle.hb_types.specs.declared.ids.ClassId.{ClassId}
use Rattle.hb_tree.specs.declared.parts.Body.{Body}
use Rattle.hb_tree.specs.Nodes.{params_of}
use Rattle.hb_tables.specs.declared.{entry.By.By, entry.Verdict.Verdict}
use Rattle.hb_tables.specs.declared.entry.By.TheVariants as by
use Rattle.hb_tables.specs.declared.entry.Verdict.TheVariants as verdict
use Rattle.hb_call.specs.declared.frame.Frame.{Frame}
use Rattle.hb_eval.specs.declared.{state.State.State, value.Value.Value, stop.Stop.Stop}
use Rattle.hb_eval.specs.declared.stop.Stop.TheVariants as stop
use Rattle.hb_eval.specs.State.{St, Answer, Lost}
use Rattle.hb_eval.specs.{Calls.bindings, Calls.leave, Runs.same_way, Machine.World, Machine.meaning, Stacks.holds_of}

-- a call whose receiver and arguments these are
abbrev pub calling : World → (room id m : ℕ) → List Value → St → Answer
calling w room id m [] s = Lost
calling w room id m (v ∷ vs) s = w.calls room id v m vs s

-- a call that entered, whose receiver and arguments these are
abbrev pub entered : World → (room : ℕ) → Frame → ClassId → Body → List Value → St → Answer
entered w room f c b [] s = Lost
entered w room f c b (v ∷ vs) s =
    leave f.q.0 (holds_of f.held.items) s.vars s.self (meaning w (room - 1) b.block.0 (record s { vars = bindings (params_of b) vs; self = Some c }))

-- one more of those that enter one way, where this is the way
abbrev pub with_entry : (way found : By) → ℕ → ℕ
with_entry way found n = if same_way way found then n + 1 else n

-- a call that entered this way was counted
abbrev pub counted : By → State → State
counted way x = record x { made = x.made + 1; decided = x.decided + 1; own = with_entry by.Own way x.own; fresh = with_entry by.Fresh way x.fresh }

-- why a script stops at a call that was decided, where its body does not run
abbrev pub refusal : Verdict → Option Stop
refusal (verdict.Enter way) = None
refusal verdict.NoBody = Some stop.NoBody
refusal verdict.NoType = Some stop.NoType
refusal verdict.BadArgs = Some stop.BadArgs
refusal (verdict.IllTyped ill) = Some (stop.IllTyped ill)

-- the name has a place, or the names are as many as may be and it is none of them
abbrev pub IsPlaced : Bool → List Name → Name → Type 0
IsPlaced true names name = (key : ℕ) × (place names name ≡ Some key)
IsPlaced false names name = IsFull names name

abbrev pub asked_again : Bool → List Name → Name → List Name
asked_again true asked name = with_name asked name
asked_again false asked name = asked
