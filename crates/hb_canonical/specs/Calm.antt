-- Deeds whose parentheses stand only where an expression may begin, or where no argument lies on top.
use Rattle.std.specs.Prelude.{◌≡◌, List, [], ◌∷◌, Bool, true, false, ◌||◌, ◌&&◌, if◌then◌else◌}
use Rattle.hb_grammar.specs.declared.actions.Action.{Action}
use Rattle.hb_grammar.specs.declared.actions.Action.TheVariants as a
use Rattle.hb_canonical.specs.Deeds.{Deed}

abbrev pub is_open : Action → Bool
is_open a.Open = true
is_open _ = false

-- an expression begins with this action, which asks whether it is an argument too many
abbrev pub begins_one : Action → Bool
begins_one a.OpenWord = true
begins_one a.HoldStr = true
begins_one a.HoldDeclare = true
begins_one a.HoldName = true
begins_one a.HoldClass = true
begins_one a.PutNil = true
begins_one (a.PutBoolean b) = true
begins_one a.PutSelf = true
begins_one a.PutNumber = true
begins_one a.PutText = true
begins_one _ = false

-- an expression begins here, in parentheses or in none
abbrev pub begins : List Deed → Bool
begins [] = false
begins (d ∷ ds) = begins_one d.action || (is_open d.action && begins ds)

-- what this action leaves on top is no argument
abbrev pub is_other : Action → Bool
is_other a.HoldStr = true
is_other a.HoldCall = true
is_other a.HoldClass = true
is_other a.NameMethod = true
is_other a.ComputeMethod = true
is_other _ = false

-- Each parenthesis opens directly behind such an action, or an expression begins there. So it opens nowhere where an
-- expression would be an argument too many.
abbrev pub IsCalmBehind : Bool → List Deed → Type 0
IsCalmBehind other [] = Unit {0}
IsCalmBehind other (d ∷ ds) = ((if is_open d.action then other || begins ds else true) ≡ true) × IsCalmBehind (is_other d.action) ds

abbrev pub IsCalm : List Deed → Type 0
IsCalm ds = IsCalmBehind false ds
