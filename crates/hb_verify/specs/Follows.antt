-- How the code follows a walk: its place in the uses and steps is the walk's state.
use Rattle.std.specs.Prelude.{◌≡◌, ◌≤◌, ℕ, List, [], ◌∷◌, ◌++◌, length, take, drop, Option, Some, None, Result, Ok, Err, if◌then◌else◌}
use Rattle.hb_types.specs.declared.ids.TypeSite.{TypeSite}
use Rattle.hb_types.specs.declared.types.Ty.{Ty}
use Rattle.hb_types.specs.Variables.{Variables}
use Rattle.hb_deriv.specs.declared.raw.Used.{Used}
use Rattle.hb_deriv.specs.declared.raw.Step.{Step}
use Rattle.hb_deriv.specs.Judge.{Key}
use Rattle.hb_deriv.specs.Events.{same_key}
use Rattle.hb_deriv.specs.Derivation.{key_of}
use Rattle.hb_deriv.specs.Walk.{State, AtUses, AtStep, Walked, look}
use Rattle.hb_verify.specs.declared.progress.Progress.{Progress}
use Rattle.hb_verify.specs.declared.progress.Stop.{Stop}
use Rattle.hb_verify.specs.declared.progress.Stop.TheVariants as stop
use Rattle.hb_verify.specs.Room.{names_of, Within, HasRoom}

-- no more were taken or passed than there are
pub record IsWithin (uses : List Used) (steps : List Step) (at : Progress) : Type 0 where
  pub taken : at.taken ≤ length uses
  pub passed : at.passed ≤ length steps

-- the walk's state at this place
abbrev pub state_of : List Used → List Step → Progress → State
state_of uses steps at = record { taken = take at.taken uses; left = drop at.taken uses; steps = drop at.passed steps; passed = at.passed }

-- the site of the first use with this key
abbrev pub find : List Used → Key → Option TypeSite
find [] k = None
find (u ∷ uses) k = if same_key (key_of u) k then Some u.site else find uses k

-- a look went so
abbrev pub FindsUse : List Used → List Step → Key → Progress → Progress → Result TypeSite Stop → Type 0
FindsUse uses steps k old new (Ok site) = (look (state_of uses steps old) k ≡ Ok (state_of uses steps new)) × (find (take new.taken uses) k ≡ Some site)
FindsUse uses steps k old new (Err stop.Uses) = look (state_of uses steps old) k ≡ Err (AtUses new.taken)
FindsUse uses steps k old new (Err _) = ⊥

-- the walk has this result, and the place behind it is the walk's
abbrev pub Comes : {X : Type 0} → List Used → List Step → Walked (State × (Variables × X)) → List ℕ → Progress → Result (Variables × X) Stop → Type 0
Comes uses steps walked names new (Ok r) = (walked ≡ Ok (state_of uses steps new, r)) × Within (names_of r.0) names
Comes uses steps walked names new (Err stop.Step) = walked ≡ Err (AtStep new.passed)
Comes uses steps walked names new (Err stop.Uses) = walked ≡ Err (AtUses new.taken)
Comes uses steps walked names new (Err stop.Full) = HasRoom names → ⊥

-- A part was walked over with this result, from these variables; it assigns these names.
pub record Follows {X : Type 0} (uses : List Used) (steps : List Step) (walked : Walked (State × (Variables × X))) (assigned : List ℕ) (G : Variables)
    (new : Progress) (result : Result (Variables × X) Stop) : Type 0 where
  pub comes : Comes uses steps walked (names_of G ++ assigned) new result

-- the result with the variables behind it
abbrev pub with_variables : {X : Type 0} → Variables → Result X Stop → Result (Variables × X) Stop
with_variables G (Ok x) = Ok (G, x)
with_variables G (Err e) = Err e

-- the same, where contracts see the result as a list
abbrev pub with_list : {X : Type 0} → (X → List Ty) → Variables → Result X Stop → Result (Variables × List Ty) Stop
with_list list G (Ok x) = Ok (G, list x)
with_list list G (Err e) = Err e
