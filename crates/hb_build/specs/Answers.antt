-- How a builder answers an action.
use Rattle.std.specs.Prelude.{◌≡◌, ◌⊎◌, ℕ, ◌+◌, ◌<◌, ◌^◌, List, length, Result, Ok, Err}
use Rattle.hb_grammar.specs.declared.actions.Action.{Action}
use Rattle.hb_build.specs.declared.{builder.Builder.Builder, faults.ParseFail.ParseFail, held.Spot.Spot}
use Rattle.hb_build.specs.declared.faults.ParseFail.TheVariants as fail
use Rattle.hb_build.specs.Acts.{Answer, Goes, Fails, Lost, act}
use Rattle.hb_build.specs.Sound.{IsSound, work_of}

-- the builder stands for what the action leads to, or tells its fault; memory may run out
abbrev pub Answers : {X : Type 0} → Answer → Result X ParseFail → Builder → Type 0
Answers answer (Ok done) new = (answer ≡ Goes (work_of new)) × IsSound new
Answers answer (Err fault) new = (answer ≡ Fails fault) ⊎ (fault ≡ fail.NoMemory)

-- the action fits what is not yet used
abbrev pub FitsTo : Action → Spot → List ℕ → Builder → Type 0
FitsTo a spot bytes b = IsSound b × (act a spot bytes (work_of b) ≡ Lost → ⊥)

-- one name more can be numbered
abbrev pub HasNameRoom : Builder → Type 0
HasNameRoom b = length b.draft.table.names + 1 < 2 ^ 32

-- a place and bytes for an action that looks at neither
abbrev pub nowhere : Spot
nowhere = record { at = 0; line = 1; column = 1 }
