-- What a lookup answered and refused.
use Rattle.std.specs.Prelude.{List, map, Option, Some, None}
use Rattle.hb_check.specs.declared.lookup.LookFail.TheVariants as look
use Rattle.hb_check.specs.Asked.{Asked, Refusal, asked, refusal}
use Rattle.hb_types.specs.declared.{ids.ClassId.ClassId, ids.NameId.NameId}
use Rattle.hb_trials_checks.specs.declared.lookups.OneType.{OneType}

abbrev pub answers_in : OneType → List Asked
answers_in t = map (λ a. asked a.class a.name a.site) t.answers.items

-- memory alone makes it refuse
abbrev pub refusal_from : Option (ClassId × NameId) → Option Refusal
refusal_from None = None
refusal_from (Some k) = Some (refusal k.0 k.1 look.NoMemory)

abbrev pub refusal_in : OneType → Option Refusal
refusal_in t = refusal_from t.refused
