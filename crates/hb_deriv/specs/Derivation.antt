-- What a derivation says, and what it is to derive a body.
use Rattle.std.specs.Prelude.{◌≡◌, ℕ, List, [], ◌∷◌, map, Option, Some, None, if◌then◌else◌}
use Rattle.hb_types.specs.declared.{types.Ty.Ty, types.MethodTy.MethodTy}
use Rattle.hb_deriv.specs.declared.{raw.Used.Used, raw.Step.Step, raw.RawDerivation.RawDerivation, raw.Derivation.Derivation}
use Rattle.hb_deriv.specs.{Judge.Key, Judge.Types, Judge.Subject, Judgement.IsJudged}
use Rattle.hb_deriv.specs.Events.{Events, Look, Done, events_body, same_key, looks}

-- the class of self, the sites of the body and of its declared type, the uses and the steps
pub record Content : Type 0 where
  pub class : ℕ
  pub body : ℕ
  pub declared : ℕ
  pub uses : List Used
  pub steps : List Step

abbrev pub content_of : Derivation → Content
content_of d = record { class = d.class.0; body = d.body.0; declared = d.declared.0; uses = d.uses.items; steps = d.steps.items }

-- a copy says the same
abbrev pub IsCopy : Derivation → Derivation → Type 0
IsCopy d copy = content_of copy ≡ content_of d

-- the types that a program's `type`s and `type?`s give
abbrev pub Sites : Type 0
Sites = ℕ → Option MethodTy

-- the type at a site, where there is a site
abbrev pub type_at : Sites → Option ℕ → Option MethodTy
type_at sites None = None
type_at sites (Some site) = sites site

abbrev pub key_of : Used → Key
key_of u = (u.class.0, u.name.0)

-- the type that a use stands for
abbrev pub type_of : Sites → Used → Option MethodTy
type_of sites u = sites u.site.0

-- the types that the uses give; the first use of a key counts
abbrev pub table : Sites → List Used → Types
table sites [] k = None
table sites (u ∷ us) k = if same_key (key_of u) k then type_of sites u else table sites us k

abbrev pub step : ℕ → Ty → Step
step id t = record { node = record { 0 = id }; ty = t }

-- the finished expressions in their order, with their types
abbrev pub steps_of : Events → List Step
steps_of [] = []
steps_of (Look id k ∷ es) = steps_of es
steps_of (Done id t ∷ es) = step id t ∷ steps_of es

-- the key of each use has the type that the use stands for
abbrev pub AgreesWith : Sites → List Used → Types → Type 0
AgreesWith sites [] types = Unit {0}
AgreesWith sites (u ∷ us) types = (types (key_of u) ≡ type_of sites u) × AgreesWith sites us types

-- the body is judged, the uses are the looks, and the steps are what the judgement finishes
pub record Derives (types : Types) (s : Subject) (d : Content) : Type 0 where
  pub judged : IsJudged types s
  pub uses : map key_of d.uses ≡ looks types s
  pub steps : d.steps ≡ steps_of (events_body types s)
