-- What a check of a part comes to, in each type table that agrees with what the lookup answered.
use Rattle.std.specs.Prelude.{◌≡◌, ℕ, ◌≤◌, List, [], ◌∷◌, ◌++◌, map, length, Option, Some, None, Result, Ok, Err, true, false, nat_eq}
use Rattle.std.specs.{List.IsDistinct, Set.is_member}
use Rattle.hb_types.specs.declared.{types.Ty.Ty, env.TheConstants.VARIABLES_MAX}
use Rattle.hb_types.specs.Variables.{Variables}
use Rattle.hb_deriv.specs.declared.{raw.Used.Used, raw.Step.Step}
use Rattle.hb_deriv.specs.{Judge.Key, Judge.Types, Judge.Verdict, Events.Events, Events.has, Events.fresh, Derivation.Sites, Derivation.steps_of}
use Rattle.hb_check.specs.declared.{lookup.LookFail.LookFail, notes.Notes.Notes, notes.Stop.Stop}
use Rattle.hb_check.specs.declared.lookup.LookFail.TheVariants as look
use Rattle.hb_check.specs.declared.notes.Stop.TheVariants as stop
use Rattle.hb_check.specs.Asked.{Asked, Refusal, Declared, Agrees, answer_of, key_asked, key_refused, types_in}

-- ── what was done so far ──

-- what the lookup answered and refused, the uses and the steps
pub record State : Type 0 where
  pub answers : List Asked
  pub refused : Option Refusal
  pub uses : List Used
  pub steps : List Step

abbrev pub state : List Asked → Option Refusal → Notes → State
state answers refused notes = record { answers = answers; refused = refused; uses = notes.uses.items; steps = notes.steps.items }

abbrev pub keys_refused : Option Refusal → List Key
keys_refused None = []
keys_refused (Some r) = key_refused r ∷ []

-- the keys that were asked, of which the last may be refused
abbrev pub keys_asked : List Asked → Option Refusal → List Key
keys_asked answers refused = map key_asked answers ++ keys_refused refused

abbrev pub keys_in : State → List Key
keys_in s = keys_asked s.answers s.refused

-- no key stands twice
abbrev pub IsOnce : List Key → Type 0
IsOnce [] = Unit {0}
IsOnce (k ∷ ks) = (has k ks ≡ false) × IsOnce ks

-- nothing was refused, no key was asked twice, and each answer was a site and is a use
pub record IsSound (s : State) : Type 0 where
  pub none_refused : s.refused ≡ None
  pub once : IsOnce (keys_in s)
  pub used : s.answers ≡ map answer_of s.uses

-- ── variables ──

abbrev pub names_of : Variables → List ℕ
names_of G = map (λ v. v.0.0) G

-- each of the names is one of the others
abbrev pub Within : List ℕ → List ℕ → Type 0
Within names others = (x : ℕ) → is_member nat_eq names x ≡ true → is_member nat_eq others x ≡ true

-- so few different names that an environment holds them
abbrev pub HasRoom : List ℕ → Type 0
HasRoom names = (some : List ℕ) → IsDistinct nat_eq some → Within some names → length some ≤ VARIABLES_MAX

-- ── what a part comes to ──

-- the looks and steps of these events were added
pub record HasLogged (es : Events) (old new : State) : Type 0 where
  pub keys : keys_in new ≡ keys_in old ++ fresh (keys_in old) es
  pub steps : new.steps ≡ old.steps ++ steps_of es

-- the keys asked are a front of those of these events
pub record HasFront (es : Events) (old new : State) : Type 0 where
  pub rest : List Key
  pub front : keys_in old ++ fresh (keys_in old) es ≡ keys_in new ++ rest

-- in a type table, where the part has this verdict and these events
abbrev pub Comes : {X : Type 0} → Verdict (Variables × X) → Events → State → State → Result (Variables × X) Stop → Type 0
Comes verdict es old new (Ok r) = (verdict ≡ Ok r) × HasLogged es old new
Comes verdict es old new (Err (stop.Ill i)) = (verdict ≡ Err i) × HasLogged es old new
Comes verdict es old new (Err (stop.Look cause)) = HasFront es old new
Comes verdict es old new (Err stop.Full) = Unit {0}

-- memory ran out, or this is why the lookup refused
abbrev pub IsCause : LookFail → Option Refusal → Type 0
IsCause cause None = cause ≡ look.NoMemory
IsCause cause (Some r) = cause ≡ r.cause

-- what holds behind the part, which began with or assigned these names
abbrev pub Leaves : {X : Type 0} → List ℕ → State → Result (Variables × X) Stop → Type 0
Leaves names new (Ok r) = IsSound new × Within (names_of r.0) names
Leaves names new (Err (stop.Ill i)) = (new.refused ≡ None) × IsOnce (keys_in new)
Leaves names new (Err (stop.Look cause)) = IsCause cause new.refused × IsOnce (keys_in new)
Leaves names new (Err stop.Full) = HasRoom names → ⊥

pub record Ran {X : Type 0} (sites : Sites) (verdict : Types → Verdict (Variables × X)) (es : Types → Events) (names : List ℕ) (old new : State) (result : Result (Variables × X) Stop) : Type 0 where
  pub more : List Asked
  pub grows : new.answers ≡ old.answers ++ more
  pub leaves : Leaves names new result
  pub comes : (declared : Declared) → Agrees new.answers declared → Comes (verdict (types_in sites declared)) (es (types_in sites declared)) old new result

-- A part was checked with this result, from these variables; it assigns these names.
pub record Runs {X : Type 0} (sites : Sites) (verdict : Types → Verdict (Variables × X)) (es : Types → Events) (assigned : List ℕ) (G : Variables) (old new : State) (result : Result (Variables × X) Stop) : Type 0 where
  pub ran : IsSound old → Ran sites verdict es (names_of G ++ assigned) old new result

-- the result with the variables behind it
abbrev pub with_variables : {X : Type 0} → Variables → Result X Stop → Result (Variables × X) Stop
with_variables G (Ok x) = Ok (G, x)
with_variables G (Err e) = Err e

-- the same, where contracts see the result as a list
abbrev pub with_list : {X : Type 0} → (X → List Ty) → Variables → Result X Stop → Result (Variables × List Ty) Stop
with_list list G (Ok x) = Ok (G, list x)
with_list list G (Err e) = Err e
