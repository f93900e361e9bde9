-- How a call is decided.
use Rattle.std.specs.Prelude.{◌≡◌, ℕ, false, List, [], ◌∷◌, ◌++◌, map, Option, Some, Result, Ok, Err}
use Rattle.std.specs.Option.{option_map}
use Rattle.hb_types.specs.declared.types.Ty.{Ty}
use Rattle.hb_types.specs.declared.ids.BodySite.{BodySite}
use Rattle.hb_types.specs.declared.ids.KeyId.{KeyId}
use Rattle.hb_types.specs.declared.ids.TypeSite.{TypeSite}
use Rattle.hb_types.specs.declared.types.MethodTy.{MethodTy}
use Rattle.hb_tree.specs.Table.{Table}
use Rattle.hb_deriv.specs.Derivation.{type_at}
use Rattle.hb_deriv.specs.Programs.{sites_of}
use Rattle.hb_deriv.specs.declared.raw.Derivation.{Derivation}
use Rattle.hb_deriv.specs.Judge.{Key}
use Rattle.hb_check.specs.Asked.{Asked, Declared, Agrees, key_asked, types_in}
use Rattle.hb_check.specs.Checking.{IsDerivation}
use Rattle.hb_names.specs.Names.{Name, place}
use Rattle.hb_tables.specs.declared.entry.Act.{Act}
use Rattle.hb_tables.specs.declared.entry.Act.TheVariants.{Call}
use Rattle.hb_tables.specs.declared.entry.Entry.{Entry}
use Rattle.hb_tables.specs.declared.entry.Verdict.{Verdict}
use Rattle.hb_tables.specs.declared.entry.Verdict.TheVariants as verdict
use Rattle.hb_tables.specs.declared.entry.By.TheVariants as by
use Rattle.hb_check.specs.declared.bodies.Checked.{Checked}
use Rattle.hb_check.specs.declared.bodies.Checked.TheVariants as checked
use Rattle.hb_tables.specs.History.{entry, spot}
use Rattle.hb_tables.specs.Frames.{acts}
use Rattle.hb_tables.specs.Rows.{IsDecided, body_at, kinds_of}
use Rattle.hb_tables.specs.Verdicts.{verdict_of, looks_of, as_fresh}
use Rattle.hb_call.specs.Reading.{call_of, called}
use Rattle.hb_call.specs.Held.{stands}
use Rattle.hb_call.specs.declared.answers.Answer.{Answer}
use Rattle.hb_call.specs.declared.frame.CallFail.{CallFail}
use Rattle.hb_call.specs.declared.ruling.Ruling.{Ruling}
use Rattle.hb_call.specs.declared.ruling.Ruling.TheVariants as ruling
use Rattle.hb_call.specs.Calling.{AreTrue, Begun, Given, HasType, IsCalling, Moment, answers_of}
use Rattle.hb_call.specs.Own.{brings}
use Rattle.hb_call.specs.OwnCache.{IsOwnCache}
use Rattle.hb_call.specs.Rules.{IsRightWay}

-- what a check of the body comes to
abbrev pub told : BodySite → Checked → Ruling
told body (checked.Good d) = ruling.Checked d
told body (checked.Bad ill) = ruling.Refused (Some body) (verdict.IllTyped ill)

-- the verdict that is written down
abbrev pub verdict_by : Ruling → Verdict
verdict_by (ruling.Kept body) = verdict.Enter by.Own
verdict_by (ruling.Checked d) = verdict.Enter by.Fresh
verdict_by (ruling.Refused site v) = v

-- the definition that was decided on
abbrev pub site_by : Ruling → Option BodySite
site_by (ruling.Kept body) = Some body
site_by (ruling.Checked d) = Some d.body
site_by (ruling.Refused site v) = site

-- the type that is declared at a site, where there is a site
abbrev pub type_declared : Table → Option TypeSite → Option MethodTy
type_declared t own = type_at (sites_of t) (option_map (λ s. s.0) own)

-- In each table that has these answers, this is the verdict, and the looks are what was asked.
abbrev pub IsVerdictBy : Table → (class : ℕ) → Option BodySite → Option TypeSite → List Ty → List Asked → Verdict → Type 0
IsVerdictBy t class site own kinds answers v =
    (declared : Declared) → Agrees answers declared
    → (as_fresh v ≡ verdict_of t (types_in (sites_of t) declared) class (body_at t site) (type_declared t own) kinds)
    × (looks_of t (types_in (sites_of t) declared) class (body_at t site) (type_declared t own) kinds ≡ map key_asked answers)

-- In each table that has the answers before one of these, its method is the next look.
abbrev pub AreNext : Given → Option BodySite → List Answer → Type 0
AreNext g site answers =
    (first rest : List Answer) (a : Answer) → answers ≡ first ++ a ∷ rest → (declared : Declared) → Agrees (answers_of first) declared
    → (others : List Key) × (looks_of g.t (types_in (sites_of g.t) declared) g.class.0 (body_at g.t site) (type_declared g.t g.own.ty) (kinds_of g.args) ≡ map key_asked (answers_of first) ++ (a.class.0, a.name.0) ∷ others)

-- Wherever what the call's holds found is so, and what is kept is the caller's own, the way of the verdict is right.
abbrev pub IsRightly : Given → Option BodySite → List Answer → Verdict → Type 0
IsRightly g site answers v =
    (names asked : List Name) (past : List Act) (log : List Entry) → IsOwnCache g.t names asked g.door.caller (Some past) log g.cache → site ≡ (spot g.key.0 log).body → HasType log (g.door.caller, g.q.0) g.key.0 g.own → AreTrue g.t names log (g.door.caller, g.q.0) answers
    → IsRightWay g.door.caller past g.key.0 log v

-- The verdict rests on these answers. A comparison with what was kept had others before, each the next look, and the way of the verdict is right by all of them.
pub record IsRuled (g : Given) (site : Option BodySite) (compared answers : List Answer) (v : Verdict) : Type 0 where
  pub verdict : IsVerdictBy g.t g.class.0 site g.own.ty (kinds_of g.args) (answers_of answers) v
  pub next : AreNext g site compared
  pub way : IsRightly g site (compared ++ answers) v

-- the derivation is that of the method's body at the type that its key has, and its uses are the answers
pub record IsShown (g : Given) (answers : List Answer) (d : Derivation) : Type 0 where
  pub declared : TypeSite
  pub typed : g.own.ty ≡ Some declared
  pub shown : IsDerivation g.t g.class.0 d.body.0 declared.0 (answers_of answers) d

-- where a check was made, these are what it was answered, and its derivation shows the verdict by them; a refusal does not enter
abbrev pub Shows : Given → (said answers : List Answer) → Ruling → Type 0
Shows g said answers (ruling.Kept body) = Unit {0}
Shows g said answers (ruling.Checked d) = (answers ≡ said) × IsShown g answers d
Shows g said answers (ruling.Refused site v) = brings v ≡ false

-- This is what the call comes to with the definition. What it holds are its own key, those of the answers on which that rests, and those that a comparison had.
pub record IsRuledAt (g : Given) (m : Moment) (held : List KeyId) (said : List Answer) (site : Option BodySite) (r : Ruling) : Type 0 where
  pub is : site ≡ site_by r
  pub compared : List Answer
  pub answers : List Answer
  pub calling : IsCalling g.t g.door g.q.0 m.known m.asked m.log g.key g.own held (compared ++ answers)
  pub ruled : IsRuled g site compared answers (verdict_by r)
  pub shows : Shows g said answers r

-- The last entry is the Call, which is decided as its row says. What the call read since the start is this decision.
pub record Decided (g : Given) (names : List Name) (old new : List Entry) (v : Verdict) (site : Option BodySite) : Type 0 where
  pub before : List Entry
  pub is : new ≡ before ++ entry g.door.caller (Call g.key g.q site g.args v) ∷ []
  pub unshared : v ≡ verdict.Enter by.Shared → ⊥
  pub row : IsDecided g.t names before (g.door.caller, g.q.0) g.key.0 site (kinds_of g.args) v
  pub reads : (start : List Entry) → Begun g start old
      → (made : List Act) × (acts g.door.caller new ≡ acts g.door.caller start ++ made)
      × ((l : List Act) → call_of g.t g.q.0 g.key.0 (kinds_of g.args) (made ++ l) ≡ called g.q.0 site v (stands g.door.caller g.q.0 new) l)

-- A check was made. Behind these entries came its Call: there the call held its own key and those of the answers alone, which are the derivation's uses, and what was kept was true, and its machine's own.
pub record IsResting (g : Given) (past : Option (List Act)) (known asked : List Name) (new : List Entry) (held : List KeyId) (answers : List Answer) (d : Derivation) : Type 0 where
  pub before : List Entry
  pub is : new ≡ before ++ entry g.door.caller (Call g.key g.q (Some d.body) g.args (verdict.Enter by.Fresh)) ∷ []
  pub named : (bytes : List ℕ) × (place known (g.class.0, bytes) ≡ Some g.key.0)
  pub calling : IsCalling g.t g.door g.q.0 known asked before g.key g.own held answers
  pub shown : IsShown g answers d
  pub kept : IsOwnCache g.t known asked g.door.caller past before g.cache

-- What is kept is true, and its machine's own, behind the decision, but where a check was made: then it was so before the Call.
abbrev pub IsOwnBehind : Given → (past : Option (List Act)) → (known asked : List Name) → List Entry → List KeyId → List Answer → Result Ruling CallFail → Type 0
IsOwnBehind g past known asked new held answers (Ok (ruling.Checked d)) = IsResting g past known asked new held answers d
IsOwnBehind g past known asked new held answers (Ok (ruling.Kept body)) = IsOwnCache g.t known asked g.door.caller past new g.cache
IsOwnBehind g past known asked new held answers (Ok (ruling.Refused site v)) = IsOwnCache g.t known asked g.door.caller past new g.cache
IsOwnBehind g past known asked new held answers (Err cause) = IsOwnCache g.t known asked g.door.caller past new g.cache
