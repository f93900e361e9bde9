-- What a comparison of a call with the check that is kept comes to.
use Rattle.std.specs.Prelude.{◌≡◌, ◌⊎◌, ℕ, Result, Ok, Err, false, List, [], ◌∷◌, ◌++◌, map, take, drop, slice_get, None, Option, Some, Bool, true}
use Rattle.std.specs.List.{AllByRecursion}
use Rattle.hb_types.specs.declared.{ids.BodySite.BodySite, ids.KeyId.KeyId, ids.TypeSite.TypeSite, types.MethodTy.MethodTy}
use Rattle.hb_deriv.specs.declared.raw.Used.{Used}
use Rattle.hb_deriv.specs.Programs.{sites_of}
use Rattle.hb_cache.specs.declared.{kept.Kept.Kept, kept.Seen.Seen}
use Rattle.hb_cache.specs.Kept.{kept_at}
use Rattle.hb_tables.specs.declared.{desk.Held.Held, entry.Act.Act}
use Rattle.hb_tables.specs.declared.entry.Verdict.TheVariants as verdict
use Rattle.hb_tables.specs.declared.entry.By.TheVariants as by
use Rattle.hb_tables.specs.{Rows.kinds_of, Verdicts.takes, Frames.StaysLive, Frames.acts}
use Rattle.hb_call.specs.declared.{answers.Answer.Answer, frame.CallFail.CallFail, ruling.Ended.Ended, ruling.Ruling.Ruling}
use Rattle.hb_call.specs.Calling.{FitsSince, Given, IsAlike, IsAmong, IsAsking, IsCalling, IsLive, Moment, answers_of}
use Rattle.hb_call.specs.declared.frame.CallFail.TheVariants as fail
use Rattle.hb_call.specs.declared.ruling.Ended.TheVariants as ended
use Rattle.hb_call.specs.declared.ruling.Ruling.TheVariants as ruling
use Rattle.hb_call.specs.Deciding.{AreNext, IsRightly, IsVerdictBy}

-- the answers that uses would have, where holds found this
abbrev pub answers_in : List Used → List Seen → List Answer
answers_in [] seen = []
answers_in (u ∷ uses) [] = []
answers_in (u ∷ uses) (s ∷ seen) = record { class = u.class; name = u.name; key = s.key; held = record { ty = s.site; changes = s.changes } } ∷ answers_in uses seen

-- the answers that the uses of a kept check had
abbrev pub answers_kept : Kept → List Answer
answers_kept kept = answers_in kept.derivation.uses.items kept.counts.items

-- those up to one at this place, whose hold found another count
abbrev pub answers_differing : Kept → ℕ → Held → List Answer
answers_differing kept last held = take last (answers_kept kept) ++ map {A = Answer} (λ a. record a { held = held }) (take 1 (drop last (answers_kept kept)))

-- what a comparison found for a use: the same, or this
abbrev pub said : Answer → Option Held → Answer
said a None = a
said a (Some held) = record a { held = held }

-- where it found another count, that is one
abbrev pub IsOther : Answer → Option Held → Type 0
IsOther a None = Unit {0}
IsOther a (Some held) = held.changes ≡ a.held.changes → ⊥

-- One more use was compared: its key is held, and this is what was found.
pub record HasCompared (g : Given) (was m : Moment) (held : List KeyId) (kept : Kept) (at : ℕ) (r : Option Held) : Type 0 where
  pub a : Answer
  pub is : slice_get (answers_kept kept) at ≡ Some a
  pub calling : IsCalling g.t g.door g.q.0 m.known m.asked m.log g.key g.own held (take at (answers_kept kept) ++ said a r ∷ [])
  pub asking : IsAsking g was m (take at (answers_kept kept)) (take at (answers_kept kept) ++ said a r ∷ [])
  pub other : IsOther a r

-- the own key has a type, which takes the arguments
pub record TakesArgs (g : Given) : Type 0 where
  pub declared : TypeSite
  pub typed : g.own.ty ≡ Some declared
  pub ty : MethodTy
  pub is : sites_of g.t declared.0 ≡ Some ty
  pub fits : takes ty (kinds_of g.args) ≡ true

-- Each of these keys is the call's own, or that of a use of the check that is kept for it.
pub record AreOfKept (key : KeyId) (cache : List (Option Kept)) (held : List KeyId) : Type 0 where
  pub kept : Kept
  pub there : kept_at cache key.0 ≡ Some kept
  pub each : AllByRecursion (λ (k : KeyId). (k.0 ≡ key.0) ⊎ IsAmong k.0 (answers_kept kept)) held

-- where the call enters by a kept check, it holds its own key and those of that check alone
abbrev pub MarksKept : KeyId → List (Option Kept) → List KeyId → Ruling → Type 0
MarksKept key cache held (ruling.Kept body) = AreOfKept key cache held
MarksKept key cache held (ruling.Checked d) = Unit {0}
MarksKept key cache held (ruling.Refused site v) = Unit {0}

-- Where the call enters by a kept check, and gave nothing back, no more names were asked for.
abbrev pub AsksNoMore : Given → (was is : Moment) → Ruling → Type 0
AsksNoMore g was is (ruling.Kept body) = (made : List Act) → acts g.door.caller is.log ≡ acts g.door.caller was.log ++ made → StaysLive g.q.0 made → is.asked ≡ was.asked
AsksNoMore g was is (ruling.Checked d) = Unit {0}
AsksNoMore g was is (ruling.Refused site v) = Unit {0}

-- so it is behind the end of the decision
abbrev pub EndsAsking : Given → (was is : Moment) → Ended → Type 0
EndsAsking g was is (ended.Own f) = (made : List Act) → acts g.door.caller is.log ≡ acts g.door.caller was.log ++ made → StaysLive g.q.0 made → is.asked ≡ was.asked
EndsAsking g was is (ended.Fresh f d) = Unit {0}
EndsAsking g was is (ended.Refused v) = Unit {0}

-- No type that was used was changed: the call holds its own key and those of these answers, and enters by its caller's own check.
pub record HasAgreed (g : Given) (m : Moment) (held : List KeyId) (body : BodySite) : Type 0 where
  pub answers : List Answer
  pub calling : IsCalling g.t g.door g.q.0 m.known m.asked m.log g.key g.own held answers
  pub rests : IsVerdictBy g.t g.class.0 (Some body) g.own.ty (kinds_of g.args) (answers_of answers) (verdict.Enter by.Own)
  pub way : IsRightly g (Some body) answers (verdict.Enter by.Own)
  pub marks : AreOfKept g.key g.cache held

-- There is no own check that agrees. Each of these answers is the next look.
pub record HasDiffered (g : Given) (body : BodySite) (compared : List Answer) : Type 0 where
  pub next : AreNext g (Some body) compared
  pub none : IsRightly g (Some body) compared (verdict.Enter by.Fresh)

-- what a comparison tells, and what the call holds then
abbrev pub TellsWhether : Given → Moment → List KeyId → (compared : List Answer) → BodySite → Result Bool CallFail → Type 0
TellsWhether g m held compared body (Ok true) = HasAgreed g m held body
TellsWhether g m held compared body (Ok false) = IsCalling g.t g.door g.q.0 m.known m.asked m.log g.key g.own held compared × HasDiffered g body compared
TellsWhether g m held compared body (Err cause) = cause ≡ fail.NoMemory

-- The call went on by a comparison, each of whose acts fits the rules.
pub record HasEnded (g h : Given) (was is : Moment) (held : List KeyId) (compared : List Answer) (body : BodySite) (r : Result Bool CallFail) : Type 0 where
  pub alike : IsAlike g h was is
  pub holding : (answers : List Answer) × IsCalling h.t h.door h.q.0 is.known is.asked is.log h.key h.own held answers
  pub live : IsLive g.door.caller g.q.0 was.log is.log
  pub rules : FitsSince g was is
  pub tells : TellsWhether h is held compared body r
