-- A call that met a newer definition, and begins again.
use Rattle.std.proofs.Common.{◌≡◌, ◌++◌, ◌∷◌, [], Bool, true, false, List, refl, sym, ap, ◌∙◌, subst}
use Rattle.std.proofs.lemmas.List.{append-nil}
use Rattle.std.specs.Prelude.{◌<◌}
use Rattle.hb_types.specs.declared.ids.KeyId.{KeyId}
use Rattle.hb_tables.specs.declared.entry.Entry.{Entry}
use Rattle.hb_tables.specs.declared.desk.Look.{Look}
use Rattle.hb_tables.specs.Answers.{Fixed, IsLookAt}
use Rattle.hb_tables.specs.Frames.{acts}
use Rattle.hb_tables.specs.History.{IsLegal, Learns}
use Rattle.hb_call.specs.Alike.{alike_on, fits_since_on}
use Rattle.hb_call.specs.Calling.{Begun, FitsSince, Given, Goes, HasLooked, IsAlike, IsLive, MayRetreat, Moment, StaysUnfit, fits_of}
use Rattle.hb_call.specs.Held.{frees}
use Rattle.hb_tables.proofs.DeskLemmas.{learns_acts}
use Rattle.hb_call.proofs.BegunLemmas.{begun_same}
use Rattle.hb_call.specs.Rules.{FitsRules}
use Rattle.hb_call.proofs.GrowthLemmas.{each_learns}
use Rattle.hb_call.proofs.RunsLemmas.{learns_live, looked_live, looked_newer, may_retreat}
use Rattle.hb_call.proofs.StepLemmas.{alike_door, at, goes_learns}

-- The call g was ruled as h, and then others went on.
module _ (g h : Given) (was mid : Moment) (new : List Entry) (look newer : Look) (ruled : IsAlike g h was mid) (live : IsLive g.door.caller g.q.0 was.log mid.log)
    (learns : Learns h.door.caller mid.log new) (legal : IsLegal h.door.limit new) where
  abbrev here : Moment
  here = at mid.known mid.asked new

  looked_here : HasLooked g.door.caller g.q g.key look was.log → HasLooked h.door.caller h.q h.key look new
  looked_here looked =
      looked_live h mid here look (goes_learns h mid.known mid.asked mid.log new learns legal) (learns_live h.door.caller h.q.0 mid.log new learns)
      (subst (λ (x : Given). HasLooked x.door.caller x.q x.key look mid.log) ruled.same (looked_live g was mid look ruled.goes live looked))

  -- it may retreat, where a newer look found more changes
  pub may_again : HasLooked g.door.caller g.q g.key look was.log → IsLookAt h.key.0 newer new → look.changes < newer.changes → MayRetreat h.door.caller h.q h.key new
  may_again looked is less = may_retreat h.door.caller h.q h.key look newer new (looked_here looked) is less

  -- it retreated through the same door
  module _ (door : Fixed) (same : door ≡ h.door) (j : Given) (end : Moment) (back : IsAlike (record h { door = door }) j here end) where
    went_here : IsAlike h (record h { door = door }) mid here
    went_here = alike_door h door mid here same (goes_learns h mid.known mid.asked mid.log new learns legal)

    pub alike_again : IsAlike g j was end
    alike_again = alike_on g h j was mid end ruled (alike_on h (record h { door = door }) j mid here end went_here back)

    pub looked_again : MayRetreat h.door.caller h.q h.key new → IsLookAt h.key.0 newer new → (others : List KeyId) → acts door.caller end.log ≡ acts door.caller new ++ frees h.q others → HasLooked j.door.caller j.q j.key newer end.log
    looked_again may is others freed =
        subst (λ (x : Given). HasLooked x.door.caller x.q x.key newer end.log) (went_here.same ∙ back.same)
        (looked_newer h here end newer others (subst (λ (x : Given). Goes x here end) (sym went_here.same) back.goes)
        (subst (λ (d : Fixed). acts d.caller end.log ≡ acts d.caller new ++ frees h.q others) same freed) may is)

    pub rules_again : (first : Given) (start : Moment) → first ≡ g → FitsSince first start was → FitsSince g was mid → FitsSince (record h { door = door }) here end → FitsSince first start end
    rules_again first start is before since after =
        fits_since_on first (record h { door = door }) start here end (is ∙ ruled.same ∙ went_here.same) back.goes.went
        (fits_since_on first h start mid here (is ∙ ruled.same) went_here.goes.went
        (fits_since_on first g start was mid is ruled.goes.went before since)
        (each_learns (FitsRules h.t mid.known h.door.caller) h.door.caller mid.log new learns)) after

-- ── where the type does not take the arguments ──

-- what is read of a call goes on with it
pub begun_goes : (g : Given) (was is : Moment) → Goes g was is → (fits_of g ≡ false → acts g.door.caller is.log ≡ acts g.door.caller was.log) → (start : List Entry) → Begun g start was.log → Begun g start is.log
begun_goes g was is goes unfit start b = by (fits_of g) refl
  where
    by : (fits : Bool) → fits_of g ≡ fits → Begun g start is.log
    by true e = goes.begun e start b
    by false e = begun_same g start was.log is.log (unfit e) b

-- the call first did nothing up to g, which was ruled as h
pub unfit_ruled : (g h : Given) → g ≡ h → (first : Given) → first ≡ g → (start was mid : List Entry) (held : List KeyId) → (fits_of first ≡ false → acts first.door.caller was ≡ acts first.door.caller start) → StaysUnfit g was mid held → fits_of h ≡ false → acts h.door.caller mid ≡ acts h.door.caller start
unfit_ruled g h same first is start was mid held before ruled unfit =
    subst (λ (x : Given). fits_of x ≡ false → acts x.door.caller mid ≡ acts x.door.caller start) (is ∙ same)
    (λ e. (subst (λ (x : Given). StaysUnfit x was mid held) (sym is) ruled e).0 ∙ before e) unfit

-- and then it retreated, which frees nothing
pub unfit_again : (g h : Given) (was mid : Moment) (new : List Entry) (ruled : IsAlike g h was mid) → (held : List KeyId) → StaysUnfit g was.log mid.log held → Learns h.door.caller mid.log new → (door : Fixed) → door ≡ h.door → (end : Moment)
    → ((others : List KeyId) × (held ≡ h.key ∷ others) × (acts door.caller end.log ≡ acts door.caller new ++ frees h.q others)) → (first : Given) (start : Moment) → first ≡ g
    → (fits_of first ≡ false → acts first.door.caller was.log ≡ acts first.door.caller start.log) → fits_of first ≡ false → acts first.door.caller end.log ≡ acts first.door.caller start.log
unfit_again g h was mid new ruled held stays learns door same end freed first start is before unfit =
    let all = is ∙ ruled.same in
    let low : fits_of h ≡ false = subst (λ (x : Given). fits_of x ≡ false) all unfit in
    let quiet = subst (λ (x : Given). StaysUnfit x was.log mid.log held) ruled.same stays low in
    let none : freed.0 ≡ [] = let e : h.key ∷ freed.0 ≡ h.key ∷ [] = sym freed.1 ∙ quiet.1 in cc e in
    let back : acts h.door.caller end.log ≡ acts h.door.caller new = subst (λ (d : Fixed). acts d.caller end.log ≡ acts d.caller new) same (freed.2 ∙ ap (λ ks. acts door.caller new ++ frees h.q ks) none ∙ append-nil (acts door.caller new)) in
    let to : acts h.door.caller end.log ≡ acts h.door.caller was.log = back ∙ learns_acts h.door.caller mid.log new learns ∙ quiet.0 in
    subst (λ (x : Given). acts x.door.caller end.log ≡ acts x.door.caller was.log) (sym all) to ∙ before unfit
