-- The decision of a call, when it is made.
use Rattle.std.proofs.Common.{◌≡◌, ℕ, List, [], ◌∷◌, ◌++◌, map, Some, refl, sym, ap, ◌∙◌, subst}
use Rattle.std.specs.Prelude.{◌<◌, Option, Result, Ok, Err, IfOk, IsErrAnd, OnErr}
use Rattle.std.specs.List.{AllByRecursion}
use Rattle.hb_names.specs.declared.names.TheConstants.{NAMES_MAX}
use Rattle.hb_types.specs.declared.ids.KeyId.{KeyId}
use Rattle.hb_types.specs.declared.ids.BodySite.{BodySite}
use Rattle.hb_names.specs.Names.{Name, place}
use Rattle.hb_tables.specs.declared.entry.Entry.{Entry}
use Rattle.hb_tables.specs.declared.entry.Verdict.{Verdict}
use Rattle.hb_tables.specs.declared.entry.Verdict.TheVariants as verdict
use Rattle.hb_tables.specs.declared.entry.By.TheVariants as by
use Rattle.hb_tables.specs.declared.entry.Act.{Act}
use Rattle.hb_tables.specs.declared.entry.Act.TheVariants.{Call}
use Rattle.hb_tables.specs.History.{spot, journal, entry, Adds, IsLegal}
use Rattle.hb_tables.specs.Standing.{Stand}
use Rattle.hb_tables.specs.Rows.{IsFilled, IsDecided, kinds_of}
use Rattle.hb_tables.proofs.HistoryLemmas.{legal_prefix}
use Rattle.hb_tables.proofs.DeskLemmas.{adds_apart, adds_prefix}
use Rattle.hb_call.specs.declared.answers.Answer.{Answer}
use Rattle.hb_call.specs.Held.{Holds}
use Rattle.hb_call.specs.Calling.{Begun, Given, Goes, Grew, IsCalling, Moment, Went, answers_of}
use Rattle.hb_call.specs.GrowthLaws.{each_on, grown_on, prefix_itself}
use Rattle.hb_call.specs.Growth.{EachNew}
use Rattle.hb_call.specs.Rules.{EntersBy, IsWhole}
use Rattle.hb_call.proofs.OwnGoingLemmas.{goes_ways}
use Rattle.hb_call.specs.Alike.{went_on}
use Rattle.hb_call.proofs.StepLemmas.{at, grew_call, went_call}
use Rattle.hb_call.specs.Deciding.{Decided, IsVerdictBy}
use Rattle.hb_call.proofs.StayLemmas.{held_once}
use Rattle.hb_call.proofs.BegunLemmas.{call_ends}
use Rattle.hb_call.proofs.DecidingLemmas.{learned, row_here}

pub on_err : {X E : Type 0} {P : Type 0} (r : Result X E) → P → OnErr r P
on_err (Ok x) p = tt
on_err (Err e) p = p

-- what failed tells nothing of an answer
pub not_ok : {X E : Type 0} (P : E → Type 0) (Q : X → Type 0) (r : Result X E) → IsErrAnd r P → IfOk r Q
not_ok P Q (Ok x) h = absurd h
not_ok P Q (Err e) h = tt

-- the own key, which is held first, stands for a name
pub own_below : (c q : ℕ) (key : KeyId) (others held : List KeyId) (log : List Entry) → held ≡ key ∷ others → Holds c q held log → key.0 < NAMES_MAX
own_below c q key others held log first h = (subst (λ (l : List KeyId). AllByRecursion (λ (k : KeyId). k.0 < NAMES_MAX) l) first h.below).0

module _ (g : Given) (names asked : List Name) (log : List Entry) (held : List KeyId) (answers : List Answer) (h : IsCalling g.t g.door g.q.0 names asked log g.key g.own held answers)
    (new : List Entry) (site : Option BodySite) (v : Verdict) (between : List Entry) (is : new ≡ (log ++ between) ++ entry g.door.caller (Call g.key g.q site g.args v) ∷ []) (none : journal g.door.caller between ≡ []) (legal : IsLegal g.door.limit new) where
  pub call_holds : Holds g.door.caller g.q.0 held new
  call_holds = record {
    keys = ap (map (λ (s : Stand). s.key)) (adds_apart g.door.caller g.q.0 log new (Call g.key g.q site g.args v) (between, is, none) refl) ∙ h.holds.keys;
    once = held_once g.door.limit g.door.caller g.q.0 new legal;
    below = h.holds.below;
  }

  pub call_whole : IsWhole g.door.caller g.q.0 (log ++ between)
  call_whole =
      let here = log ++ between in
      let low = legal_prefix g.door.limit here new (entry g.door.caller (Call g.key g.q site g.args v) ∷ [], sym is) legal in
      (learned g.t g.door g.q names asked log g.key g.own held answers h here (between, refl, none) low).whole

  pub call_decided : (v ≡ verdict.Enter by.Shared → ⊥) → IsDecided g.t names (log ++ between) (g.door.caller, g.q.0) g.key.0 site (kinds_of g.args) v
      → (first : List Entry) → ((start : List Entry) → Begun g start first → Begun g start log) → Decided g names first new v site
  call_decided unshared row first begun = record {
    before = log ++ between;
    is = is;
    unshared = unshared;
    row = row;
    reads = λ start b. call_ends g site v start log new (between, is, none) (begun start b);
  }

-- a call that went on so far is decided with this entry
module _ (g h : Given) (same : g ≡ h) (was : Moment) (known asked : List Name) (log new : List Entry) (site : Option BodySite) (v : Verdict) (adds : Adds h.door.caller log new (Call h.key h.q site h.args v)) where
  pub decided_went : Went g was (at known asked log) → IsLegal h.door.limit new → Went g was (at known asked new)
  decided_went went legal = went_on g was (at known asked log) (at known asked new) went (subst (λ (x : Given). Went x (at known asked log) (at known asked new)) (sym same) (went_call h known asked log new site v adds legal))

  pub decided_grew : Grew g was (at known asked log) → IsFilled h.args → IsDecided h.t known (log ++ adds.0) (h.door.caller, h.q.0) h.key.0 site (kinds_of h.args) v → IsWhole h.door.caller h.q.0 (log ++ adds.0) → Grew g was (at known asked new)
  decided_grew grew filled row whole =
      let last : Grew g (at known asked log) (at known asked new) = subst (λ (x : Given). Grew x (at known asked log) (at known asked new)) (sym same) (grew_call h known asked log new site v adds filled row whole) in
      grown_on g.t g.door.caller known known was.asked asked asked was.log log new grew last (prefix_itself known)

  -- and each check by which a body is entered is the right one
  pub decided_ways : (past : List Act) → Goes g was (at known asked log) → EachNew (EntersBy h.door.caller past) h.door.caller log new → EachNew (EntersBy g.door.caller past) g.door.caller was.log new
  decided_ways past goes ways =
      let kept = adds_prefix h.door.caller log new (Call h.key h.q site h.args v) adds in
      each_on (EntersBy g.door.caller past) g.door.caller was.log log new kept (goes_ways g past was (at known asked log) goes) (subst (λ (x : Given). EachNew (EntersBy x.door.caller past) x.door.caller log new) (sym same) ways)
