-- What a call comes to behind a comparison with what is kept.
use Rattle.std.proofs.Common.{◌≡◌, ◌∙◌, ℕ, ◌<◌, zero, suc, List, [], ◌∷◌, ◌++◌, length, Some, refl, sym, ap, subst, append_assoc, arith}
use Rattle.std.specs.Prelude.{slice_get}
use Rattle.std.proofs.lemmas.List.{append-nil}
use Rattle.hb_types.specs.declared.{ids.BodySite.BodySite, ids.TypeSite.TypeSite, ids.KeyId.KeyId}
use Rattle.hb_names.specs.Names.{Name, place}
use Rattle.hb_tables.specs.Frames.{StaysLive, acts}
use Rattle.hb_tables.specs.declared.entry.Entry.{Entry}
use Rattle.hb_tables.proofs.FrameLemmas.{acts_append, live_join}
use Rattle.hb_call.specs.declared.answers.Answer.{Answer}
use Rattle.hb_call.specs.Calling.{Given, Goes, HasBody, IsCalling, IsLive, Moment}
use Rattle.hb_call.specs.Comparing.{TakesArgs}
use Rattle.hb_call.proofs.LookingLemmas.{body_goes}

-- what is live behind what is live
pub live_on : (c q : ℕ) (old mid new : List Entry) → IsLive c q old mid → IsLive c q mid new → IsLive c q old new
live_on c q old mid new a b = (a.0 ++ b.0, sym (append_assoc old a.0 b.0) ∙ ap (λ l. l ++ b.0) a.1 ∙ b.1, subst (StaysLive q) (sym (acts_append c a.0 b.0)) (live_join q (acts c a.0) (acts c b.0) a.2 b.2))

-- no answer was noted yet
pub calling_compared : (g : Given) (m : Moment) (held : List KeyId) (compared answers : List Answer) → answers ≡ [] → IsCalling g.t g.door g.q.0 m.known m.asked m.log g.key g.own held compared
    → IsCalling g.t g.door g.q.0 m.known m.asked m.log g.key g.own held (compared ++ answers)
calling_compared g m held compared answers none calling = subst (λ (l : List Answer). IsCalling g.t g.door g.q.0 m.known m.asked m.log g.key g.own held l)
    (sym (ap (λ l. compared ++ l) none ∙ append-nil compared)) calling

-- ── what the call was given is as before ──

module _ (g h : Given) (same : g ≡ h) where
  pub body_as : (was is : Moment) (body : BodySite) → Goes g was is → HasBody g.door.caller g.q g.key (Some body) was.log → HasBody h.door.caller h.q h.key (Some body) is.log
  body_as was is body goes has = subst (λ (x : Given). HasBody x.door.caller x.q x.key (Some body) is.log) same (body_goes g was is (Some body) goes has)

  pub named_as : (known : List Name) (bytes : List ℕ) → place known (g.class.0, bytes) ≡ Some g.key.0 → place known (h.class.0, bytes) ≡ Some h.key.0
  named_as known bytes e = subst (λ (x : Given). place known (x.class.0, bytes) ≡ Some x.key.0) same e

  pub takes_as : TakesArgs g → TakesArgs h
  takes_as t = subst TakesArgs same t

  pub own_as : (declared : TypeSite) → g.own.ty ≡ Some declared → h.own.ty ≡ Some declared
  own_as declared e = subst (λ (x : Given). x.own.ty ≡ Some declared) same e

  pub body_known : (n : ℕ) → n < length g.t.bodies → n < length h.t.bodies
  body_known n low = subst (λ (x : Given). n < length x.t.bodies) same low

  pub type_known : (n : ℕ) → n < length g.t.types → n < length h.t.types
  type_known n low = subst (λ (x : Given). n < length x.t.types) same low

  pub live_as : (old new : List Entry) → IsLive h.door.caller h.q.0 old new → IsLive g.door.caller g.q.0 old new
  live_as old new live = subst (λ (x : Given). IsLive x.door.caller x.q.0 old new) (sym same) live

-- ── what stands in a list ──

pub there : {X : Type 0} (xs : List X) (i : ℕ) → i < length xs → (x : X) × (slice_get xs i ≡ Some x)
there [] i low = absurd (omega (arith, low))
there (x ∷ xs) zero low = (x, refl)
there (x ∷ xs) (suc i) low = there xs i (omega (arith, low))
