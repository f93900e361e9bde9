-- How a comparison with a kept check ends.
use Rattle.std.proofs.Common.{◌≡◌, ℕ, Bool, true, false, List, [], ◌++◌, take, Some, Ok, Err, sym, ap, ◌∙◌, subst}
use Rattle.std.proofs.lemmas.List.{append-nil}
use Rattle.std.specs.Prelude.{Result, slice_get}
use Rattle.hb_types.specs.declared.{ids.KeyId.KeyId, ids.BodySite.BodySite}
use Rattle.hb_cache.specs.declared.{kept.Kept.Kept, kept.Seen.Seen}
use Rattle.hb_cache.specs.Kept.{kept_at}
use Rattle.hb_names.specs.Names.{Name, place}
use Rattle.hb_tables.specs.declared.desk.Held.{Held}
use Rattle.hb_call.specs.declared.{answers.Answer.Answer, frame.CallFail.CallFail}
use Rattle.hb_call.specs.declared.frame.CallFail.TheVariants as fail
use Rattle.hb_call.specs.Calling.{Given, HasBody, HasType, IsAlike, IsAsking, IsCalling, Moment}
use Rattle.hb_call.specs.Comparing.{HasDiffered, HasEnded, TakesArgs, TellsWhether, answers_differing, answers_kept}
use Rattle.hb_tables.specs.declared.entry.Verdict.TheVariants as verdict
use Rattle.hb_tables.specs.declared.entry.By.TheVariants as by
use Rattle.hb_tables.specs.History.{IsLegal}
use Rattle.hb_call.specs.{Alike.alike_itself, Deciding.IsRightly, GrowthLaws.each_itself, Rules.FitsRules, OwnCache.IsTrueCheck}
use Rattle.hb_call.proofs.{RulingLemmas.none_next, MarkLemmas.marks_kept, LookingLemmas.rules_since, OwnComparedLemmas.agreed_rightly, OwnComparedLemmas.last_rightly}
use Rattle.hb_call.proofs.{RunsLemmas.live_asked}
use Rattle.hb_call.proofs.KeptLemmas.{Follows, IsUsable, follows_differing, follows_first, kept_next, kept_verdict, usable}

module _ (g : Given) (was : Moment) (kept : Kept) (legal_was : IsLegal g.door.limit was.log) (own_was : HasType was.log (g.door.caller, g.q.0) g.key.0 g.own) (args : TakesArgs g) (bytes : List ℕ)
    (named : place was.known (g.class.0, bytes) ≡ Some g.key.0) (body : HasBody g.door.caller g.q g.key (Some kept.derivation.body) was.log)
    (check : IsTrueCheck g.t was.known was.asked was.log kept) (there : kept_at g.cache g.key.0 ≡ Some kept) (key : kept.key.0 ≡ g.key.0) (count : kept.changes ≡ g.own.changes) where
  use_it : IsUsable g kept
  use_it = usable g was.known was.asked was.log legal_was kept bytes check named key count own_was

  -- all but what is told follows from the answers that the uses had so far
  ends : (h : Given) (is : Moment) (held : List KeyId) (compared answers : List Answer) (r : Result Bool CallFail) → IsAlike g h was is → is.known ≡ was.known → IsAsking g was is [] answers
      → Follows g.t kept.derivation.uses.items answers → IsCalling g.t g.door g.q.0 is.known is.asked is.log g.key g.own held answers
      → TellsWhether g is held compared kept.derivation.body r → HasEnded g h was is held compared kept.derivation.body r
  ends h is held compared answers r alike known asking follows calling tells = record {
    alike = alike;
    holding = (answers, subst (λ (x : Given). IsCalling x.t x.door x.q.0 is.known is.asked is.log x.key x.own held answers) alike.same calling);
    live = live_asked g was is [] answers asking alike.goes.went.kept;
    rules = rules_since g was is (Some kept.derivation.body) [] answers (kept_next g kept use_it args answers follows) calling.legal own_was alike.goes bytes
        (subst (λ (l : List Name). place l (g.class.0, bytes) ≡ Some g.key.0) (sym known) named) body asking;
    tells = subst (λ (x : Given). TellsWhether x is held compared kept.derivation.body r) alike.same tells;
  }

  -- memory ran out behind the first of them
  pub ends_failed : (h : Given) (is : Moment) (held : List KeyId) (compared : List Answer) (i : ℕ) (cause : CallFail) → IsAlike g h was is → is.known ≡ was.known
      → IsAsking g was is [] (take i (answers_kept kept)) → IsCalling g.t g.door g.q.0 is.known is.asked is.log g.key g.own held (take i (answers_kept kept)) → cause ≡ fail.NoMemory
      → HasEnded g h was is held compared kept.derivation.body (Err cause)
  ends_failed h is held compared i cause alike known asking calling e =
      ends h is held compared (take i (answers_kept kept)) (Err cause) alike known asking (follows_first g.t was.known was.asked was.log i kept.derivation.uses.items kept.counts.items check.uses) calling e

  module _ (h : Given) (is : Moment) (held : List KeyId) (alike : IsAlike g h was is) (known : is.known ≡ was.known) where
    -- all were compared
    pub ends_agreed : (compared : List Answer) (i : ℕ) → take i (answers_kept kept) ≡ answers_kept kept → IsAsking g was is [] (take i (answers_kept kept))
        → IsCalling g.t g.door g.q.0 is.known is.asked is.log g.key g.own held (take i (answers_kept kept)) → HasEnded g h was is held compared kept.derivation.body (Ok true)
    ends_agreed compared i all asking calling =
        ends h is held compared (take i (answers_kept kept)) (Ok true) alike known asking (follows_first g.t was.known was.asked was.log i kept.derivation.uses.items kept.counts.items check.uses) calling
        (record {
          answers = answers_kept kept;
          calling = subst (λ (l : List Answer). IsCalling g.t g.door g.q.0 is.known is.asked is.log g.key g.own held l) all calling;
          rests = kept_verdict g kept use_it args was.known was.asked was.log check.uses;
          way = agreed_rightly g kept there key count;
          marks = marks_kept g is held kept there (subst (λ (l : List Answer). IsCalling g.t g.door g.q.0 is.known is.asked is.log g.key g.own held l) all calling);
        })

    module _ (last : ℕ) (found : Held) (s : Seen) (at : slice_get kept.counts.items last ≡ Some s) (other : found.changes ≡ s.changes → ⊥)
        (asking : IsAsking g was is [] (answers_differing kept last found))
        (calling : IsCalling g.t g.door g.q.0 is.known is.asked is.log g.key g.own held (answers_differing kept last found)) where
      follow : Follows g.t kept.derivation.uses.items (answers_differing kept last found)
      follow = follows_differing g.t was.known was.asked was.log last found kept.derivation.uses.items kept.counts.items check.uses

      -- the last had another count
      pub ends_differing : HasEnded g h was is held (answers_differing kept last found) kept.derivation.body (Ok false)
      ends_differing = ends h is held (answers_differing kept last found) (answers_differing kept last found) (Ok false) alike known asking follow calling
          (calling, record { next = kept_next g kept use_it args (answers_differing kept last found) follow; none = last_rightly g kept (Some kept.derivation.body) last found s there at other })

      -- and there was no memory to note that
      pub ends_unnoted : (compared : List Answer) (cause : CallFail) → cause ≡ fail.NoMemory → HasEnded g h was is held compared kept.derivation.body (Err cause)
      ends_unnoted compared cause e = ends h is held compared (answers_differing kept last found) (Err cause) alike known asking follow calling e

-- nothing was compared
pub ends_unfound : (g : Given) (m : Moment) (held : List KeyId) (compared answers : List Answer) (body : BodySite) → compared ≡ [] → answers ≡ []
    → IsCalling g.t g.door g.q.0 m.known m.asked m.log g.key g.own held (compared ++ answers) → IsRightly g (Some body) [] (verdict.Enter by.Fresh) → HasEnded g g m m held compared body (Ok false)
ends_unfound g m held compared answers body none empty calling way = record {
  alike = alike_itself g m;
  holding = (compared ++ answers, calling);
  live = ([], append-nil m.log, tt);
  rules = each_itself (FitsRules g.t m.known g.door.caller) g.door.caller m.log;
  tells = (
    subst (λ (l : List Answer). IsCalling g.t g.door g.q.0 m.known m.asked m.log g.key g.own held l) (ap (λ l. compared ++ l) empty ∙ append-nil compared) calling,
    subst (λ (l : List Answer). HasDiffered g body l) (sym none) (record { next = none_next g (Some body); none = way }),
  );
}
