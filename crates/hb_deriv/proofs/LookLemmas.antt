-- The looks without repeats: what they settle, and how far they agree.
use Rattle.std.proofs.Common.{◌≡◌, ℕ, List, [], ◌∷◌, ◌++◌, Bool, true, false, refl, sym, ap, ◌∙◌, subst, append_assoc, append-nil}
use Rattle.std.specs.Prelude.{◌||◌, if◌then◌else◌}
use Rattle.hb_deriv.proofs.{JudgementLemmas.body_judged, JudgementLemmas.judge_body_of, FaultLemmas.body_fails_of, FaultLemmas.body_fails_from, AlikeLemmas.Alike}
use Rattle.hb_deriv.proofs.{AlikeLemmas.alike_body, OnwardLemmas.onward_body, KeyLemmas.key_same}
use Rattle.hb_deriv.specs.{Judgement.IsJudged, Faults.BodyFails}
use Rattle.hb_deriv.specs.declared.ill.Ill.{Ill}
use Rattle.hb_deriv.specs.Judge.{Key, Types, Subject, judge_body}
use Rattle.hb_deriv.specs.Events.{Events, Look, Done, events_body, same_key, has, fresh, looks, SameAt, SameIn}

-- at a key that is one of those at which they agree
same_at : (t u : Types) (ks : List Key) (k : Key) → SameAt t u ks → has k ks ≡ true → t k ≡ u k
same_at t u [] k s h = absurd (cc)
same_at t u (j ∷ ks) k s h = go (same_key j k) refl h (same_at t u ks k s.1)
  where
    go : (b : Bool) → same_key j k ≡ b → (b || has k ks) ≡ true → (has k ks ≡ true → t k ≡ u k) → t k ≡ u k
    go true e h rest = subst (λ (i : Key). t i ≡ u i) (key_same j k e) s.0
    go false e h rest = rest h

same_both : (t u : Types) (ks js : List Key) → SameAt t u ks → SameAt t u js → SameAt t u (ks ++ js)
same_both t u [] js s r = r
same_both t u (k ∷ ks) js s r = (s.0, same_both t u ks js s.1 r)

-- agreement at the keys seen and at the new ones is agreement at all looks
pub same_events : (t u : Types) (seen : List Key) (es : Events) → SameAt t u seen → SameAt t u (fresh seen es) → SameIn t u es
same_events t u seen [] s h = tt
same_events t u seen (Done id r ∷ es) s h = same_events t u seen es s h
same_events t u seen (Look id k ∷ es) s h = go (has k seen) refl h (λ ks. same_events t u ks es)
  where
    go : (b : Bool) → has k seen ≡ b → SameAt t u (if b then fresh seen es else k ∷ fresh (seen ++ k ∷ []) es) → ((ks : List Key) → SameAt t u ks → SameAt t u (fresh ks es) → SameIn t u es) → (t k ≡ u k) × SameIn t u es
    go true e h rest = (same_at t u seen k s e, rest seen s h)
    go false e h rest = (h.0, rest (seen ++ k ∷ []) (same_both t u seen (k ∷ []) s (h.0, tt)) h.1)

pub looks_alike : (t u : Types) (s : Subject) → SameAt t u (looks t s) → Alike (judge_body t s) (judge_body u s) (events_body t s) (events_body u s)
looks_alike t u s h = alike_body t u s (same_events t u [] (events_body t s) tt h)

-- where a new key is looked at, and which were before it
record Place (seen : List Key) (es : Events) (ks : List Key) (k : Key) : Type 0 where
  front : Events
  id : ℕ
  rest : Events
  is : es ≡ front ++ Look id k ∷ rest
  before : fresh seen front ≡ ks
  new : has k (seen ++ ks) ≡ false

pub head_key : (j k : Key) (js ks : List Key) → j ∷ js ≡ k ∷ ks → (j ≡ k) × (js ≡ ks)
head_key j k js ks h = (cc, cc)

nothing : (ks : List Key) (k : Key) (rest : List Key) → [] ≡ ks ++ k ∷ rest → ⊥
nothing [] k rest h = cc
nothing (j ∷ ks) k rest h = cc

place_of : (seen : List Key) (es : Events) (ks : List Key) (k : Key) (rest : List Key) → fresh seen es ≡ ks ++ k ∷ rest → Place seen es ks k
place_of seen [] ks k rest h = absurd (nothing ks k rest h)
place_of seen (Done id r ∷ es) ks k rest h =
    let p = place_of seen es ks k rest h in
    record { front = Done id r ∷ p.front; id = p.id; rest = p.rest; is = ap (λ (l : Events). Done id r ∷ l) p.is; before = p.before; new = p.new }
place_of seen (Look id j ∷ es) ks k rest h = go (has j seen) refl ks h (λ seen ks. place_of seen es ks k rest)
  where
    go : (b : Bool) → has j seen ≡ b → (ks : List Key) → (if b then fresh seen es else j ∷ fresh (seen ++ j ∷ []) es) ≡ ks ++ k ∷ rest
        → ((seen ks : List Key) → fresh seen es ≡ ks ++ k ∷ rest → Place seen es ks k) → Place seen (Look id j ∷ es) ks k
    go true e ks h later =
        let p = later seen ks h in
        record { front = Look id j ∷ p.front; id = p.id; rest = p.rest; is = ap (λ (l : Events). Look id j ∷ l) p.is; before = rw e p.before; new = p.new }
    go false e [] h later =
        let q = head_key j k (fresh (seen ++ j ∷ []) es) rest h in
        record {
          front = [];
          id = id;
          rest = es;
          is = ap (λ (i : Key). Look id i ∷ es) q.0;
          before = refl;
          new = subst (λ (l : List Key). has k l ≡ false) (sym (append-nil seen)) (subst (λ (i : Key). has i seen ≡ false) q.0 e);
        }
    go false e (i ∷ ks) h later =
        let q = head_key j i (fresh (seen ++ j ∷ []) es) (ks ++ k ∷ rest) h in
        let p = later (seen ++ j ∷ []) ks q.1 in
        record {
          front = Look id j ∷ p.front;
          id = p.id;
          rest = p.rest;
          is = ap (λ (l : Events). Look id j ∷ l) p.is;
          before = rw e (ap (λ (l : List Key). j ∷ l) p.before ∙ ap (λ (x : Key). x ∷ ks) q.0);
          new = subst (λ (l : List Key). has k l ≡ false) (append_assoc seen (j ∷ []) ks ∙ ap (λ (x : Key). seen ++ x ∷ ks) q.0) p.new;
        }

-- the new keys of two lists of events, one behind the other
pub fresh_both : (seen : List Key) (es fs : Events) → fresh seen (es ++ fs) ≡ fresh seen es ++ fresh (seen ++ fresh seen es) fs
fresh_both seen [] fs = ap (λ (l : List Key). fresh l fs) (sym (append-nil seen))
fresh_both seen (Done id t ∷ es) fs = fresh_both seen es fs
fresh_both seen (Look id k ∷ es) fs = go (has k seen) (λ ks. fresh_both ks es fs)
  where
    go : (b : Bool) → ((ks : List Key) → fresh ks (es ++ fs) ≡ fresh ks es ++ fresh (ks ++ fresh ks es) fs)
        → (if b then fresh seen (es ++ fs) else k ∷ fresh (seen ++ k ∷ []) (es ++ fs)) ≡ (if b then fresh seen es else k ∷ fresh (seen ++ k ∷ []) es)
        ++ fresh (seen ++ (if b then fresh seen es else k ∷ fresh (seen ++ k ∷ []) es)) fs
    go true rest = rest seen
    go false rest =
        ap (λ (l : List Key). k ∷ l) (rest (seen ++ k ∷ [])) ∙ ap (λ (l : List Key). k ∷ (fresh (seen ++ k ∷ []) es ++ fresh l fs)) (append_assoc seen (k ∷ []) (fresh (seen ++ k ∷ []) es))

pub looks_onward : (t u : Types) (s : Subject) (ks rest : List Key) (k : Key) → looks t s ≡ ks ++ k ∷ rest → SameAt t u ks → (others : List Key) × (looks u s ≡ ks ++ k ∷ others)
looks_onward t u s ks rest k h same =
    let p = place_of [] (events_body t s) ks k rest h in
    let front : SameIn t u p.front = same_events t u [] p.front tt (subst (λ (l : List Key). SameAt t u l) (sym p.before) same) in
    let o = (onward_body t u s).by p.front (Look p.id k) p.rest p.is front in
    (fresh (ks ++ k ∷ []) o.0, ap (λ (es : Events). fresh [] es) o.1 ∙ fresh_both [] p.front (Look p.id k ∷ o.0) ∙ ap (λ (l : List Key). l ++ fresh l (Look p.id k ∷ o.0)) p.before ∙ rw p.new refl)

pub judged_alike : (t u : Types) (s : Subject) → judge_body t s ≡ judge_body u s → IsJudged t s → IsJudged u s
judged_alike t u s e j = body_judged u s (j.behind, j.ty) (sym e ∙ judge_body_of t s j)

pub fails_alike : (t u : Types) (s : Subject) (f : Ill) → judge_body t s ≡ judge_body u s → BodyFails t s f → BodyFails u s f
fails_alike t u s f e h = body_fails_from u s f (sym e ∙ body_fails_of t s f h)
