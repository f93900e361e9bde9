-- A good derivation derives, and what derives is good.
use Rattle.std.proofs.Common.{◌≡◌, List, [], ◌∷◌, ◌++◌, map, length, Bool, true, false, refl, sym, ap, ◌∙◌, subst, eq-eqb, append-nil}
use Rattle.std.proofs.lemmas.Bool.{eqb-true}
use Rattle.std.specs.Prelude.{Ok, Err, if◌then◌else◌}
use Rattle.hb_types.specs.{Types.is_below, Variables.Variables}
use Rattle.hb_types.specs.declared.types.Ty.{Ty}
use Rattle.hb_deriv.proofs.{JudgementLemmas.judge_of, JudgementLemmas.judged_of, AlongLemmas.answer, AlongLemmas.along, AlikeLemmas.alike}
use Rattle.hb_deriv.specs.declared.{raw.Used.Used, raw.Step.Step}
use Rattle.hb_deriv.specs.Judge.{Key, Types, Typed, Verdict, judge, Subject, variables_of, has_count}
use Rattle.hb_deriv.specs.Events.{Events, events, events_body, fresh}
use Rattle.hb_deriv.specs.Derivation.{Content, Sites, key_of, table, steps_of, AgreesWith, Derives}
use Rattle.hb_deriv.specs.Walk.{State, AtStep, ◌>>>◌, walk, no_use, at_end, start, walk_body, IsGood}
use Rattle.hb_deriv.proofs.KeyLemmas.{AllHave, fresh_has, same_in, same_back}
use Rattle.hb_deriv.proofs.WalkLemmas.{replay, then_ok, then_of, walked_same, Passed, passed_by, passes}

-- the events of a body with as many parameters as its type has
abbrev events_in : Types → Subject → Events
events_in types s = events types s.self s.block (variables_of s)

abbrev judge_in : Types → Subject → Verdict Typed
judge_in types s = judge types s.self s.block (variables_of s)

events_in_body : (types : Types) (s : Subject) → has_count s ≡ true → events_body types s ≡ events_in types s
events_in_body types s h = rw h refl

stood : (s : State) (v : Verdict Typed) (r : State × Typed) → answer v s ≡ Ok r → (v ≡ Ok r.1) × (s ≡ r.0)
stood s (Ok y) r h = let e = walked_same (s, y) r h in (ap (λ (p : State × Typed). let v : Verdict Typed = Ok p.1 in v) e, ap (λ (p : State × Typed). p.0) e)
stood s (Err f) r h = absurd (cc)

none_left : (s z : State) (l : List Used) → no_use s l ≡ Ok z → l ≡ []
none_left s z [] h = refl
none_left s z (u ∷ us) h = absurd (cc)

ends_so : (limit : Ty) (s : State) (t : Ty) (l : List Step) (z : State) → at_end limit s t l ≡ Ok z → (l ≡ []) × (is_below t limit ≡ true) × (s.left ≡ [])
ends_so limit s t (p ∷ ps) z h = absurd (cc)
ends_so limit s t [] z h = go (is_below t limit) refl h
  where
    go : (b : Bool) → is_below t limit ≡ b → (if b then no_use s s.left else Err (AtStep s.passed)) ≡ Ok z → ((let l : List Step = [] in l) ≡ []) × (is_below t limit ≡ true) × (s.left ≡ [])
    go true e h = (refl, e, none_left s z s.left h)
    go false e h = absurd (cc)

pub good_derives : (sites : Sites) (s : Subject) (d : Content) → IsGood sites s d → (types : Types) → AgreesWith sites d.uses types → Derives types s d
good_derives sites s d g types h = counted (has_count s) refl g.ends
  where
    finish : (z : State) → Passed (start d) (events_in (table sites d.uses) s) z → (y : Typed) → judge_in (table sites d.uses) s ≡ Ok y → z.left ≡ [] → z.steps ≡ []
        → is_below y.1 s.declared.result ≡ true → has_count s ≡ true → Derives types s d
    finish z p y j l m b n =
        let all_used : d.uses ≡ p.used = p.left ∙ ap (λ (us : List Used). p.used ++ us) l ∙ append-nil p.used in
        let taken : z.taken ≡ d.uses = p.taken ∙ sym all_used in
        let have = subst (λ (us : List Used). AllHave (map key_of us) (events_in (table sites d.uses) s)) taken p.all in
        let q = alike (table sites d.uses) types s.self s.block (variables_of s) (same_in sites d.uses types (events_in (table sites d.uses) s) have h) in
        record {
          judged = record { count = eqb-true (length s.params) s.declared.count n; behind = y.0; ty = y.1; judged = judged_of types s.self s.block (variables_of s) y (sym q.verdict ∙ j); below = b };
          uses = ap (map key_of) all_used ∙ p.keys ∙ ap (λ (es : Events). fresh [] es) (q.events ∙ sym (events_in_body types s n));
          steps = p.steps ∙ ap (λ (ps : List Step). steps_of (events_in (table sites d.uses) s) ++ ps) m ∙ append-nil (steps_of (events_in (table sites d.uses) s))
              ∙ ap steps_of (q.events ∙ sym (events_in_body types s n));
        }

    counted : (b : Bool) → has_count s ≡ b → (if b then walk sites s.self s.block (variables_of s) (start d) >>> (λ p. at_end s.declared.result p.0 p.1.1 p.0.steps) else Err (AtStep 0)) ≡ Ok g.last → Derives types s d
    counted false n ends = absurd (cc)
    counted true n ends =
        let a = then_ok (walk sites s.self s.block (variables_of s) (start d)) _ g.last ends in
        let b = then_ok (replay (start d) (events_in (table sites d.uses) s)) _ a.0 (sym ((along sites d.uses s.self s.block (variables_of s)).by (start d) refl) ∙ a.1) in
        let y = stood b.0 (judge_in (table sites d.uses) s) a.0 b.2 in
        let z = ends_so s.declared.result a.0.0 a.0.1.1 a.0.0.steps g.last a.2 in
        finish b.0 (passed_by (start d) (events_in (table sites d.uses) s) b.0 b.1) a.0.1 y.0
        (ap (λ (x : State). x.left) y.1 ∙ z.2)
        (ap (λ (x : State). x.steps) y.1 ∙ z.0)
        z.1 n

ends_of : (sites : Sites) (s : Subject) (d : Content) (z : State) (G : Variables) (t : Ty) → has_count s ≡ true → walk sites s.self s.block (variables_of s) (start d) ≡ Ok (z, (G, t))
    → z.steps ≡ [] → is_below t s.declared.result ≡ true → z.left ≡ [] → walk_body sites s d ≡ Ok z
ends_of sites s d z G t n h p b l = rw n (then_of _ _ (z, (G, t)) z h (rw (p, b, l) refl))

pub derived_is_good : (sites : Sites) (s : Subject) (d : Content) (types : Types) → AgreesWith sites d.uses types → Derives types s d → IsGood sites s d
derived_is_good sites s d types h p =
    let n : has_count s ≡ true = eq-eqb (length s.params) s.declared.count p.judged.count in
    let es : events_body types s ≡ events_in types s = events_in_body types s n in
    let uses : map key_of d.uses ≡ fresh [] (events_in types s) = p.uses ∙ ap (λ (es : Events). fresh [] es) es in
    let have : AllHave (map key_of d.uses) (events_in types s) = subst (λ (ks : List Key). AllHave ks (events_in types s)) (sym uses) (fresh_has [] (events_in types s)) in
    let q = alike types (table sites d.uses) s.self s.block (variables_of s) (same_back (table sites d.uses) types (events_in types s) (same_in sites d.uses types (events_in types s) have h)) in
    let w = passes (events_in types s) [] d.uses 0 uses in
    let r : replay (start d) (events_in (table sites d.uses) s) ≡ Ok w.last =
    ap (λ (es : Events). replay (start d) es) (sym q.events)
    ∙ ap (λ (ps : List Step). replay (let z : State = record { taken = []; left = d.uses; steps = ps; passed = 0 } in z) (events_in types s)) (p.steps ∙ ap steps_of es) ∙ w.by in
    let t : walk sites s.self s.block (variables_of s) (start d) ≡ Ok (w.last, (p.judged.behind, p.judged.ty)) =
    (along sites d.uses s.self s.block (variables_of s)).by (start d) refl ∙ then_of _ _ w.last (w.last, (p.judged.behind, p.judged.ty)) r (ap (λ v. answer v w.last) (sym q.verdict ∙ judge_of p.judged.judged)) in
    record { last = w.last; ends = ends_of sites s d w.last p.judged.behind p.judged.ty n t w.no_step p.judged.below w.no_use }
