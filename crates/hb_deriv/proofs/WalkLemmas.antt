-- Events against a state: what a walk without a fault has passed, and where there is none.
use Rattle.std.proofs.Common.{◌≡◌, ℕ, suc, List, [], ◌∷◌, ◌++◌, map, Bool, true, false, refl, sym, ap, ◌∙◌, subst, nat_eq, eq-eqb, append_assoc, append-nil}
use Rattle.std.proofs.{lemmas.Bool.eqb-true, lemmas.List.map-append}
use Rattle.std.specs.Prelude.{Ok, Err, ◌&&◌, if◌then◌else◌}
use Rattle.hb_types.specs.declared.types.Ty.{Ty}
use Rattle.hb_types.specs.Types.{same_ty}
use Rattle.hb_types.proofs.Below.{same_ty_is, same_ty_itself}
use Rattle.hb_deriv.proofs.{JudgementLemmas.and_both}
use Rattle.hb_deriv.specs.declared.{raw.Used.Used, raw.Step.Step}
use Rattle.hb_deriv.specs.{Judge.Key, Derivation.key_of, Derivation.step, Derivation.steps_of}
use Rattle.hb_deriv.specs.Events.{Events, Look, Done, same_key, has, fresh}
use Rattle.hb_deriv.specs.Walk.{State, WalkFault, Walked, ◌>>>◌, take_next, look, pass_next, pass}
use Rattle.hb_deriv.proofs.KeyLemmas.{key_same, key_itself, has_front, has_mid, AllHave}
use Rattle.hb_deriv.proofs.LookLemmas.{head_key as key_parts}

-- the events one after another, from a state
abbrev pub replay : State → Events → Walked State
replay s [] = Ok s
replay s (Look id k ∷ es) = look s k >>> (λ z. replay z es)
replay s (Done id t ∷ es) = pass s id t >>> (λ z. replay z es)

pub then_ok : {A B : Type 0} (r : Walked A) (f : A → Walked B) (y : B) → (r >>> f) ≡ Ok y → (x : A) × (r ≡ Ok x) × (f x ≡ Ok y)
unfolding ◌>>>◌
then_ok (Ok x) f y h = (x, refl, h)
then_ok (Err e) f y h = absurd (cc)

pub then_of : {A B : Type 0} (r : Walked A) (f : A → Walked B) (x : A) (y : B) → r ≡ Ok x → f x ≡ Ok y → (r >>> f) ≡ Ok y
unfolding ◌>>>◌
then_of r f x y h k = ap (λ z. z >>> f) h ∙ k

pub walked_same : {A : Type 0} (x y : A) → (let r : Walked A = Ok x in r) ≡ Ok y → x ≡ y
walked_same x y h = cc

-- a test that let the value through
pub guard_walked : {A : Type 0} (b : Bool) (x y : A) (f : WalkFault) → (let r : Walked A = Err f in if b then Ok x else r) ≡ Ok y → (b ≡ true) × (x ≡ y)
guard_walked true x y f h = (refl, cc)
guard_walked false x y f h = absurd (cc)

-- what was passed between two states
pub record Passed (s : State) (es : Events) (z : State) : Type 0 where
  pub used : List Used
  pub taken : z.taken ≡ s.taken ++ used
  pub left : s.left ≡ used ++ z.left
  pub keys : map key_of used ≡ fresh (map key_of s.taken) es
  pub steps : s.steps ≡ steps_of es ++ z.steps
  pub all : AllHave (map key_of z.taken) es

abbrev with_use : State → Used → List Used → State
with_use s u us = record { taken = s.taken ++ u ∷ []; left = us; steps = s.steps; passed = s.passed }

abbrev with_step : State → List Step → State
with_step s ps = record { taken = s.taken; left = s.left; steps = ps; passed = suc s.passed }

took : (s : State) (k : Key) (x : State) (l : List Used) → take_next s k l ≡ Ok x → (u : Used) × (us : List Used) × (l ≡ u ∷ us) × (key_of u ≡ k) × (with_use s u us ≡ x)
took s k x [] h = absurd (cc)
took s k x (u ∷ us) h = let g = guard_walked (same_key (key_of u) k) (with_use s u us) x _ h in (u, us, refl, key_same (key_of u) k g.0, g.1)

passed_one : (s : State) (id : ℕ) (t : Ty) (x : State) (l : List Step) → pass_next s id t l ≡ Ok x → (ps : List Step) × (l ≡ step id t ∷ ps) × (with_step s ps ≡ x)
passed_one s id t x [] h = absurd (cc)
passed_one s id t x (p ∷ ps) h =
    let g = guard_walked (nat_eq p.node.0 id && same_ty p.ty t) (with_step s ps) x _ h in
    let b = and_both (nat_eq p.node.0 id) (same_ty p.ty t) g.0 in
    (ps, head (eqb-true p.node.0 id b.0) (same_ty_is p.ty t b.1), g.1)
  where
    head : p.node.0 ≡ id → p.ty ≡ t → p ∷ ps ≡ step id t ∷ ps
    head e f = ap (λ (n : ℕ). step n p.ty ∷ ps) e ∙ ap (λ (r : Ty). step id r ∷ ps) f

pub passed_by : (s : State) (es : Events) (z : State) → replay s es ≡ Ok z → Passed s es z
passed_by s [] z h = subst (Passed s []) (walked_same s z h) (record { used = []; taken = sym (append-nil s.taken); left = refl; keys = refl; steps = refl; all = tt })
passed_by s (Done id t ∷ es) z h =
    let a = then_ok (pass s id t) (λ x. replay x es) z h in
    go (passed_one s id t a.0 s.steps a.1) (passed_by a.0 es z a.2)
  where
    go : {x : State} → ((ps : List Step) × (s.steps ≡ step id t ∷ ps) × (with_step s ps ≡ x)) → Passed x es z → Passed s (Done id t ∷ es) z
    go q p0 =
        let p = subst (λ (y : State). Passed y es z) (sym q.2) p0 in
        record { used = p.used; taken = p.taken; left = p.left; keys = p.keys; steps = q.1 ∙ ap (λ (l : List Step). step id t ∷ l) p.steps; all = p.all }
passed_by s (Look id k ∷ es) z h =
    let a = then_ok (look s k) (λ x. replay x es) z h in
    go (has k (map key_of s.taken)) refl a.0 a.1 (passed_by a.0 es z a.2)
  where
    front : (used : List Used) (all : List Used) → all ≡ s.taken ++ used → has k (map key_of s.taken) ≡ true → has k (map key_of all) ≡ true
    front used all e h = subst (λ (l : List Key). has k l ≡ true) (sym (map-append key_of s.taken used) ∙ ap (map key_of) (sym e)) (has_front k (map key_of s.taken) (map key_of used) h)

    go : (b : Bool) → has k (map key_of s.taken) ≡ b → (x : State) → (if b then Ok s else take_next s k s.left) ≡ Ok x → Passed x es z → Passed s (Look id k ∷ es) z
    go true e x h p0 =
        let p = subst (λ (y : State). Passed y es z) (sym (walked_same s x h)) p0 in
        record { used = p.used; taken = p.taken; left = p.left; keys = p.keys ∙ rw e refl; steps = p.steps; all = (front p.used z.taken p.taken e, p.all) }
    go false e x h p0 = new (took s k x s.left h)
      where
        new : ((u : Used) × (us : List Used) × (s.left ≡ u ∷ us) × (key_of u ≡ k) × (with_use s u us ≡ x)) → Passed s (Look id k ∷ es) z
        new q =
            let u = q.0 in
            let p = subst (λ (y : State). Passed y es z) (sym q.4) p0 in
            let whole : z.taken ≡ s.taken ++ u ∷ p.used = p.taken ∙ append_assoc s.taken (u ∷ []) p.used in
            let names : map key_of z.taken ≡ map key_of s.taken ++ k ∷ map key_of p.used = ap (map key_of) whole ∙ map-append key_of s.taken (u ∷ p.used)
            ∙ ap (λ (j : Key). map key_of s.taken ++ j ∷ map key_of p.used) q.3 in
            let seen : map key_of (s.taken ++ u ∷ []) ≡ map key_of s.taken ++ k ∷ [] = map-append key_of s.taken (u ∷ []) ∙ ap (λ (j : Key). map key_of s.taken ++ j ∷ []) q.3 in
            record {
              used = u ∷ p.used;
              taken = whole;
              left = q.2 ∙ ap (λ (l : List Used). u ∷ l) p.left;
              keys = ap (λ (j : Key). j ∷ map key_of p.used) q.3 ∙ ap (λ (l : List Key). k ∷ l) (p.keys ∙ ap (λ (l : List Key). fresh l es) seen) ∙ rw e refl;
              steps = p.steps;
              all = (subst (λ (l : List Key). has k l ≡ true) (sym names) (has_mid k (map key_of s.taken) (map key_of p.used)), p.all);
            }

-- the other way: uses at the looks, and the steps, pass
pub record Passes (s : State) (es : Events) : Type 0 where
  pub last : State
  pub by : replay s es ≡ Ok last
  pub no_use : last.left ≡ []
  pub no_step : last.steps ≡ []

abbrev state_at : List Used → List Used → List Step → ℕ → State
state_at taken us steps n = record { taken = taken; left = us; steps = steps; passed = n }

no_keys : (us : List Used) → map key_of us ≡ [] → us ≡ []
no_keys [] h = refl
no_keys (u ∷ us) h = absurd (cc)

pub passes : (es : Events) (taken us : List Used) (n : ℕ) → map key_of us ≡ fresh (map key_of taken) es → Passes (state_at taken us (steps_of es) n) es
passes [] taken us n h = record { last = state_at taken us [] n; by = refl; no_use = no_keys us h; no_step = refl }
passes (Done id t ∷ es) taken us n h =
    go (passes es taken us (suc n) h)
  where
    go : Passes (state_at taken us (steps_of es) (suc n)) es → Passes (state_at taken us (steps_of (Done id t ∷ es)) n) (Done id t ∷ es)
    go p = record { last = p.last; by = then_of _ (λ x. replay x es) (state_at taken us (steps_of es) (suc n)) p.last (rw (eq-eqb id id refl, same_ty_itself t) refl) p.by; no_use = p.no_use; no_step = p.no_step }
passes (Look id k ∷ es) taken us n h = go (has k (map key_of taken)) refl us h (λ taken us h. passes es taken us n h)
  where
    go : (b : Bool) → has k (map key_of taken) ≡ b → (us : List Used) → map key_of us ≡ (if b then fresh (map key_of taken) es else k ∷ fresh (map key_of taken ++ k ∷ []) es)
        → ((taken us : List Used) → map key_of us ≡ fresh (map key_of taken) es → Passes (state_at taken us (steps_of es) n) es) → Passes (state_at taken us (steps_of es) n) (Look id k ∷ es)
    go true e us h rest =
        let p = rest taken us h in
        record { last = p.last; by = then_of _ (λ x. replay x es) (state_at taken us (steps_of es) n) p.last (rw e refl) p.by; no_use = p.no_use; no_step = p.no_step }
    go false e [] h rest = absurd (cc)
    go false e (u ∷ us) h rest =
        let q = key_parts (key_of u) k (map key_of us) (fresh (map key_of taken ++ k ∷ []) es) h in
        let seen : map key_of (taken ++ u ∷ []) ≡ map key_of taken ++ k ∷ [] = map-append key_of taken (u ∷ []) ∙ ap (λ (j : Key). map key_of taken ++ j ∷ []) q.0 in
        let p = rest (taken ++ u ∷ []) us (q.1 ∙ ap (λ (l : List Key). fresh l es) (sym seen)) in
        let hit : same_key (key_of u) k ≡ true = subst (λ (j : Key). same_key (key_of u) j ≡ true) q.0 (key_itself (key_of u)) in
        record { last = p.last; by = then_of _ (λ x. replay x es) (state_at (taken ++ u ∷ []) us (steps_of es) n) p.last (rw (e, hit) refl) p.by; no_use = p.no_use; no_step = p.no_step }
