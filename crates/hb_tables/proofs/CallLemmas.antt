-- The calls that hold a key, counted.
use Rattle.std.proofs.Common.{◌≡◌, ◌≢◌, ℕ, zero, suc, ◌+◌, ◌*◌, ◌≤◌, eqb, Bool, true, false, cond, ◌&&◌, List, [], ◌∷◌, length, sym, refl, ap, ◌∙◌, subst, arith, eq-eqb, ne_eqb}
use mathlib.Core.Logic.{dite}
use native.Mathlib.Decide.{ℕ_discrete}
use Rattle.hb_tables.specs.History.{same_call, times, without, of_caller}

and_false : (a b : Bool) → b ≡ false → (a && b) ≡ true → ⊥
and_false true b f e = cc (f, e)
and_false false b f e = cc e

false_and : (a b : Bool) → a ≡ false → (a && b) ≡ true → ⊥
false_and true b f e = cc f
false_and false b f e = cc e

-- where the test says yes, the callers are one, and the numbers
pub same_caller : (x y : ℕ × ℕ) → same_call x y ≡ true → x.0 ≡ y.0
same_caller x y e = dite (ℕ_discrete x.0 y.0) (λ is. is) (λ ne. absurd (let f = ne_eqb x.0 y.0 ne in false_and (eqb x.0 y.0) (eqb x.1 y.1) f e))

pub same_number : (x y : ℕ × ℕ) → same_call x y ≡ true → x.1 ≡ y.1
same_number x y e = dite (ℕ_discrete x.1 y.1) (λ is. is) (λ ne. absurd (let f = ne_eqb x.1 y.1 ne in and_false (eqb x.0 y.0) (eqb x.1 y.1) f e))

pub length_without : (x : ℕ × ℕ) (ys : List (ℕ × ℕ)) → length (without x ys) + times x ys ≡ length ys
length_without x [] = refl
length_without x (y ∷ ys) =
    let r = length_without x ys in
    elim (same_call x y) as (λ b. length (cond b (without x ys) (y ∷ without x ys)) + (cond b 1 0 + times x ys) ≡ suc (length ys)) [ true ↦ omega arith | false ↦ omega arith ]

-- a caller's calls tell how often one of them stands there
pub times_own : (c q : ℕ) (ys : List (ℕ × ℕ)) → times (c, q) (of_caller c ys) ≡ times (c, q) ys
times_own c q [] = refl
times_own c q (y ∷ ys) =
    let r = times_own c q ys in
    dite (ℕ_discrete c y.0) (λ is. rw (eq-eqb c y.0 is) (rw (eq-eqb c y.0 is) (ap (λ n. cond (eqb q y.1) 1 0 + n) r))) (λ ne. rw (ne_eqb c y.0 ne) (omega (arith, r)))

pub own_without : (c q : ℕ) (ys : List (ℕ × ℕ)) → of_caller c (without (c, q) ys) ≡ without (c, q) (of_caller c ys)
own_without c q [] = refl
own_without c q (y ∷ ys) =
    let r = own_without c q ys in
    dite (ℕ_discrete c y.0)
    (λ is. let e = eq-eqb c y.0 is in
    rw e (rw e (elim (eqb q y.1) as (λ b. of_caller c (cond b (without (c, q) ys) (y ∷ without (c, q) ys)) ≡ cond b (without (c, q) (of_caller c ys)) (y ∷ without (c, q) (of_caller c ys)))
    [ true ↦ r | false ↦ rw e (ap (λ w. y ∷ w) r) ])))
    (λ ne. let e = ne_eqb c y.0 ne in rw e (rw e r))

pub own_without_other : (c d q : ℕ) (ys : List (ℕ × ℕ)) → c ≢ d → of_caller c (without (d, q) ys) ≡ of_caller c ys
own_without_other c d q [] ne = refl
own_without_other c d q (y ∷ ys) ne =
    let r = own_without_other c d q ys ne in
    dite (ℕ_discrete d y.0)
    (λ is. let e = eq-eqb d y.0 is in let f = ne_eqb c y.0 (λ h. ne (h ∙ sym is)) in
    rw (e, f) (elim (eqb q y.1) as (λ b. of_caller c (cond b (without (d, q) ys) (y ∷ without (d, q) ys)) ≡ of_caller c ys) [ true ↦ r | false ↦ rw f r ]))
    (λ no. let e = ne_eqb d y.0 no in rw e (elim (eqb c y.0) as
    (λ b. cond b (y ∷ of_caller c (without (d, q) ys)) (of_caller c (without (d, q) ys)) ≡ cond b (y ∷ of_caller c ys) (of_caller c ys)) [ true ↦ ap (λ w. y ∷ w) r | false ↦ r ]))

-- those of no caller from n on, less those of n
but : ℕ → List (ℕ × ℕ) → List (ℕ × ℕ)
but n [] = []
but n (y ∷ ys) = cond (eqb n y.0) (but n ys) (y ∷ but n ys)

but_length : (n : ℕ) (ys : List (ℕ × ℕ)) → length (of_caller n ys) + length (but n ys) ≡ length ys
unfolding but
but_length n [] = refl
but_length n (y ∷ ys) =
    let r = but_length n ys in
    elim (eqb n y.0) as (λ b. length (cond b (y ∷ of_caller n ys) (of_caller n ys)) + length (cond b (but n ys) (y ∷ but n ys)) ≡ suc (length ys)) [ true ↦ omega arith | false ↦ omega arith ]

but_other : (c n : ℕ) (ys : List (ℕ × ℕ)) → c ≢ n → of_caller c (but n ys) ≡ of_caller c ys
unfolding but
but_other c n [] ne = refl
but_other c n (y ∷ ys) ne =
    let r = but_other c n ys ne in
    dite (ℕ_discrete n y.0)
    (λ is. let e = eq-eqb n y.0 is in let f = ne_eqb c y.0 (λ h. ne (h ∙ sym is)) in rw (e, f) r)
    (λ no. let e = ne_eqb n y.0 no in rw e (elim (eqb c y.0) as
    (λ b. cond b (y ∷ of_caller c (but n ys)) (of_caller c (but n ys)) ≡ cond b (y ∷ of_caller c ys) (of_caller c ys)) [ true ↦ ap (λ w. y ∷ w) r | false ↦ r ]))

but_same : (n : ℕ) (ys : List (ℕ × ℕ)) → of_caller n (but n ys) ≡ []
unfolding but
but_same n [] = refl
but_same n (y ∷ ys) =
    let r = but_same n ys in
    dite (ℕ_discrete n y.0) (λ is. let e = eq-eqb n y.0 is in rw e r) (λ no. let e = ne_eqb n y.0 no in rw (e, e) r)

-- callers below n, with at most m calls each
pub at_most : (n m : ℕ) (ys : List (ℕ × ℕ)) → ((c : ℕ) → n ≤ c → of_caller c ys ≡ []) → ((c : ℕ) → length (of_caller c ys) ≤ m) → length ys ≤ n * m
at_most zero m [] none few = omega arith
at_most zero m (y ∷ ys) none few = let h = none y.0 (omega arith) in absurd (let e = eq-eqb y.0 y.0 refl in cc (rw e at h))
at_most (suc n) m ys none few =
    let there : (c : ℕ) → n ≤ c → of_caller c (but n ys) ≡ [] = λ c le. dite (ℕ_discrete c n) (λ is. subst (λ d. of_caller d (but n ys) ≡ []) (sym is) (but_same n ys))
    (λ ne. but_other c n ys ne ∙ none c (omega arith)) in
    let less : (c : ℕ) → length (of_caller c (but n ys)) ≤ m = λ c. dite (ℕ_discrete c n)
    (λ is. let z : length (of_caller c (but n ys)) ≡ 0 = subst (λ d. length (of_caller d (but n ys)) ≡ 0) (sym is) (ap length (but_same n ys)) in omega arith)
    (λ ne. let z = ap length (but_other c n ys ne) in let f = few c in omega arith) in
    let r = at_most n m (but n ys) there less in let s = but_length n ys in let f = few n in omega (arith, r, s, f)

pub times_without : (x z : ℕ × ℕ) (ys : List (ℕ × ℕ)) → times x (without z ys) ≤ times x ys
times_without x z [] = omega arith
times_without x z (y ∷ ys) =
    let r = times_without x z ys in
    elim (same_call z y) as (λ b. times x (cond b (without z ys) (y ∷ without z ys)) ≤ cond (same_call x y) 1 0 + times x ys) [ true ↦ omega arith | false ↦ omega arith ]

pub fewer : (c d q : ℕ) (ys : List (ℕ × ℕ)) → length (of_caller c (without (d, q) ys)) ≤ length (of_caller c ys)
fewer c d q ys = dite (ℕ_discrete c d)
    (λ is. subst (λ z. length (of_caller c (without (z, q) ys)) ≤ length (of_caller c ys)) is (let e = ap length (own_without c q ys) in let n = length_without (c, q) (of_caller c ys) in omega (arith, e, n)))
    (λ ne. let e = ap length (own_without_other c d q ys ne) in omega (arith, e))

-- the test of two equal calls
same_one : (x z : ℕ × ℕ) → same_call x z ≡ true → (ys : List (ℕ × ℕ)) → times x ys ≡ times z ys
same_one x z is ys = let a = same_caller x z is in let b = same_number x z is in ap (λ (w : ℕ × ℕ). times w ys) (λ i. (a i, b i))

pub times_more : (x z : ℕ × ℕ) (ys : List (ℕ × ℕ)) → times z ys ≡ 0 → times x ys ≤ 1 → times x (z ∷ ys) ≤ 1
times_more x z ys none few =
    let seen : (b : Bool) → same_call x z ≡ b → cond b 1 0 + times x ys ≤ 1 = elim [ true ↦ λ is. (let r = same_one x z is ys in omega (arith, r)) | false ↦ λ is. omega (arith, few) ] in
    seen (same_call x z) refl
