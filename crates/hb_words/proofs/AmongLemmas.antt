-- What stands in a list of callers, or of fronts.
use Rattle.std.proofs.Common.{◌≡◌, ℕ, zero, suc, ◌⊎◌, inl, inr, eqb, true, false, cond, List, [], ◌∷◌, ◌++◌, sym, refl, subst, ⊎_elim, eq-eqb, ne_eqb}
use mathlib.Core.Logic.{dite}
use mathlib.Core.Option.{some-injective, some-ne-none}
use native.Mathlib.Decide.{ℕ_discrete}
use Rattle.hb_words.specs.Words.{among, Stands}

-- where a number stands behind another one
among_later : (c m : ℕ) (ms : List ℕ) → eqb c m ≡ false → among c (m ∷ ms) ≡ true → among c ms ≡ true
among_later c m ms ne has = subst (λ b. cond b true (among c ms) ≡ true) ne has

pub among_one : (c m : ℕ) → among c (m ∷ []) ≡ true → c ≡ m
among_one c m has = dite (ℕ_discrete c m) (λ is. is) (λ ne. absurd (cc (among_later c m [] (ne_eqb c m ne) has)))

pub among_itself : (m : ℕ) (ms : List ℕ) → among m (m ∷ ms) ≡ true
among_itself m ms = subst (λ b. cond b true (among m ms) ≡ true) (sym (eq-eqb m m refl)) refl

pub among_left : (c : ℕ) (xs ys : List ℕ) → among c xs ≡ true → among c (xs ++ ys) ≡ true
among_left c [] ys has = absurd (cc has)
among_left c (x ∷ xs) ys has = dite (ℕ_discrete c x) (λ is. rw (eq-eqb c x is) refl) (λ ne. let h = ne_eqb c x ne in rw h (among_left c xs ys (among_later c x xs h has)))

pub among_right : (c : ℕ) (xs ys : List ℕ) → among c ys ≡ true → among c (xs ++ ys) ≡ true
among_right c [] ys has = has
among_right c (x ∷ xs) ys has = elim (eqb c x) as (λ b. cond b true (among c (xs ++ ys)) ≡ true) [ true ↦ refl | false ↦ among_right c xs ys has ]

pub among_either : (c : ℕ) (xs ys : List ℕ) → among c (xs ++ ys) ≡ true → (among c xs ≡ true) ⊎ (among c ys ≡ true)
among_either c [] ys has = inr has
among_either c (x ∷ xs) ys has = dite (ℕ_discrete c x) (λ is. inl (rw (eq-eqb c x is) refl)) (λ ne. let h = ne_eqb c x ne in
    ⊎_elim (λ t. inl (rw h t)) (λ t. inr t) (among_either c xs ys (among_later c x (xs ++ ys) h has)))

-- what stands alone in a list is that which stands there
pub stands_alone : {A : Type 0} (a x : A) → Stands x (a ∷ []) → a ≡ x
stands_alone a x (zero, e) = some-injective a x e
stands_alone a x (suc i, e) = absurd (some-ne-none x (sym e))

pub stands_left : {A : Type 0} (x : A) (xs ys : List A) → Stands x xs → Stands x (xs ++ ys)
stands_left x [] ys (i, e) = absurd (some-ne-none x (sym e))
stands_left x (z ∷ xs) ys (zero, e) = (zero, e)
stands_left x (z ∷ xs) ys (suc i, e) = let r = stands_left x xs ys (i, e) in (suc r.0, r.1)

pub stands_right : {A : Type 0} (x : A) (xs ys : List A) → Stands x ys → Stands x (xs ++ ys)
stands_right x [] ys s = s
stands_right x (z ∷ xs) ys s = let r = stands_right x xs ys s in (suc r.0, r.1)

pub stands_either : {A : Type 0} (xs ys : List A) (x : A) → Stands x (xs ++ ys) → Stands x xs ⊎ Stands x ys
stands_either [] ys x s = inr s
stands_either (z ∷ xs) ys x (zero, e) = inl (0, e)
stands_either (z ∷ xs) ys x (suc i, e) = ⊎_elim (λ t. inl (suc t.0, t.1)) (λ t. inr t) (stands_either xs ys x (i, e))
