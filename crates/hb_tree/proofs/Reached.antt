-- What nodes cost that are reached once each.
use Rattle.std.proofs.Common.{◌≡◌, subst, ℕ, zero, suc, ◌<◌, ◌≤◌, ◌+◌, ◌*◌, List, [], ◌∷◌, ◌++◌, refl, sym, ap, arith, inl, inr, ◌⊎◌, false}
use Rattle.std.specs.{Prelude.nat_eq, Prelude.if◌then◌else◌, List.AllByRecursion, List.IsDistinct}
use Rattle.std.proofs.{lemmas.Bool.eq-eqb, lemmas.Bool.Decides.eqb_tells}
use Rattle.hb_tree.proofs.Lists.{each_append}

-- the sum over a list
abbrev pub total : {X : Type 0} → (X → ℕ) → List X → ℕ
total f [] = 0
total f (x ∷ xs) = f x + total f xs

pub total-append : {X : Type 0} (f : X → ℕ) (xs ys : List X) → total f (xs ++ ys) ≡ total f xs + total f ys
total-append f [] ys = omega arith
total-append f (x ∷ xs) ys = let rest = total-append f xs ys in omega arith

abbrev pub same : ℕ → ℕ → ℕ
same j x = if nat_eq j x then 1 else 0

-- how often a number stands in a list
abbrev pub times : ℕ → List ℕ → ℕ
times j xs = total (same j) xs

same-yes : (j x : ℕ) → j ≡ x → same j x ≡ 1
same-yes j x e = rw (eq-eqb j x e)

same-no : (j x : ℕ) → nat_eq j x ≡ false → same j x ≡ 0
same-no j x e = rw e

none_of_distinct : (j x : ℕ) (xs : List ℕ) → j ≡ x → AllByRecursion (λ y. nat_eq x y ≡ false) xs → times j xs ≡ 0
none_of_distinct j x [] e h = refl
none_of_distinct j x (y ∷ xs) e h =
    let first = same-no j y (subst (λ z. nat_eq z y ≡ false) (sym e) h.0) in
    let rest = none_of_distinct j x xs e h.1 in omega arith

pub once_of_distinct : (j : ℕ) (xs : List ℕ) → IsDistinct nat_eq xs → times j xs ≤ 1
unfolding IsDistinct
once_of_distinct j [] d = omega arith
once_of_distinct j (x ∷ xs) d = elim (eqb_tells j x) [ inl h ↦ there h.1 | inr h ↦ behind h.0 (once_of_distinct j xs d.1) ]
  where
    there : j ≡ x → times j (x ∷ xs) ≤ 1
    there e = let first = same-yes j x e in let rest = none_of_distinct j x xs e d.0 in omega arith

    behind : nat_eq j x ≡ false → times j xs ≤ 1 → times j (x ∷ xs) ≤ 1
    behind e rest = let first = same-no j x e in omega arith

-- how often a number is a part of those below k
abbrev pub before : (ℕ → List ℕ) → ℕ → ℕ → ℕ
before parts zero j = 0
before parts (suc k) j = times j (parts k) + before parts k j

module _ (cost : ℕ → ℕ) where
  -- numbers up to k, of which none is k
  below_if_none : (k : ℕ) (xs : List ℕ) → AllByRecursion (λ j. j < suc k) xs → times k xs ≡ 0 → AllByRecursion (λ j. j < k) xs
  below_if_none k [] h none = tt
  below_if_none k (x ∷ xs) h none = elim (eqb_tells k x) [ inl e ↦ there e.1 | inr e ↦ (behind e.1, below_if_none k xs h.1 (omega arith)) ]
    where
      there : k ≡ x → AllByRecursion (λ j. j < k) (x ∷ xs)
      there e = let first = same-yes k x e in absurd (omega arith)

      behind : (k ≡ x → ⊥) → x < k
      behind e = let within : x < suc k = h.0 in omega (arith, e)

  record Taken (k : ℕ) (xs : List ℕ) : Type 0 where
    rest : List ℕ
    sum : total cost xs ≡ cost k + total cost rest
    below : AllByRecursion (λ j. j < k) rest
    fewer : (j : ℕ) → times j rest ≤ times j xs

  -- k is none of the numbers, or it is taken from them
  take_one : (k : ℕ) (xs : List ℕ) → AllByRecursion (λ j. j < suc k) xs → times k xs ≤ 1 → AllByRecursion (λ j. j < k) xs ⊎ Taken k xs
  take_one k [] h once = inl tt
  take_one k (x ∷ xs) h once = elim (eqb_tells k x) [ inl e ↦ there e.1 | inr e ↦ behind e.0 e.1 (take_one k xs h.1 (omega arith)) ]
    where
      there : k ≡ x → AllByRecursion (λ j. j < k) (x ∷ xs) ⊎ Taken k (x ∷ xs)
      there e =
          let first = same-yes k x e in
          let price = ap cost e in
          inr (record { rest = xs; sum = omega arith; below = below_if_none k xs h.1 (omega arith); fewer = λ j. omega arith })

      behind : nat_eq k x ≡ false → (k ≡ x → ⊥) → AllByRecursion (λ j. j < k) xs ⊎ Taken k xs → AllByRecursion (λ j. j < k) (x ∷ xs) ⊎ Taken k (x ∷ xs)
      behind e apart taken =
          let within : x < suc k = h.0 in
          let less : x < k = omega (arith, apart) in
          elim taken [
            | inl below ↦ inl (less, below)
            | inr t ↦ inr (record { rest = x ∷ t.rest; sum = (let s = t.sum in omega arith); below = (less, t.below); fewer = λ j. (let f = t.fewer j in omega arith) })
          ]

  module _ (parts : ℕ → List ℕ) where
    -- what numbers cost that are reached once each, where each costs at most 2,100 and its parts
    pub reached_once : ((k : ℕ) → cost k ≤ 2100 + total cost (parts k)) → ((k : ℕ) → AllByRecursion (λ j. j < k) (parts k))
        → (k : ℕ) (xs : List ℕ) → AllByRecursion (λ j. j < k) xs → ((j : ℕ) → times j xs + before parts k j ≤ 1) → total cost xs ≤ 2100 * k
    reached_once step low zero [] h once = omega arith
    reached_once step low zero (x ∷ xs) h once = let none : x < 0 = h.0 in absurd (omega arith)
    reached_once step low (suc k) xs h once = elim (take_one k xs h (let o = once k in omega arith))
        [ inl below ↦ without (reached_once step low k xs below) | inr t ↦ with_one t (reached_once step low k (parts k ++ t.rest) (each_append (λ j. j < k) (parts k) t.rest (low k) t.below)) ]
      where
        without : (((j : ℕ) → times j xs + before parts k j ≤ 1) → total cost xs ≤ 2100 * k) → total cost xs ≤ 2100 * suc k
        without go = let rest = go (λ j. (let o = once j in omega arith)) in omega arith

        with_one : (t : Taken k xs) → (((j : ℕ) → times j (parts k ++ t.rest) + before parts k j ≤ 1) → total cost (parts k ++ t.rest) ≤ 2100 * k) → total cost xs ≤ 2100 * suc k
        with_one t go =
            let rest = go (λ j. (let o = once j in let f = t.fewer j in let a = total-append (same j) (parts k) t.rest in omega arith)) in
            let sum = t.sum in let a = total-append cost (parts k) t.rest in let s = step k in omega arith
