-- Names that stand in lists.
use Rattle.std.proofs.Common.{◌≡◌, ℕ, zero, suc, ◌<◌, ◌≤◌, ◌⊎◌, inl, inr, true, false, Option, Some, None, true≢false, List, [], ◌∷◌, ◌++◌, length, get_or, sym, refl}
use Rattle.std.proofs.Common.{ap, ◌∙◌, ⊎_elim, subst, arith, length-append}
use Rattle.std.specs.Prelude.{slice_get}
use mathlib.Core.Option.{some, some-injective, some-ne-none}
use mathlib.Core.List.{IsPrefix}
use lib.ListN.{get_elem?}
use Rattle.std.proofs.lemmas.Option.{none-some}
use Rattle.hb_names.specs.Names.{Name, same, place}
use Rattle.hb_names.proofs.NameLemmas.{same-equiv, place-at, place-first}

module _ {A : Type 0} where
  pub within : (l : List A) (i : ℕ) (a : A) → get_elem? l i ≡ some a → i < length l
  within [] i a e = absurd (some-ne-none a (sym e))
  within (x ∷ xs) zero a e = omega arith
  within (x ∷ xs) (suc i) a e = let r = within xs i a e in omega (arith, r)

  pub at_there : (l : List A) (i : ℕ) → i < length l → (a : A) × (get_elem? l i ≡ some a)
  at_there [] i h = absurd (omega arith)
  at_there (x ∷ xs) zero h = (x, refl)
  at_there (x ∷ xs) (suc i) h = at_there xs i (omega arith)

  pub prefix_length : (xs ys : List A) → IsPrefix xs ys → length xs ≤ length ys
  prefix_length xs ys p = omega (arith, sym (ap length p.1) ∙ length-append xs p.0)

  pub prefix_whole : (xs ys : List A) → IsPrefix xs ys → length ys ≤ length xs → xs ≡ ys
  prefix_whole [] [] p le = refl
  prefix_whole [] (y ∷ ys) p le = absurd (omega arith)
  prefix_whole (x ∷ xs) [] p le = absurd (cc (p.1))
  prefix_whole (x ∷ xs) (y ∷ ys) p le = let rest = prefix_whole xs ys (p.0, cc (p.1)) (omega arith) in cc (p.1, rest)

  -- a beginning, and the next of the whole
  pub prefix_next : (xs ys : List A) (a : A) → IsPrefix xs ys → get_elem? ys (length xs) ≡ some a → IsPrefix (xs ++ a ∷ []) ys
  prefix_next [] [] a p e = absurd (some-ne-none a (sym e))
  prefix_next [] (y ∷ ys) a p e = let h : y ≡ a = some-injective y a e in (ys, ap (λ z. z ∷ ys) (sym h))
  prefix_next (x ∷ xs) [] a p e = absurd (cc (p.1))
  prefix_next (x ∷ xs) (y ∷ ys) a p e = let r = prefix_next xs ys a (p.0, cc (p.1)) e in let h : x ≡ y = cc (p.1) in (r.0, λ i. h i ∷ r.1 i)

  -- what stands behind, and where
  pub at_behind : (l : List A) (a b : A) (j : ℕ) → get_elem? (l ++ a ∷ []) j ≡ some b → (get_elem? l j ≡ some b) ⊎ ((j ≡ length l) × (a ≡ b))
  at_behind [] a b zero e = inr (refl, some-injective a b e)
  at_behind [] a b (suc j) e = absurd (some-ne-none b (sym e))
  at_behind (x ∷ xs) a b zero e = inl e
  at_behind (x ∷ xs) a b (suc j) e = ⊎_elim (λ t. inl t) (λ t. inr (ap suc t.0, t.1)) (at_behind xs a b j e)

  pub at_either : (xs ys : List A) (a : A) (i : ℕ) → get_elem? (xs ++ ys) i ≡ some a → ((k : ℕ) × (get_elem? xs k ≡ some a)) ⊎ ((k : ℕ) × (get_elem? ys k ≡ some a))
  at_either [] ys a i e = inr (i, e)
  at_either (x ∷ xs) ys a zero e = inl (0, e)
  at_either (x ∷ xs) ys a (suc i) e = ⊎_elim (λ t. inl (suc t.0, t.1)) (λ t. inr t) (at_either xs ys a i e)

  -- what stands there in place of a blank
  pub any_blank : (l : List A) (i : ℕ) (a b : A) → i < length l → get_or l i a ≡ get_or l i b
  any_blank [] i a b h = absurd (omega arith)
  any_blank (x ∷ xs) zero a b h = refl
  any_blank (x ∷ xs) (suc i) a b h = any_blank xs i a b (omega arith)

  -- the two ways to read a list
  pub to_some : (l : List A) (i : ℕ) (a : A) → slice_get l i ≡ Some a → get_elem? l i ≡ some a
  to_some [] i a e = absurd (none-some a e)
  to_some (x ∷ xs) zero a e = ap some (cc e)
  to_some (x ∷ xs) (suc i) a e = to_some xs i a e

  pub from_some : (l : List A) (i : ℕ) (a : A) → get_elem? l i ≡ some a → slice_get l i ≡ Some a
  from_some [] i a e = absurd (some-ne-none a (sym e))
  from_some (x ∷ xs) zero a e = ap Some (some-injective x a e)
  from_some (x ∷ xs) (suc i) a e = from_some xs i a e

-- a name that stands nowhere has no place, and one that has no place stands nowhere
pub nowhere : (names : List Name) (p : Name) → ((i : ℕ) → get_elem? names i ≡ some p → ⊥) → place names p ≡ None
nowhere names p never = by (place names p) refl
  where
    by : (o : Option ℕ) → place names p ≡ o → place names p ≡ None
    by None e = e
    by (Some k) e = absurd (never k (to_some names k p (place-at names p k e)))

pub never : (names : List Name) (p : Name) → place names p ≡ None → (i : ℕ) → get_elem? names i ≡ some p → ⊥
never names p none i e = let first = place-first names p i (from_some names i p e) in none-some first.0 (sym none ∙ first.1)

-- another name behind changes nothing
pub nowhere_more : (names : List Name) (p q : Name) → place names q ≡ None → same p q ≡ false → place (names ++ p ∷ []) q ≡ None
nowhere_more names p q none other = nowhere (names ++ p ∷ []) q (λ i e. ⊎_elim (λ t. never names q none i t) (λ t. true≢false (sym (subst
    (λ (z : Name). same p z ≡ true) t.1 (same-equiv.refl p)) ∙ other)) (at_behind names p q i e))
