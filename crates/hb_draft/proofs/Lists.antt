-- Lists that are joined: what holds of each element, and elements that differ.
use Rattle.std.proofs.Common.{◌≡◌, ℕ, zero, suc, ◌+◌, ◌<◌, ◌⊎◌, Bool, false, List, [], ◌∷◌, ◌++◌, length, Some, refl, arith, inl, inr, flat_map}
use Rattle.std.specs.Prelude.{slice_get, nat_eq}
use Rattle.std.specs.List.{AllByRecursion, IsDistinct, list_any}
use Rattle.std.proofs.lemmas.Cmp.{nat_eq_equiv}
use Rattle.std.proofs.lemmas.Map.Keys.{IsDistinct-push}
use Rattle.std.proofs.lemmas.Bool.{ne_eqb}
use Rattle.std.proofs.lemmas.Option.{none-some}

module _ {X : Type 0} where
  pub each-append : (P : X → Type 0) (xs ys : List X) → AllByRecursion P xs → AllByRecursion P ys → AllByRecursion P (xs ++ ys)
  each-append P [] ys h k = k
  each-append P (x ∷ xs) ys h k = (h.0, each-append P xs ys h.1 k)

  pub each-front : (P : X → Type 0) (xs ys : List X) → AllByRecursion P (xs ++ ys) → AllByRecursion P xs
  each-front P [] ys h = tt
  each-front P (x ∷ xs) ys h = (h.0, each-front P xs ys h.1)

  pub each-back : (P : X → Type 0) (xs ys : List X) → AllByRecursion P (xs ++ ys) → AllByRecursion P ys
  each-back P [] ys h = h
  each-back P (x ∷ xs) ys h = each-back P xs ys h.1

  pub each_both : (P Q R : X → Type 0) → ((x : X) → P x → Q x → R x) → (xs : List X) → AllByRecursion P xs → AllByRecursion Q xs → AllByRecursion R xs
  each_both P Q R f [] h k = tt
  each_both P Q R f (x ∷ xs) h k = (f x h.0 k.0, each_both P Q R f xs h.1 k.1)

  -- an element of joined lists stands in the first or in the second
  pub slice_get-append : (xs ys : List X) (i : ℕ) (x : X) → slice_get (xs ++ ys) i ≡ Some x → (slice_get xs i ≡ Some x) ⊎ ((k : ℕ) × (i ≡ length xs + k) × (slice_get ys k ≡ Some x))
  slice_get-append [] ys i x e = inr (i, omega arith, e)
  slice_get-append (y ∷ xs) ys zero x e = inl e
  slice_get-append (y ∷ xs) ys (suc i) x e = elim (slice_get-append xs ys i x e) [ inl h ↦ inl h | inr h ↦ inr (h.0, omega (arith, h.1), h.2) ]

  -- the last element stands at the length of those before it
  pub slice_get-last : (xs : List X) (x : X) → slice_get (xs ++ x ∷ []) (length xs) ≡ Some x
  slice_get-last [] x = refl
  slice_get-last (y ∷ xs) x = slice_get-last xs x

  pub slice_get-single : (x y : X) (k : ℕ) → slice_get (x ∷ []) k ≡ Some y → (k ≡ 0) × (y ≡ x)
  slice_get-single x y zero e = (refl, cc)
  slice_get-single x y (suc k) e = absurd (none-some y e)

  -- elements that differ still do without those behind them
  pub IsDistinct-front : (eq : X → X → Bool) (xs ys : List X) → IsDistinct eq (xs ++ ys) → IsDistinct eq xs
  unfolding IsDistinct
  IsDistinct-front eq [] ys h = tt
  IsDistinct-front eq (x ∷ xs) ys h = (each-front (λ y. eq x y ≡ false) xs ys h.0, IsDistinct-front eq xs ys h.1)

pub each-flat_map : {X Y : Type 0} (P : Y → Type 0) (f : X → List Y) (xs : List X) → AllByRecursion (λ x. AllByRecursion P (f x)) xs → AllByRecursion P (flat_map f xs)
each-flat_map P f [] h = tt
each-flat_map P f (x ∷ xs) h = each-append P (f x) (flat_map f xs) h.0 (each-flat_map P f xs h.1)

-- a number is none of those below it
none_equal : (id : ℕ) (js : List ℕ) → AllByRecursion (λ j. j < id) js → list_any (nat_eq id) js ≡ false
none_equal id [] h = refl
none_equal id (j ∷ js) h = rw (ne_eqb id j (omega (arith, h.0)), none_equal id js h.1) refl

-- a number differs from those below it
pub IsDistinct-next : (id : ℕ) (js : List ℕ) → AllByRecursion (λ j. j < id) js → IsDistinct nat_eq js → IsDistinct nat_eq (js ++ id ∷ [])
IsDistinct-next id js below h = IsDistinct-push nat_eq_equiv js id h (none_equal id js below)
