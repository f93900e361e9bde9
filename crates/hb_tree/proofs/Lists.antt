-- Facts of each element, and lists that go on.
use Rattle.std.proofs.Common.{◌≡◌, subst, ℕ, zero, suc, ◌<◌, ◌≤◌, ◌-◌, List, [], ◌∷◌, ◌++◌, length, take, drop, Option, Some, None, refl, sym, ap, ◌∙◌, arith, get_or, length-append, length-drop, inl, inr, ◌⊎◌}
use Rattle.std.specs.Prelude.{All, IsSomeAnd, nat_eq, false, slice_get, slice_range}
use Rattle.std.specs.List.{AllByRecursion, flat_map, IsDistinct}
use Rattle.std.proofs.lemmas.List.{take-append-le, drop-append-le, get_or_append_left}
use Rattle.std.proofs.lemmas.Option.{slice_get-get_or, slice_get_within, slice_get_cases, none-some, same_Some}
use Rattle.std.proofs.{lemmas.Bool.cases_lt, lemmas.List.Elements.All-from_recursion}
use Rattle.hb_types.specs.declared.ids.NodeId.{NodeId}
use Rattle.hb_tree.specs.{Nodes.numbers_of, Grows.BeginsWith}

-- a weaker fact
pub each_weaker : {X : Type 0} (P Q : X → Type 0) → ((x : X) → P x → Q x) → (xs : List X) → AllByRecursion P xs → AllByRecursion Q xs
each_weaker P Q f [] h = tt
each_weaker P Q f (x ∷ xs) h = (f x h.0, each_weaker P Q f xs h.1)

-- no element stands there, so it is past the end
pub past_none : {X : Type 0} (xs : List X) (i : ℕ) → slice_get xs i ≡ None → length xs ≤ i
past_none xs i e = elim (slice_get_cases xs i).1 [ inl h ↦ absurd (none-some h.0 (sym e ∙ h.2)) | inr h ↦ h.0 ]

module _ {X : Type 0} (xs ys : List X) (grown : BeginsWith xs ys) where
  pub length-begins : length xs ≤ length ys
  length-begins = omega (arith, ap length grown.1, length-append xs grown.0)

  pub slice_get-begins : (i : ℕ) (x : X) → slice_get xs i ≡ Some x → slice_get ys i ≡ Some x
  slice_get-begins i x e =
      let within : i < length xs = slice_get_within xs i x e in
      let within' : i < length ys = omega (arith, length-begins) in
      slice_get-get_or ys i x within'
      ∙ ap Some (ap (λ zs. get_or zs i x) grown.1 ∙ get_or_append_left xs grown.0 x i within)
      ∙ sym (slice_get-get_or xs i x within) ∙ e

  pub slice_get-within : (i : ℕ) → i < length xs → slice_get ys i ≡ slice_get xs i
  slice_get-within i within = go (slice_get xs i) refl
    where
      go : (o : Option X) → slice_get xs i ≡ o → slice_get ys i ≡ slice_get xs i
      go None e = let past = past_none xs i e in absurd (omega arith)
      go (Some x) e = slice_get-begins i x e ∙ sym e

  pub slice_range-begins : (a b : ℕ) → b ≤ length xs → slice_range ys a b ≡ slice_range xs a b
  slice_range-begins a b within = elim (cases_lt b a) [ inl h ↦ nothing h | inr h ↦ something h ]
    where
      nothing : b < a → slice_range ys a b ≡ slice_range xs a b
      nothing h = let none : b - a ≡ 0 = omega arith in rw none

      something : a ≤ b → slice_range ys a b ≡ slice_range xs a b
      something h =
          let start : a ≤ length xs = omega arith in
          let room : b - a ≤ length (drop a xs) = omega (arith, length-drop a xs) in
          ap (λ zs. slice_range zs a b) grown.1 ∙ ap (take (b - a)) (drop-append-le a xs grown.0 start) ∙ take-append-le (b - a) (drop a xs) grown.0 room

-- and a fact of two lists
pub each_append : {X : Type 0} (P : X → Type 0) (xs ys : List X) → AllByRecursion P xs → AllByRecursion P ys → AllByRecursion P (xs ++ ys)
each_append P [] ys h k = k
each_append P (x ∷ xs) ys h k = (h.0, each_append P xs ys h.1 k)

-- the fact at one element
pub each_at : {X : Type 0} (P : X → Type 0) (xs : List X) (i : ℕ) (x : X) → slice_get xs i ≡ Some x → AllByRecursion P xs → P x
each_at P [] i x e h = absurd (none-some x e)
each_at P (y ∷ ys) zero x e h = subst P (same_Some y x e) h.0
each_at P (y ∷ ys) (suc i) x e h = each_at P ys i x e h.1

-- and each element's fact from that at each place
pub each_from : {X : Type 0} (P : X → Type 0) (xs : List X) → ((i : ℕ) (x : X) → slice_get xs i ≡ Some x → P x) → AllByRecursion P xs
each_from P [] h = tt
each_from P (x ∷ xs) h = (h 0 x refl, each_from P xs (λ i y e. h (suc i) y e))

-- what holds of an element of a list holds of it in a list that begins with it
pub some_begins : {X : Type 0} (xs ys : List X) → BeginsWith xs ys → (P : X → Type 0) (i : ℕ) → IsSomeAnd (slice_get xs i) P → IsSomeAnd (slice_get ys i) P
some_begins {X} xs ys grown P i h = go (slice_get xs i) refl h
  where
    go : (o : Option X) → slice_get xs i ≡ o → IsSomeAnd o P → IsSomeAnd (slice_get ys i) P
    go None e k = absurd k
    go (Some x) e k = subst (λ o. IsSomeAnd o P) (sym (slice_get-begins xs ys grown i x e)) k

-- two functions that are alike at each element map to the same lists
pub flat_map_alike : {X Y : Type 0} (f g : X → List Y) (xs : List X) → AllByRecursion (λ x. f x ≡ g x) xs → flat_map f xs ≡ flat_map g xs
flat_map_alike f g [] h = refl
flat_map_alike f g (x ∷ xs) h = rw (h.0, flat_map_alike f g xs h.1) refl

pub All-numbers_of : (P : ℕ → Type 0) (is : List NodeId) → AllByRecursion P (numbers_of is) → All (λ i. P i.0) is
All-numbers_of P is h = All-from_recursion (λ i. P i.0) is (go is h)
  where
    go : (js : List NodeId) → AllByRecursion P (numbers_of js) → AllByRecursion (λ i. P i.0) js
    go [] k = tt
    go (j ∷ js) k = (k.0, go js k.1)
