-- How long the run of one thing on top of a pile is.
use Rattle.std.proofs.Common.{◌≡◌, ◌≤◌, ◌+◌, ◌<◌, ◌-◌, ℕ, List, [], ◌∷◌, Some, length, take, reverse, get_or, arith, subst, sym, ◌∙◌}
use Rattle.std.specs.List.{AllByRecursion, slice_get}
use Rattle.std.proofs.{lemmas.List.take_more, lemmas.List.get_or-reverse, lemmas.List.length-reverse, lemmas.Option.get_or_from_slice_get, lemmas.Option.slice_get_within}
use Rattle.hb_draft.proofs.Lists.{each-append}

-- lists that are equal go on alike
pub tail : {X : Type 0} {x y : X} {xs ys : List X} → x ∷ xs ≡ y ∷ ys → xs ≡ ys
tail e = cc

-- one more of the last things is this one
pub run-more : {X : Type 0} (xs : List X) (k : ℕ) (x d : X) → k < length xs → get_or xs (length xs - 1 - k) d ≡ x
    → AllByRecursion (λ t. t ≡ x) (take k (reverse xs)) → AllByRecursion (λ t. t ≡ x) (take (k + 1) (reverse xs))
run-more xs k x d h e same =
    let within : k < length (reverse xs) = omega (arith, length-reverse xs) in
    subst (AllByRecursion (λ t. t ≡ x)) (sym (take_more (reverse xs) k d within))
    (each-append (λ t. t ≡ x) (take k (reverse xs)) (get_or (reverse xs) k d ∷ []) same (get_or-reverse xs k d h ∙ e, tt))

-- what stands there from the end
pub run-stops : {X : Type 0} (xs : List X) (k : ℕ) (x d : X) → k < length xs → slice_get (reverse xs) k ≡ Some x → get_or xs (length xs - 1 - k) d ≡ x
run-stops xs k x d h e = sym (get_or-reverse xs k d h) ∙ get_or_from_slice_get (reverse xs) k x d e

pub run-over : {X : Type 0} (xs : List X) (k : ℕ) (x : X) → length xs ≤ k → slice_get (reverse xs) k ≡ Some x → ⊥
run-over xs k x h e =
    let within : k < length (reverse xs) = slice_get_within (reverse xs) k x e in
    omega (arith, length-reverse xs)
