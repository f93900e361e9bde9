-- The first elements of a list, and the last ones seen from the end.
use Rattle.std.proofs.Common.{◌≡◌, ℕ, zero, suc, ◌-◌, ◌≤◌, List, [], ◌∷◌, ◌++◌, refl, sym, ◌∙◌, ap, length, reverse, take, drop, slice_get, arith, length-drop}
use Rattle.std.proofs.lemmas.List.{reverse-append, take-append-drop, length-reverse}

drop-front : {X : Type 0} (a b : List X) → drop (length a) (a ++ b) ≡ b
drop-front [] b = refl
drop-front (x ∷ a) b = drop-front a b

pub reverse-take : {X : Type 0} (n : ℕ) (xs : List X) → n ≤ length xs → reverse (take (length xs - n) xs) ≡ drop n (reverse xs)
reverse-take {X = X} n xs le =
    let k : ℕ = length xs - n in
    let cut : reverse xs ≡ reverse (drop (length xs - n) xs) ++ reverse (take (length xs - n) xs) = ap reverse (sym (take-append-drop (length xs - n) xs))
    ∙ reverse-append (take (length xs - n) xs) (drop (length xs - n) xs) in
    let size : length (reverse (drop (length xs - n) xs)) ≡ n = length-reverse (drop (length xs - n) xs) ∙ length-drop (length xs - n) xs ∙ omega (arith, le) in
    sym (ap (λ (ys : List X). drop n ys) cut ∙ ap (λ (m : ℕ). drop m (reverse (drop (length xs - n) xs) ++ reverse (take (length xs - n) xs))) (sym size)
    ∙ drop-front (reverse (drop (length xs - n) xs)) (reverse (take (length xs - n) xs)))

pub slice_get-drop : {X : Type 0} (n : ℕ) (xs : List X) → slice_get (drop n xs) 0 ≡ slice_get xs n
slice_get-drop zero xs = refl
slice_get-drop (suc n) [] = refl
slice_get-drop (suc n) (x ∷ xs) = slice_get-drop n xs
