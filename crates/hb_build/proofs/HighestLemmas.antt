-- The greatest height of the last trees in hand.
use Rattle.std.proofs.Common.{◌≡◌, ℕ, zero, suc, ◌+◌, List, [], ◌∷◌, ◌++◌, Some, refl, ◌∙◌, ap, subst, max, reverse, take, slice_get, arith, add-one}
use Rattle.std.proofs.lemmas.List.{reverse-append}
use Rattle.std.specs.Option.{option_map}
use Rattle.hb_draft.specs.Unfinished.{forest_of}
use Rattle.hb_tree.specs.{Tree.Tree, Counts.height, Counts.highest}

abbrev pub tallest : List Tree → ℕ
tallest [] = 0
tallest (t ∷ ts) = max (height t) (tallest ts)

pub tallest-next : (hand : List Tree) (n h : ℕ) → option_map height (slice_get hand n) ≡ Some h → tallest (take (n + 1) hand) ≡ max (tallest (take n hand)) h
tallest-next [] n h e = absurd (cc)
tallest-next (t ∷ hand) zero h e = let same : Some (height t) ≡ Some h = e in let k : height t ≡ h = cc in omega (arith, k)
tallest-next (t ∷ hand) (suc n) h e = rw add-one (let k : tallest (take (n + 1) hand) ≡ max (tallest (take n hand)) h = tallest-next hand n h e in
    let k2 : tallest (take (suc n) hand) ≡ max (tallest (take n hand)) h = subst (λ (x : ℕ). tallest (take x hand) ≡ max (tallest (take n hand)) h) (add-one n) k in omega (arith, k2))

highest-append : (xs : List Tree) (t : Tree) → highest (forest_of (xs ++ t ∷ [])) ≡ max (highest (forest_of xs)) (height t)
highest-append [] t = omega arith
highest-append (x ∷ xs) t = let h : highest (forest_of (xs ++ t ∷ [])) ≡ max (highest (forest_of xs)) (height t) = highest-append xs t in omega (arith, h)

pub highest-tallest : (ts : List Tree) → highest (forest_of (reverse ts)) ≡ tallest ts
highest-tallest [] = refl
highest-tallest (t ∷ ts) =
    let h : highest (forest_of (reverse ts)) ≡ tallest ts = highest-tallest ts in
    let a : highest (forest_of (reverse ts ++ t ∷ [])) ≡ max (highest (forest_of (reverse ts))) (height t) = highest-append (reverse ts) t in
    ap (λ (x : List Tree). highest (forest_of x)) (reverse-append (t ∷ []) ts) ∙ omega (arith, a, h)
