-- What is written for 1, 2, and so on up to a number.
use Rattle.std.proofs.Common.{◌≡◌, ◌∙◌, ap, sym, subst, ℕ, zero, suc, ◌+◌, List, ◌++◌, arith, append_assoc, append-nil}
use Rattle.std.specs.List.{flat_map, range_with_len}
use Rattle.hb_gen.specs.Generated.{numbers}

more : (f : ℕ → List ℕ) (a k : ℕ) → flat_map f (range_with_len a (suc k)) ≡ flat_map f (range_with_len a k) ++ f (a + k)
more f a zero = append-nil (f a) ∙ ap f (omega arith)
more f a (suc k) =
    let front = f a ++ flat_map f (range_with_len (a + 1) k) in
    let last : a + 1 + k ≡ a + suc k = omega arith in
    ap (λ (s : List ℕ). f a ++ s) (more f (a + 1) k)
    ∙ sym (append_assoc (f a) (flat_map f (range_with_len (a + 1) k)) (f (a + 1 + k)))
    ∙ ap (λ (n : ℕ). front ++ f n) last

-- behind what is written for the numbers before comes what is written for the next one
pub one_more : (f : ℕ → List ℕ) (start now new : List ℕ) (i : ℕ) → now ≡ start ++ flat_map f (numbers i) → new ≡ now ++ f (i + 1) → new ≡ start ++ flat_map f (numbers (i + 1))
one_more f start now new i so_far then =
    let next : i + 1 ≡ 1 + i = omega arith in
    let last : suc i ≡ i + 1 = omega arith in
    then
    ∙ ap (λ (s : List ℕ). s ++ f (i + 1)) so_far
    ∙ append_assoc start (flat_map f (numbers i)) (f (i + 1))
    ∙ ap (λ (n : ℕ). start ++ (flat_map f (numbers i) ++ f n)) next
    ∙ ap (λ (s : List ℕ). start ++ s) (sym (more f 1 i))
    ∙ ap (λ (n : ℕ). start ++ flat_map f (numbers n)) last

-- the numbers before the end are all numbers
pub all_of : (f : ℕ → List ℕ) (start now : List ℕ) (i n : ℕ) → now ≡ start ++ flat_map f (numbers i) → i ≡ n → now ≡ start ++ flat_map f (numbers n)
all_of f start now i n h e = subst (λ (k : ℕ). now ≡ start ++ flat_map f (numbers k)) e h
