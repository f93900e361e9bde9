-- Bytes in words.
use Rattle.std.proofs.Common.{◌≡◌, ℕ, zero, suc, ◌+◌, ◌-◌, ◌*◌, ◌/◌, ◌%◌, ◌^◌, ◌<◌, ◌≤◌, ◌≢◌, List, [], ◌∷◌, length, drop, get_or, refl, ap, ◌∙◌, arith}
use Rattle.std.proofs.Math.Nat.{pow-le-pow_right}
use native.Mathlib.Numerals.{unary_clauses}
use Rattle.hb_names.specs.Names.{Name}
use Rattle.hb_row.specs.Row.{packed, spelt, IsValid}
use Rattle.hb_row.specs.Spelling.{IsSpelt}

drop_one : (i : ℕ) (xs : List ℕ) → drop 1 (drop i xs) ≡ drop (suc i) xs
drop_one zero xs = refl
drop_one (suc i) [] = refl
drop_one (suc i) (x ∷ xs) = drop_one i xs

drop_first : (i : ℕ) (xs : List ℕ) → get_or (drop i xs) 0 0 ≡ get_or xs i 0
drop_first zero xs = refl
drop_first (suc i) [] = refl
drop_first (suc i) (x ∷ xs) = drop_first i xs

-- one byte more
packed_next : (n i : ℕ) (xs : List ℕ) → packed (suc n) (drop i xs) ≡ get_or xs i 0 + 256 * packed n (drop (suc i) xs)
unfolding packed
packed_next n i xs = λ k. drop_first i xs k + 256 * packed n (drop_one i xs k)

pub packed_more : (n m i j : ℕ) (xs : List ℕ) → m ≡ 1 + n → j ≡ 1 + i → packed m (drop i xs) ≡ get_or xs i 0 + 256 * packed n (drop j xs)
packed_more n m i j xs is is' = ap (λ z. packed z (drop i xs)) (let e : m ≡ suc n = omega arith in e) ∙ packed_next n i xs
    ∙ ap (λ z. get_or xs i 0 + 256 * packed n (drop z xs)) (let e : suc i ≡ j = omega arith in e)

pub packed_none : (n : ℕ) → packed n [] ≡ 0
unfolding packed
packed_none zero = refl
packed_none (suc n) = let e = packed_none n in omega arith

pub packed_zero : (xs : List ℕ) → packed 0 xs ≡ 0
unfolding packed
packed_zero xs = refl

packed_below : (n i : ℕ) (xs : List ℕ) → ((k : ℕ) → get_or xs k 0 < 256) → packed n (drop i xs) < 256 ^ n
packed_below zero i xs low = let e = packed_zero (drop i xs) in omega arith
packed_below (suc n) i xs low = let e = packed_next n i xs in let h = packed_below n (suc i) xs low in let l = low i in
    let p : ℕ = packed n (drop (suc i) xs) in let q : ℕ = 256 ^ n in let f : 256 ^ suc n ≡ q * 256 = simp unary_clauses refl in omega (arith, f)

-- up to seven bytes leave room for one more
pub packed_room : (n i : ℕ) (xs : List ℕ) → n < 8 → ((k : ℕ) → get_or xs k 0 < 256) → packed n (drop i xs) < 72057594037927936
packed_room n i xs l low = let h = packed_below n i xs low in let m : 256 ^ n ≤ 256 ^ 7 = pow-le-pow_right {n = 256} (omega arith) {i = n} {j = 7} (omega arith) in omega (arith, h, m)

pub spelt_first : (name : Name) → spelt name 0 ≡ 256 * name.0 + length name.1
unfolding spelt
spelt_first name = λ _. 256 * name.0 + length name.1

spelt_suc : (name : Name) (j : ℕ) → spelt name (suc j) ≡ packed 8 (drop (8 * j) name.1)
unfolding spelt
spelt_suc name j = λ _. packed 8 (drop (8 * j) name.1)

pub spelt_next : (name : Name) (i j : ℕ) → i ≡ 1 + j → spelt name i ≡ packed 8 (drop (8 * j) name.1)
spelt_next name i j is = ap (spelt name) (let e : i ≡ suc j = omega arith in e) ∙ spelt_suc name j

-- the first byte of a word, and what is left of the word
module _ (at word : ℕ) (xs : List ℕ) (low : (k : ℕ) → get_or xs k 0 < 256) (is : word ≡ packed (8 - at % 8) (drop at xs)) where
  split : word ≡ get_or xs at 0 + 256 * packed (7 - at % 8) (drop (at + 1) xs)
  split = is ∙ packed_more (7 - at % 8) (8 - at % 8) at (at + 1) xs (omega arith) (omega arith)

  pub first_byte : word % 256 ≡ get_or xs at 0
  first_byte = let e = split in let l = low at in let p : ℕ = packed (7 - at % 8) (drop (at + 1) xs) in omega (arith, e, l)

  pub left_bytes : (at + 1) % 8 ≢ 0 → word / 256 ≡ packed (8 - (at + 1) % 8) (drop (at + 1) xs)
  left_bytes inside =
      let e = split in let l = low at in let p : ℕ = packed (7 - at % 8) (drop (at + 1) xs) in
      let rest : word / 256 ≡ p = omega (arith, e, l) in let same : 7 - at % 8 ≡ 8 - (at + 1) % 8 = omega (arith, inside) in
      rest ∙ ap (λ z. packed z (drop (at + 1) xs)) same

module _ (name : Name) (valid : IsValid name) (words : List ℕ) (is : IsSpelt name words) where
  first_word : get_or words 0 0 ≡ 256 * name.0 + length name.1
  first_word = is 0 (omega arith) ∙ spelt_first name

  pub class_in : get_or words 0 0 / 256 ≡ name.0
  class_in = let e = first_word in let s = valid.short in omega (arith, e, s)

  pub count_in : get_or words 0 0 % 256 ≡ length name.1
  count_in = let e = first_word in let s = valid.short in omega (arith, e, s)
