-- Words have no marks in them, so what was written with marks between is read piece by piece.
use Rattle.std.proofs.Common.{◌≡◌, ℕ, zero, suc, ◌+◌, ◌-◌, ◌*◌, ◌^◌, ◌<◌, ◌≤◌, List, [], ◌∷◌, ◌++◌, length, get_or}
use Rattle.std.proofs.Common.{Bool, true, false, refl, sym, ap, ◌∙◌, subst, append_assoc, append-nil, eq-eqb, lt-ltb, le-leb, true≢false, IsTrue, arith}
use Rattle.std.specs.Prelude.{Option, Some, None, nat_eq, nat_le, nat_lt, decimal, if◌then◌else◌, ◌&&◌}
use Rattle.std.specs.List.{list_all, AllByRecursion}
use Rattle.std.proofs.lemmas.Fmt.{decimal_nonempty, first_decimal, decimal_digit, digits_decimal, digits_value-decimal}
use Rattle.std.proofs.lemmas.Str.Parse.{numerals_by_fold}
use Rattle.hb_tree.specs.Spelling.{is_digit, is_word, is_word_byte}
use Rattle.hb_deriv_text.specs.Text.{line_and_column}
use Rattle.hb_deriv_text.specs.Reading.{◌>>?◌, behind, split_from, split, number_from, number, place_in}
use Rattle.hb_deriv_text.proofs.SpellingLemmas.{Digits, tells, value_from, folds, both_true}
use Rattle.hb_deriv_text.proofs.TextLemmas.{other_number}

pub then_is : {A B : Type 0} (o : Option A) (f : A → Option B) (x : A) (r : Option B) → o ≡ Some x → f x ≡ r → (o >>? f) ≡ r
then_is {A} o f x r h k = ap (λ (p : Option A). p >>? f) h ∙ k

pub both : (a b : Bool) → a ≡ true → b ≡ true → a && b ≡ true
both true b h k = k
both false b h k = absurd (true≢false (sym h))

pub if_true : {A : Type 0} (b : Bool) (x y : A) → b ≡ true → (if b then x else y) ≡ x
if_true true x y h = refl
if_true false x y h = absurd (true≢false (sym h))

pub if_false : {A : Type 0} (b : Bool) (x y : A) → b ≡ false → (if b then x else y) ≡ y
if_false true x y h = absurd (true≢false h)
if_false false x y h = refl

pub same : (n : ℕ) → nat_eq n n ≡ true
same n = eq-eqb n n refl

-- ── words without a mark ──

-- no byte of a word is the mark
abbrev pub Lacks : ℕ → List ℕ → Type 0
Lacks mark bytes = AllByRecursion (λ b. nat_eq b mark ≡ false) bytes

pub lacks_join : (mark : ℕ) (front rest : List ℕ) → Lacks mark front → Lacks mark rest → Lacks mark (front ++ rest)
lacks_join mark [] rest h k = k
lacks_join mark (b ∷ front) rest h k = (h.0, lacks_join mark front rest h.1 k)

-- a byte passes a test that the mark does not pass
other : (passes : ℕ → Bool) (mark b : ℕ) → passes mark ≡ false → passes b ≡ true → nat_eq b mark ≡ false
other passes mark b h k = other_number b mark (λ e. true≢false (sym k ∙ ap passes e ∙ h))

lacks_all : (passes : ℕ → Bool) (mark : ℕ) (bytes : List ℕ) → passes mark ≡ false → list_all passes bytes ≡ true → Lacks mark bytes
lacks_all passes mark [] h k = tt
lacks_all passes mark (b ∷ bytes) h k =
    let p = both_true (passes b) (list_all passes bytes) k in
    (other passes mark b h p.0, lacks_all passes mark bytes h p.1)

pub lacks_word : (is_first : ℕ → Bool) (mark : ℕ) (bytes : List ℕ) → is_first mark ≡ false → is_word_byte mark ≡ false → IsTrue (is_word is_first bytes) → Lacks mark bytes
lacks_word is_first mark [] h k s = tt
lacks_word is_first mark (b ∷ bytes) h k s =
    let p = both_true (is_first b) (list_all is_word_byte bytes) s in
    (other is_first mark b h p.0, lacks_all is_word_byte mark bytes k p.1)

lacks_digits : (mark : ℕ) (bytes : List ℕ) → is_digit mark ≡ false → Digits bytes → Lacks mark bytes
lacks_digits mark [] h k = tt
lacks_digits mark (b ∷ bytes) h k = (other is_digit mark b h (both (nat_le 48 b) (nat_le b 57) (le-leb 48 b k.0.0) (le-leb b 57 k.0.1)), lacks_digits mark bytes h k.1)

-- ── pieces ──

abbrev parts : List ℕ → List ℕ → Option (List ℕ × List ℕ)
parts before rest = Some (before, rest)

split_written : (before word rest : List ℕ) (mark : ℕ) → Lacks mark word → split_from before mark (word ++ mark ∷ rest) ≡ Some (before ++ word, rest)
split_written before [] rest mark h =
    if_true (nat_eq mark mark) (parts before rest) (split_from (before ++ mark ∷ []) mark rest) (same mark) ∙ ap (λ (l : List ℕ). parts l rest) (sym (append-nil before))
split_written before (b ∷ word) rest mark h =
    if_false (nat_eq b mark) (parts before (word ++ mark ∷ rest)) (split_from (before ++ b ∷ []) mark (word ++ mark ∷ rest)) h.0
    ∙ split_written (before ++ b ∷ []) word rest mark h.1 ∙ ap (λ (l : List ℕ). parts l rest) (append_assoc before (b ∷ []) word)

pub split_at_mark : (word rest : List ℕ) (mark : ℕ) → Lacks mark word → split mark (word ++ mark ∷ rest) ≡ Some (word, rest)
split_at_mark word rest mark h = split_written [] word rest mark h

pub behind_written : (prefix rest : List ℕ) → behind prefix (prefix ++ rest) ≡ Some rest
behind_written [] rest = refl
behind_written (p ∷ prefix) rest = if_true (nat_eq p p) (behind prefix (prefix ++ rest)) None (same p) ∙ behind_written prefix rest

-- ── numbers ──

grows : (n : ℕ) (bytes : List ℕ) → n ≤ value_from n bytes
grows n [] = omega arith
grows n (b ∷ bytes) = let more = grows (n * 10 + (b - 48)) bytes in omega (arith, more)

below : (m n : ℕ) → m ≤ n → n < 2 ^ 32 → m < 2 ^ 32
below m n h k = omega (arith, h, k)

number_is_read : (n : ℕ) (bytes : List ℕ) → Digits bytes → value_from n bytes < 2 ^ 32 → number_from n bytes ≡ Some (value_from n bytes)
number_is_read n [] d h = refl
number_is_read n (b ∷ bytes) d h =
    if_true (is_digit b && nat_lt (n * 10 + (b - 48)) (2 ^ 32)) (number_from (n * 10 + (b - 48)) bytes) None
    (both (is_digit b) (nat_lt (n * 10 + (b - 48)) (2 ^ 32)) (both (nat_le 48 b) (nat_le b 57) (le-leb 48 b d.0.0) (le-leb b 57 d.0.1))
    (lt-ltb (n * 10 + (b - 48)) (2 ^ 32) (below (n * 10 + (b - 48)) (value_from (n * 10 + (b - 48)) bytes) (grows (n * 10 + (b - 48)) bytes) h)))
    ∙ number_is_read (n * 10 + (b - 48)) bytes d.1 h

whole_number : (word : List ℕ) (n : ℕ) → 0 < length word → (0 < n → 48 < get_or word 0 0) → (n ≡ 0 → word ≡ 48 ∷ []) → number_from 0 word ≡ Some n → number word ≡ Some n
whole_number [] n some lead none h = absurd (omega arith)
whole_number (b ∷ []) n some lead none h = h
whole_number (b ∷ c ∷ bytes) zero some lead none h = absurd (longer (none refl))
  where
    longer : b ∷ c ∷ bytes ≡ 48 ∷ [] → ⊥
    longer e = cc
whole_number (b ∷ c ∷ bytes) (suc n) some lead none h =
    if_false (nat_eq b 48) None (number_from 0 (b ∷ c ∷ bytes)) (other_number b 48 (λ e. above e (lead (omega arith)))) ∙ h
  where
    above : b ≡ 48 → 48 < b → ⊥
    above e k = omega arith

pub number_written : (n : ℕ) → n < 2 ^ 32 → number (decimal n) ≡ Some n
number_written n h =
    let small : n < 2 ^ 64 = omega (arith, h) in
    let value : value_from 0 (decimal n) ≡ n = digits_value-decimal (numerals_by_fold Digits tells value_from folds) n small in
    whole_number (decimal n) n (decimal_nonempty n small) (λ k. first_decimal n k small) (λ e. ap decimal e ∙ decimal_digit 0 (omega arith))
    (subst (λ m. number_from 0 (decimal n) ≡ Some m) value
    (number_is_read 0 (decimal n) (digits_decimal (numerals_by_fold Digits tells value_from folds) n small) (subst (λ m. m < 2 ^ 32) (sym value) h)))

lacks_number : (mark n : ℕ) → is_digit mark ≡ false → n < 2 ^ 32 → Lacks mark (decimal n)
lacks_number mark n h k =
    let small : n < 2 ^ 64 = omega (arith, k) in
    lacks_digits mark (decimal n) h (digits_decimal (numerals_by_fold Digits tells value_from folds) n small)

-- ── places ──

-- what is left to read of a place
abbrev place_at_column : ℕ → ℕ → Option (ℕ × ℕ)
place_at_column line column = Some (line, column)

abbrev place_on_line : List ℕ → ℕ → Option (ℕ × ℕ)
place_on_line word line = number word >>? place_at_column line

abbrev place_of_words : List ℕ × List ℕ → Option (ℕ × ℕ)
place_of_words p = number p.0 >>? place_on_line p.1

pub place_written : (p : ℕ × ℕ) → p.0 < 2 ^ 32 → p.1 < 2 ^ 32 → place_in (line_and_column (Some p)) ≡ Some p
place_written p h k =
    ap place_in (append_assoc (decimal p.0) (58 ∷ []) (decimal p.1))
    ∙ then_is (split 58 (decimal p.0 ++ 58 ∷ decimal p.1)) place_of_words (decimal p.0, decimal p.1) (Some p) (split_at_mark (decimal p.0) (decimal p.1) 58 (lacks_number 58 p.0 refl h))
    (then_is (number (decimal p.0)) (place_on_line (decimal p.1)) p.0 (Some p) (number_written p.0 h)
    (then_is (number (decimal p.1)) (place_at_column p.0) p.1 (Some p) (number_written p.1 k) refl))

pub lacks_place : (mark : ℕ) (p : ℕ × ℕ) → is_digit mark ≡ false → nat_eq 58 mark ≡ false → p.0 < 2 ^ 32 → p.1 < 2 ^ 32 → Lacks mark (line_and_column (Some p))
lacks_place mark p h other h0 h1 =
    lacks_join mark (decimal p.0 ++ 58 ∷ []) (decimal p.1) (lacks_join mark (decimal p.0) (58 ∷ []) (lacks_number mark p.0 h h0) (other, tt)) (lacks_number mark p.1 h h1)
