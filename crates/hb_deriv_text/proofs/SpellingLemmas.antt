-- What is read of a line is what stands there.
use Rattle.std.proofs.Common.{◌≡◌, ℕ, ◌+◌, ◌-◌, ◌*◌, ◌^◌, ◌<◌, List, [], ◌∷◌, ◌++◌, length, get_or, Bool, true, false, refl, sym, ap, ◌∙◌, subst, append_assoc, eqb-true, leb-true, ltb-true, eq-eqb, arith}
use Rattle.std.specs.Prelude.{Option, Some, None, nat_eq, nat_le, nat_lt, decimal, if◌then◌else◌, ◌&&◌}
use Rattle.std.specs.Int.{IsInRange}
use Rattle.std.proofs.lemmas.Fmt.{decimal-digits_value}
use Rattle.std.proofs.lemmas.Str.Parse.{IsDigitsTest, FoldsDigits, numerals_by_fold}
use Rattle.hb_tree.specs.Spelling.{is_digit}
use Rattle.hb_deriv_text.specs.Text.{line_and_column}
use Rattle.hb_deriv_text.specs.Reading.{◌>>?◌, behind, split_from, split, number_from, number, place_in}

same_some : {Z : Type 0} (x z : Z) → Some x ≡ Some z → x ≡ z
same_some x z h = cc

pub then_some : {A B : Type 0} (o : Option A) (f : A → Option B) (y : B) → (o >>? f) ≡ Some y → (x : A) × (o ≡ Some x) × (f x ≡ Some y)
then_some None f y h = absurd (cc)
then_some (Some x) f y h = (x, refl, h)

-- ── pieces ──

pub behind_is : (prefix bytes rest : List ℕ) → behind prefix bytes ≡ Some rest → prefix ++ rest ≡ bytes
behind_is [] bytes rest h = sym (same_some bytes rest h)
behind_is (p ∷ prefix) [] rest h = absurd (cc)
behind_is (p ∷ prefix) (b ∷ bytes) rest h = go (nat_eq p b) refl h (behind_is prefix bytes rest)
  where
    go : (c : Bool) → nat_eq p b ≡ c → (if c then behind prefix bytes else None) ≡ Some rest → (behind prefix bytes ≡ Some rest → prefix ++ rest ≡ bytes) → p ∷ (prefix ++ rest) ≡ b ∷ bytes
    go true e h more = ap (λ (x : ℕ). x ∷ (prefix ++ rest)) (eqb-true p b e) ∙ ap (λ (l : List ℕ). b ∷ l) (more h)
    go false e h more = absurd (cc)

split_is_from : (before : List ℕ) (mark : ℕ) (bytes : List ℕ) (parts : List ℕ × List ℕ) → split_from before mark bytes ≡ Some parts → parts.0 ++ mark ∷ parts.1 ≡ before ++ bytes
split_is_from before mark [] parts h = absurd (cc)
split_is_from before mark (b ∷ bytes) parts h = go (nat_eq b mark) refl h (split_is_from (before ++ b ∷ []) mark bytes parts)
  where
    go : (c : Bool) → nat_eq b mark ≡ c → (if c then Some (before, bytes) else split_from (before ++ b ∷ []) mark bytes) ≡ Some parts
        → (split_from (before ++ b ∷ []) mark bytes ≡ Some parts → parts.0 ++ mark ∷ parts.1 ≡ (before ++ b ∷ []) ++ bytes) → parts.0 ++ mark ∷ parts.1 ≡ before ++ b ∷ bytes
    go true e h more =
        ap (λ (p : List ℕ × List ℕ). p.0 ++ mark ∷ p.1) (sym (same_some (before, bytes) parts h)) ∙ ap (λ (x : ℕ). before ++ x ∷ bytes) (sym (eqb-true b mark e))
    go false e h more = more h ∙ append_assoc before (b ∷ []) bytes

pub split_is : (mark : ℕ) (bytes : List ℕ) (parts : List ℕ × List ℕ) → split mark bytes ≡ Some parts → parts.0 ++ mark ∷ parts.1 ≡ bytes
split_is mark bytes parts h = split_is_from [] mark bytes parts h

-- ── numbers ──

abbrev pub Digits : List ℕ → Type 0
Digits [] = Unit {0}
Digits (c ∷ cs) = IsInRange 48 57 c × Digits cs

pub tells : IsDigitsTest Digits
tells = record { empty = tt; parts = λ c cs h. h; more = λ c cs k h. (k, h) }

abbrev pub value_from : ℕ → List ℕ → ℕ
value_from n [] = n
value_from n (b ∷ bytes) = value_from (n * 10 + (b - 48)) bytes

pub folds : FoldsDigits value_from
folds = record { empty = λ n. refl; more = λ n c cs h. refl }

pub both_true : (a b : Bool) → a && b ≡ true → (a ≡ true) × (b ≡ true)
both_true true b h = (refl, h)
both_true false b h = absurd (cc)

record Read (n : ℕ) (bytes : List ℕ) (m : ℕ) : Type 0 where
  pub digits : Digits bytes
  pub value : value_from n bytes ≡ m

numbers_read : (n : ℕ) (bytes : List ℕ) (m : ℕ) → number_from n bytes ≡ Some m → Read n bytes m
numbers_read n [] m h = record { digits = tt; value = same_some n m h }
numbers_read n (b ∷ bytes) m h = go (is_digit b && nat_lt (n * 10 + (b - 48)) (2 ^ 32)) refl h (numbers_read (n * 10 + (b - 48)) bytes m)
  where
    go : (c : Bool) → (is_digit b && nat_lt (n * 10 + (b - 48)) (2 ^ 32)) ≡ c → (if c then number_from (n * 10 + (b - 48)) bytes else None) ≡ Some m
        → (number_from (n * 10 + (b - 48)) bytes ≡ Some m → Read (n * 10 + (b - 48)) bytes m) → Read n (b ∷ bytes) m
    go true e h more =
        let digit = both_true (nat_le 48 b) (nat_le b 57) (both_true (is_digit b) (nat_lt (n * 10 + (b - 48)) (2 ^ 32)) e).0 in
        let rest = more h in
        record { digits = ((leb-true 48 b digit.0, leb-true b 57 digit.1), rest.digits); value = rest.value }
    go false e h more = absurd (cc)

small : (n : ℕ) (bytes : List ℕ) (m : ℕ) → n < 2 ^ 32 → number_from n bytes ≡ Some m → m < 2 ^ 32
small n [] m k h = subst (λ i. i < 2 ^ 32) (same_some n m h) k
small n (b ∷ bytes) m k h = go (is_digit b) (nat_lt (n * 10 + (b - 48)) (2 ^ 32)) refl h (λ j. small (n * 10 + (b - 48)) bytes m j)
  where
    go : (c d : Bool) → nat_lt (n * 10 + (b - 48)) (2 ^ 32) ≡ d → (if c && d then number_from (n * 10 + (b - 48)) bytes else None) ≡ Some m
        → (n * 10 + (b - 48) < 2 ^ 32 → number_from (n * 10 + (b - 48)) bytes ≡ Some m → m < 2 ^ 32) → m < 2 ^ 32
    go true true e h more = more (ltb-true (n * 10 + (b - 48)) (2 ^ 32) e) h
    go true false e h more = absurd (cc)
    go false d e h more = absurd (cc)

spelled : (word : List ℕ) (n : ℕ) → 0 < length word → (get_or word 0 0 ≡ 48 → length word ≡ 1) → number_from 0 word ≡ Some n → decimal n ≡ word
spelled word n some lead h =
    let r = numbers_read 0 word n h in
    let few = small 0 word n (omega arith) h in
    subst (λ m. decimal m ≡ word) r.value (decimal-digits_value (numerals_by_fold Digits tells value_from folds) word r.digits some lead (subst (λ m. m < 2 ^ 64) (sym r.value) (omega (arith, few))))

pub number_is : (word : List ℕ) (n : ℕ) → number word ≡ Some n → decimal n ≡ word
number_is [] n h = absurd (cc)
number_is (b ∷ []) n h = spelled (b ∷ []) n (omega arith) (λ e. refl) h
number_is (b ∷ c ∷ bytes) n h = go (nat_eq b 48) refl h
  where
    go : (d : Bool) → nat_eq b 48 ≡ d → (if d then None else number_from 0 (b ∷ c ∷ bytes)) ≡ Some n → decimal n ≡ b ∷ c ∷ bytes
    go true e h = absurd (cc)
    go false e h = spelled (b ∷ c ∷ bytes) n (omega arith) (λ k. absurd (apart k e)) h
      where
        apart : b ≡ 48 → nat_eq b 48 ≡ false → ⊥
        apart k e = differ (sym (eq-eqb b 48 k) ∙ e)
          where
            differ : true ≡ false → ⊥
            differ h = cc

pub place_is : (word : List ℕ) (p : ℕ × ℕ) → place_in word ≡ Some p → line_and_column (Some p) ≡ word
place_is word p h =
    let a = then_some (split 58 word) _ p h in
    let b = then_some (number a.0.0) _ p a.2 in
    let c = then_some (number a.0.1) _ p b.2 in
    spell a.0 b.0 c.0 (number_is a.0.0 b.0 b.1) (number_is a.0.1 c.0 c.1) (same_some (b.0, c.0) p c.2) (split_is 58 word a.0 a.1)
  where
    spell : (parts : List ℕ × List ℕ) (line column : ℕ) → decimal line ≡ parts.0 → decimal column ≡ parts.1 → (line, column) ≡ p → parts.0 ++ 58 ∷ parts.1 ≡ word → line_and_column (Some p) ≡ word
    spell parts line column l c e w =
        ap (λ (q : ℕ × ℕ). line_and_column (Some q)) (sym e) ∙ append_assoc (decimal line) (58 ∷ []) (decimal column)
        ∙ ap (λ (x : List ℕ). x ++ 58 ∷ decimal column) l ∙ ap (λ (x : List ℕ). parts.0 ++ 58 ∷ x) c ∙ w
