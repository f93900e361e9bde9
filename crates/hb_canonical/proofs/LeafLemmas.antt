-- Names, class names, texts and numbers of a program are tokens as they are written.
use Rattle.std.proofs.Common.{◌≡◌, ℕ, ◌+◌, ◌/◌, ◌%◌, ◌^◌, ◌≤◌, ◌<◌, List, [], ◌∷◌, ◌++◌, length, get_or, Bool, true, false, Some, None, refl, sym, ◌∙◌, ap, subst, inl, inr, arith, codes, append_assoc, cond}
use Rattle.std.specs.Prelude.{◌||◌, nat_eq, nat_lt, bytes_eq, IsTrue, fold}
use Rattle.std.specs.{List.list_all, List.list_any, List.flat_map, Fmt.decimal}
use Rattle.std.proofs.lemmas.Bool.{and_parts, and_from, or_cases, cases_Bool, both_ways, cond-true, cond-false, eqb-true}
use Rattle.std.proofs.{lemmas.Bool.Decides.nat_tests, lemmas.List.Folds.list_all-append, lemmas.Fmt.decimal_by_steps}
use Rattle.hb_lex.specs.{Spelling.words, Spelling.spelled, Tokens.kind_of}
use Rattle.hb_lex.specs.declared.kinds.TokenKind.TheVariants as k
use Rattle.hb_lex.specs.declared.faults.LexFail.{LexFail}
use Rattle.hb_lex.specs.declared.faults.LexFail.TheVariants as fail
use Rattle.hb_lex.specs.Bytes.{is_small, is_capital, is_digit, is_word_byte, is_quote, is_backslash, is_plain}
use Rattle.hb_lex.specs.Literal.{is_number, is_closed, value_behind, value_of_number, with_digit}
use Rattle.hb_lex.proofs.Forms.{none_from, spelled_shape, kind_of_name, kind_of_class, kind_of_text, kind_of_number, capital_no_small}
use Rattle.hb_tree.specs.{Canon.escape, Canon.quoted, Pieces.word}
use Rattle.hb_tree.specs.Spelling.{IsName, IsClassName, IsText, is_word, is_text_byte, keywords, type_words}
use Rattle.hb_canonical.proofs.SpellLemmas.{IsToken}
use Rattle.hb_lex.specs.Sizes.{greatest_number}

abbrev first : List ℕ → ℕ
first bytes = get_or bytes 0 0

within : (limit n : ℕ) (fault : LexFail) → n ≤ limit → cond (nat_lt limit n) (Some fault) None ≡ None
within limit n fault le = let small : nat_lt limit n ≡ false = grind (arith, nat_tests) in cond-false (nat_lt limit n) (Some fault) None small

-- ── words ──

-- what the reserved words are, to a name and to the name of a class
abbrev taken_of_name : List ℕ → Bool
taken_of_name bytes = list_any (bytes_eq bytes) keywords || is_capital (first bytes)

abbrev taken_of_class : List ℕ → Bool
taken_of_class bytes = list_any (bytes_eq bytes) type_words || is_small (first bytes)

small_no_capital : (b : ℕ) → is_small b ≡ true → is_capital b ≡ false
small_no_capital b h = grind (arith, nat_tests)

small_word : (b : ℕ) → is_small b ≡ true → is_word_byte b ≡ true
small_word b h = grind (arith, nat_tests)

capital_word : (b : ℕ) → is_capital b ≡ true → is_word_byte b ≡ true
capital_word b h = grind (arith, nat_tests)

name_free : (bytes : List ℕ) → list_any (bytes_eq bytes) keywords ≡ false → is_small (first bytes) ≡ true → spelled words bytes ≡ None
unfolding words keywords
name_free bytes free small = none_from _ (λ kind h. elim (or_cases (list_any (bytes_eq bytes) keywords) _ (spelled_shape taken_of_name words bytes kind refl h).1) [
  | inl taken ↦ both_ways _ free taken
  | inr capital ↦ both_ways (is_capital (first bytes)) (small_no_capital (first bytes) small) capital
])

class_free : (bytes : List ℕ) → list_any (bytes_eq bytes) type_words ≡ false → is_capital (first bytes) ≡ true → spelled words bytes ≡ None
unfolding words type_words
class_free bytes free capital = none_from _ (λ kind h. elim (or_cases (list_any (bytes_eq bytes) type_words) _ (spelled_shape taken_of_class words bytes kind refl h).1) [
  | inl taken ↦ both_ways _ free taken
  | inr small ↦ both_ways (is_small (first bytes)) (capital_no_small (first bytes) capital) small
])

name_kind : (bytes : List ℕ) → IsTrue (is_word is_small bytes) → list_any (bytes_eq bytes) keywords ≡ false → kind_of bytes ≡ Some k.Name
name_kind [] h free = absurd (both_ways false refl h)
name_kind (b ∷ bs) h free =
    let parts : (is_small b ≡ true) × (list_all is_word_byte bs ≡ true) = and_parts (is_small b) (list_all is_word_byte bs) h in
    kind_of_name b bs parts.0 (and_from (is_word_byte b) _ (small_word b parts.0) parts.1) (name_free (b ∷ bs) free parts.0)

class_kind : (bytes : List ℕ) → IsTrue (is_word is_capital bytes) → list_any (bytes_eq bytes) type_words ≡ false → kind_of bytes ≡ Some k.ClassName
class_kind [] h free = absurd (both_ways false refl h)
class_kind (b ∷ bs) h free =
    let parts : (is_capital b ≡ true) × (list_all is_word_byte bs ≡ true) = and_parts (is_capital b) (list_all is_word_byte bs) h in
    kind_of_class b bs parts.0 (and_from (is_word_byte b) _ (capital_word b parts.0) parts.1) (class_free (b ∷ bs) free parts.0)

pub name_token : (bytes : List ℕ) → IsName bytes → IsToken (word k.Name bytes)
name_token bytes is = record { token = name_kind bytes is.spelled is.free; small = λ at. within 64 (length bytes) (fail.LongName at) is.short }

pub class_token : (bytes : List ℕ) → IsClassName bytes → IsToken (word k.ClassName bytes)
class_token bytes is = record { token = class_kind bytes is.spelled is.free; small = λ at. within 64 (length bytes) (fail.LongName at) is.short }

-- ── texts ──

-- the bytes behind the opening quote close a text of this value
abbrev Closes : List ℕ → List ℕ → Type 0
Closes bytes value = (is_closed false bytes ≡ true) × (value_behind false bytes ≡ value)

plain_from : (b : ℕ) → is_text_byte b ≡ true → nat_eq b 34 ≡ false → nat_eq b 92 ≡ false → nat_eq b 10 ≡ false → nat_eq b 9 ≡ false → is_plain b ≡ true
plain_from b h q s n t = grind (arith, nat_tests)

closes_escape : (b : ℕ) (more value : List ℕ) → is_text_byte b ≡ true → Closes more value → Closes (escape b ++ more) (b ∷ value)
closes_escape b more value h c = elim (cases_Bool (nat_eq b 34)) [
  | inl q ↦ escapes (codes "\\\"") 34 (cond-true (nat_eq b 34) _ _ q) (sym (eqb-true b 34 q)) (c.0, ap (λ v. 34 ∷ v) c.1)
  | inr q ↦ elim (cases_Bool (nat_eq b 92)) [
    | inl s ↦ escapes (codes "\\\\") 92 (cond-false (nat_eq b 34) _ _ q ∙ cond-true (nat_eq b 92) _ _ s) (sym (eqb-true b 92 s)) (c.0, ap (λ v. 92 ∷ v) c.1)
    | inr s ↦ elim (cases_Bool (nat_eq b 10)) [
      | inl n ↦ escapes (codes "\\n") 10 (cond-false (nat_eq b 34) _ _ q ∙ cond-false (nat_eq b 92) _ _ s ∙ cond-true (nat_eq b 10) _ _ n) (sym (eqb-true b 10 n)) (c.0, ap (λ v. 10 ∷ v) c.1)
      | inr n ↦ elim (cases_Bool (nat_eq b 9)) [
        | inl t ↦ escapes (codes "\\t") 9 (cond-false (nat_eq b 34) _ _ q ∙ cond-false (nat_eq b 92) _ _ s ∙ cond-false (nat_eq b 10) _ _ n ∙ cond-true (nat_eq b 9) _ _ t) (sym (eqb-true b 9 t))
            (c.0, ap (λ v. 9 ∷ v) c.1)
        | inr t ↦
            let same : escape b ≡ b ∷ [] = cond-false (nat_eq b 34) _ _ q ∙ cond-false (nat_eq b 92) _ _ s ∙ cond-false (nat_eq b 10) _ _ n ∙ cond-false (nat_eq b 9) _ _ t in
            let P = λ (e : List ℕ). Closes (e ++ more) (b ∷ value) in
            subst P (sym same) (
              cond-false (is_quote b) _ _ q ∙ cond-false (is_backslash b) _ _ s ∙ and_from (is_plain b) (is_closed false more) (plain_from b h q s n t) c.0,
              cond-false (is_quote b) _ _ q ∙ cond-false (is_backslash b) _ _ s ∙ ap (λ v. b ∷ v) c.1,
            )
      ]
    ]
  ]
]
  where
    escapes : (written : List ℕ) (d : ℕ) → escape b ≡ written → d ≡ b → Closes (written ++ more) (d ∷ value) → Closes (escape b ++ more) (b ∷ value)
    escapes written d e is c =
        let P = λ (s : List ℕ). Closes (s ++ more) (b ∷ value) in
        let Q = λ (x : ℕ). Closes (written ++ more) (x ∷ value) in
        subst P (sym e) (subst Q is c)

closes : (bytes : List ℕ) → list_all is_text_byte bytes ≡ true → Closes (flat_map escape bytes ++ 34 ∷ []) bytes
closes [] h = (refl, refl)
closes (b ∷ bytes) h =
    let parts : (is_text_byte b ≡ true) × (list_all is_text_byte bytes ≡ true) = and_parts (is_text_byte b) _ h in
    let P = λ (s : List ℕ). Closes s (b ∷ bytes) in
    subst P (sym (append_assoc (escape b) (flat_map escape bytes) (34 ∷ []))) (closes_escape b (flat_map escape bytes ++ 34 ∷ []) bytes parts.0 (closes bytes parts.1))

pub text_token : (bytes : List ℕ) → IsText bytes → IsToken (word k.Text (quoted bytes))
text_token bytes is =
    let all : Closes (flat_map escape bytes ++ 34 ∷ []) bytes = closes bytes is.plain in
    record {
      token = kind_of_text 34 (flat_map escape bytes ++ 34 ∷ []) refl all.0;
      small = λ at. ap (λ v. cond (nat_lt 1024 (length v)) (Some (fail.LongLiteral at)) None) all.1 ∙ within 1024 (length bytes) (fail.LongLiteral at) is.short;
    }

-- ── numbers ──

-- these digits are this number
abbrev pub AreDigits : ℕ → List ℕ → Type 0
AreDigits n digits = (is_number digits ≡ true) × (value_of_number digits ≡ n)

one_digit : (n : ℕ) → n < 10 → AreDigits n ((48 + n) ∷ [])
one_digit n h = (grind (arith, nat_tests), omega arith)

digit_byte : (d : ℕ) → d < 10 → is_digit (48 + d) ≡ true
digit_byte d h = grind (arith, nat_tests)

number_more : (digits : List ℕ) (d : ℕ) → is_number digits ≡ true → is_digit d ≡ true → is_number (digits ++ d ∷ []) ≡ true
number_more [] d h g = absurd (both_ways false refl h)
number_more (b ∷ bs) d h g =
    let parts : (is_digit b ≡ true) × (list_all is_digit bs ≡ true) = and_parts (is_digit b) _ h in
    and_from (is_digit b) _ parts.0 (list_all-append is_digit bs (d ∷ []) ∙ and_from (list_all is_digit bs) _ parts.1 (and_from (is_digit d) true g refl))

value_more : (value : ℕ) (digits : List ℕ) (d : ℕ) → fold with_digit value (digits ++ d ∷ []) ≡ with_digit (fold with_digit value digits) d
value_more value [] d = refl
value_more value (b ∷ bs) d = value_more (with_digit value b) bs d

more_digits : (n : ℕ) (digits : List ℕ) → 10 ≤ n → AreDigits (n / 10) digits → AreDigits n (digits ++ (48 + n % 10) ∷ [])
more_digits n digits le h = (
  number_more digits (48 + n % 10) h.0 (digit_byte (n % 10) (omega arith)),
  value_more 0 digits (48 + n % 10) ∙ ap (λ v. with_digit v (48 + n % 10)) h.1 ∙ omega arith,
)

pub digits_of : (n : ℕ) → n < 2 ^ 64 → AreDigits n (decimal n)
digits_of n small = decimal_by_steps AreDigits one_digit more_digits n small

number_kind : (digits : List ℕ) → is_number digits ≡ true → kind_of digits ≡ Some k.Number
number_kind [] h = absurd (both_ways false refl h)
number_kind (b ∷ bs) h = kind_of_number b bs h

pub number_token : (n : ℕ) → n < 2 ^ 63 → IsToken (word k.Number (decimal n))
number_token n small =
    let all : AreDigits n (decimal n) = digits_of n (omega arith) in
    record {
      token = number_kind (decimal n) all.0;
      small = λ at. ap (λ v. cond (nat_lt greatest_number v) (Some (fail.BigNumber at)) None) all.1 ∙ within greatest_number n (fail.BigNumber at) (omega arith);
    }
