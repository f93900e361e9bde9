-- What bytes of a first sort make a token.
use Rattle.std.proofs.Common.{◌≡◌, ℕ, ◌≤◌, ◌<◌, ◌⊎◌, List, [], ◌∷◌, ◌++◌, length, get_or, Bool, true, false, not, Option, Some, None, refl, sym, ◌∙◌, ap, subst, inl, inr, arith, codes, cond}
use Rattle.std.specs.Prelude.{◌&&◌, ◌||◌, nat_le, bytes_eq, find}
use Rattle.std.specs.{List.list_all, Option.option_or}
use Rattle.std.proofs.lemmas.Bool.{and_parts, and_from, or_cases, or_left, cases_Bool, both_ways, cond-true, cond-false, false_from_ne_true, not-true, and_left}
use Rattle.std.proofs.{lemmas.Bool.Decides.nat_tests, lemmas.Slice.Eq.bytes_eq-Decides, lemmas.List.Folds.find-append}
use Rattle.hb_lex.specs.declared.kinds.TokenKind.{TokenKind}
use Rattle.hb_lex.specs.declared.kinds.TokenKind.TheVariants as k
use Rattle.hb_lex.specs.Bytes.{is_small, is_capital, is_digit, is_word_byte, is_quote}
use Rattle.hb_lex.specs.{Literal.is_number, Literal.is_text, Literal.is_closed, Tokens.kind_of, Tokens.formed, Tokens.is_word}
use Rattle.hb_lex.specs.Spelling.{spelling, words, marks, spelled, fixed}

-- ── sorts of first bytes ──

small_no_digit : (b : ℕ) → is_small b ≡ true → is_digit b ≡ false
small_no_digit b h = grind (arith, nat_tests)

capital_no_digit : (b : ℕ) → is_capital b ≡ true → is_digit b ≡ false
capital_no_digit b h = grind (arith, nat_tests)

pub capital_no_small : (b : ℕ) → is_capital b ≡ true → is_small b ≡ false
capital_no_small b h = grind (arith, nat_tests)

quote_no_word : (b : ℕ) → is_quote b ≡ true → is_word_byte b ≡ false
quote_no_word b h = grind (arith, nat_tests)

-- ── tokens that are written in one way ──

-- the first byte
abbrev first : List ℕ → ℕ
first bytes = get_or bytes 0 0

pub found : (test shape : TokenKind → Bool) (kinds : List TokenKind) (kind : TokenKind) → find test kinds ≡ Some kind → list_all shape kinds ≡ true → (test kind ≡ true) × (shape kind ≡ true)
found test shape [] kind h all = absurd (cc h)
found test shape (x ∷ kinds) kind h all = elim (cases_Bool (test x)) [
  | inl t ↦ let same : x ≡ kind = cc (sym (cond-true (test x) (Some x) (find test kinds) t) ∙ h) in
      let P = λ (z : TokenKind). (test z ≡ true) × (shape z ≡ true) in
      subst P same (t, (and_parts (shape x) (list_all shape kinds) all).0)
  | inr f ↦ found test shape kinds kind (sym (cond-false (test x) (Some x) (find test kinds) f) ∙ h) (and_parts (shape x) (list_all shape kinds) all).1
]

-- bytes that are found among spellings of one shape have it
pub spelled_shape : (shape : List ℕ → Bool) (kinds : List TokenKind) (bytes : List ℕ) (kind : TokenKind) → list_all (λ x. shape (spelling x)) kinds ≡ true → spelled kinds bytes ≡ Some kind
    → (spelling kind ≡ bytes) × (shape bytes ≡ true)
spelled_shape shape kinds bytes kind all h =
    let both : (bytes_eq (spelling kind) bytes ≡ true) × (shape (spelling kind) ≡ true) = found (λ x. bytes_eq (spelling x) bytes) (λ x. shape (spelling x)) kinds kind h all in
    let same : spelling kind ≡ bytes = (bytes_eq-Decides (spelling kind) bytes).0 both.0 in
    (same, ap shape (sym same) ∙ both.1)

abbrev pub all_fixed : List TokenKind
all_fixed = k.KwTypeAsk ∷ words ++ marks

-- no digit and no quote begins one, a word byte begins only words and `type?`, and other bytes only one or two bytes
abbrev shape_of_digit : List ℕ → Bool
shape_of_digit bytes = not (is_digit (first bytes)) && not (is_quote (first bytes))

abbrev shape_of_word : List ℕ → Bool
shape_of_word bytes = not (is_word_byte (first bytes)) || list_all is_word_byte bytes || bytes_eq (codes "type?") bytes

abbrev shape_of_mark : List ℕ → Bool
shape_of_mark bytes = is_word_byte (first bytes) || nat_le (length bytes) 2

digit_fixed : (bytes : List ℕ) (kind : TokenKind) → fixed bytes ≡ Some kind → shape_of_digit bytes ≡ true
unfolding words marks
digit_fixed bytes kind h = (spelled_shape shape_of_digit all_fixed bytes kind refl h).1

word_fixed : (bytes : List ℕ) (kind : TokenKind) → fixed bytes ≡ Some kind → shape_of_word bytes ≡ true
unfolding words marks
word_fixed bytes kind h = (spelled_shape shape_of_word all_fixed bytes kind refl h).1

pub mark_fixed : (bytes : List ℕ) (kind : TokenKind) → fixed bytes ≡ Some kind → shape_of_mark bytes ≡ true
unfolding words marks
mark_fixed bytes kind h = (spelled_shape shape_of_mark all_fixed bytes kind refl h).1

-- ── any token ──

or_splits : (x y : Option TokenKind) (kind : TokenKind) → option_or x y ≡ Some kind → (x ≡ Some kind) ⊎ (y ≡ Some kind)
or_splits None y kind h = inr h
or_splits (Some x) y kind h = inl h

pub kind_cases : (bytes : List ℕ) (kind : TokenKind) → kind_of bytes ≡ Some kind → (fixed bytes ≡ Some kind) ⊎ (formed bytes ≡ Some kind)
unfolding kind_of
kind_cases bytes kind h = or_splits (fixed bytes) (formed bytes) kind h

-- what bytes in many forms are
pub data IsFormed (bytes : List ℕ) : Type 0 where
  Small : is_word is_small bytes ≡ true → IsFormed bytes
  Capital : is_word is_capital bytes ≡ true → IsFormed bytes
  Digits : is_number bytes ≡ true → IsFormed bytes
  Quoted : is_text bytes ≡ true → IsFormed bytes

pub cond_cases : {X : Type 0} (b : Bool) (x y z : X) → cond b x y ≡ z → ((b ≡ true) × (x ≡ z)) ⊎ ((b ≡ false) × (y ≡ z))
cond_cases true x y z h = inl (refl, h)
cond_cases false x y z h = inr (refl, h)

pub formed_cases : (bytes : List ℕ) (kind : TokenKind) → formed bytes ≡ Some kind → IsFormed bytes
formed_cases bytes kind h = elim (cond_cases (is_word is_small bytes) _ _ _ h) [
  | inl a ↦ Small a.0
  | inr r ↦ elim (cond_cases (is_word is_capital bytes) _ _ _ r.1) [
    | inl a ↦ Capital a.0
    | inr s ↦ elim (cond_cases (is_number bytes) _ _ _ s.1) [
      | inl a ↦ Digits a.0
      | inr t ↦ elim (cond_cases (is_text bytes) _ _ _ t.1) [ inl a ↦ Quoted a.0 | inr u ↦ absurd (cc u.1) ]
    ]
  ]
]

pub none_from : (o : Option TokenKind) → ((kind : TokenKind) → o ≡ Some kind → ⊥) → o ≡ None
none_from None f = refl
none_from (Some kind) f = absurd (f kind refl)

pub kind_is : (bytes : List ℕ) → kind_of bytes ≡ option_or (fixed bytes) (formed bytes)
unfolding kind_of
kind_is bytes = refl

pub empty_none : kind_of [] ≡ None
unfolding kind_of words marks
empty_none = refl

-- what is written in one way is of its kind
pub kind_of_spelling : (kind : TokenKind) → 0 < length (spelling kind) → kind_of (spelling kind) ≡ Some kind
unfolding kind_of words marks
kind_of_spelling k.Name h = absurd (omega arith)
kind_of_spelling k.ClassName h = absurd (omega arith)
kind_of_spelling k.Number h = absurd (omega arith)
kind_of_spelling k.Text h = absurd (omega arith)
kind_of_spelling _ h = refl

-- ── words ──

pub letter_byte : (b : ℕ) → (is_small b || is_capital b) ≡ true → (is_word_byte b ≡ true) × (is_digit b ≡ false)
letter_byte b h = elim (or_cases (is_small b) (is_capital b) h) [
  | inl s ↦ (or_left (is_small b || is_capital b) (is_digit b) h, small_no_digit b s)
  | inr c ↦ (or_left (is_small b || is_capital b) (is_digit b) h, capital_no_digit b c)
]

pub only_word : (b : ℕ) (bs : List ℕ) (kind : TokenKind) → (is_small b || is_capital b) ≡ true → kind_of (b ∷ bs) ≡ Some kind → (list_all is_word_byte (b ∷ bs) ≡ true) ⊎ (codes "type?" ≡ b ∷ bs)
only_word b bs kind letter h =
    let byte : (is_word_byte b ≡ true) × (is_digit b ≡ false) = letter_byte b letter in
    elim (kind_cases (b ∷ bs) kind h) [
      | inl f ↦ elim (or_cases (not (is_word_byte b) || list_all is_word_byte (b ∷ bs)) _ (word_fixed (b ∷ bs) kind f)) [
        | inl x ↦ elim (or_cases (not (is_word_byte b)) _ x) [
          | inl n ↦ absurd (both_ways (is_word_byte b) (not-true _ n) byte.0)
          | inr all ↦ inl all
        ]
        | inr e ↦ inr ((bytes_eq-Decides (codes "type?") (b ∷ bs)).0 e)
      ]
      | inr f ↦ elim (formed_cases (b ∷ bs) kind f) [
        | Small w ↦ inl (and_from (is_word_byte b) _ byte.0 (and_parts (is_small b) _ w).1)
        | Capital w ↦ inl (and_from (is_word_byte b) _ byte.0 (and_parts (is_capital b) _ w).1)
        | Digits w ↦ absurd (both_ways (is_digit b) byte.1 (and_parts (is_digit b) _ w).0)
        | Quoted w ↦ absurd (both_ways (is_word_byte b) (quote_no_word b (and_parts (is_quote b) _ w).0) byte.0)
      ]
    ]

-- word bytes are not `type?`
not_ask : (bytes : List ℕ) → list_all is_word_byte bytes ≡ true → bytes_eq (codes "type?") bytes ≡ false
not_ask bytes all = false_from_ne_true _ (λ e.
    let same : codes "type?" ≡ bytes = (bytes_eq-Decides (codes "type?") bytes).0 e in
    both_ways false refl (ap (λ s. list_all is_word_byte s) same ∙ all))

first_of_all : (bytes : List ℕ) → 0 < length bytes → list_all is_word_byte bytes ≡ true → is_word_byte (first bytes) ≡ true
first_of_all [] some all = absurd (omega arith)
first_of_all (b ∷ bs) some all = (and_parts (is_word_byte b) _ all).0

abbrev shape_of_no_word : List ℕ → Bool
shape_of_no_word bytes = not (is_word_byte (first bytes))

no_mark : (bytes : List ℕ) → is_word_byte (first bytes) ≡ true → spelled marks bytes ≡ None
unfolding marks
no_mark bytes w = none_from _ (λ kind h. both_ways (is_word_byte (first bytes)) (not-true _ (spelled_shape shape_of_no_word marks bytes kind refl h).1) w)

-- of word bytes only the words are looked at
fixed_word : (bytes : List ℕ) → 0 < length bytes → list_all is_word_byte bytes ≡ true → fixed bytes ≡ spelled words bytes
fixed_word bytes some all =
    cond-false (bytes_eq (codes "type?") bytes) _ _ (not_ask bytes all)
    ∙ find-append (λ kind. bytes_eq (spelling kind) bytes) words marks
    ∙ ap (λ o. option_or (spelled words bytes) o) (no_mark bytes (first_of_all bytes some all))
    ∙ or_none (spelled words bytes)
  where
    or_none : (o : Option TokenKind) → option_or o None ≡ o
    or_none None = refl
    or_none (Some kind) = refl

pub kind_of_reserved : (bytes : List ℕ) (kind : TokenKind) → 0 < length bytes → list_all is_word_byte bytes ≡ true → spelled words bytes ≡ Some kind → kind_of bytes ≡ Some kind
kind_of_reserved bytes kind some all h = kind_is bytes ∙ ap (λ o. option_or o (formed bytes)) (fixed_word bytes some all ∙ h)

kind_of_free : (bytes : List ℕ) → 0 < length bytes → list_all is_word_byte bytes ≡ true → spelled words bytes ≡ None → kind_of bytes ≡ formed bytes
kind_of_free bytes some all h = kind_is bytes ∙ ap (λ o. option_or o (formed bytes)) (fixed_word bytes some all ∙ h)

pub kind_of_name : (b : ℕ) (bs : List ℕ) → is_small b ≡ true → list_all is_word_byte (b ∷ bs) ≡ true → spelled words (b ∷ bs) ≡ None → kind_of (b ∷ bs) ≡ Some k.Name
kind_of_name b bs s all h = kind_of_free (b ∷ bs) (omega arith) all h ∙ cond-true (is_word is_small (b ∷ bs)) _ _ (and_from (is_small b) _ s (and_parts (is_word_byte b) _ all).1)

pub kind_of_class : (b : ℕ) (bs : List ℕ) → is_capital b ≡ true → list_all is_word_byte (b ∷ bs) ≡ true → spelled words (b ∷ bs) ≡ None → kind_of (b ∷ bs) ≡ Some k.ClassName
kind_of_class b bs c all h =
    kind_of_free (b ∷ bs) (omega arith) all h
    ∙ cond-false (is_word is_small (b ∷ bs)) _ _ (and_left (is_small b) _ (capital_no_small b c))
    ∙ cond-true (is_word is_capital (b ∷ bs)) _ _ (and_from (is_capital b) _ c (and_parts (is_word_byte b) _ all).1)

-- ── numbers ──

digit_sorts : (b : ℕ) → is_digit b ≡ true → (is_small b ≡ false) × ((is_capital b ≡ false) × (is_quote b ≡ false))
digit_sorts b h = (grind (arith, nat_tests), (grind (arith, nat_tests), grind (arith, nat_tests)))

digit_not_fixed : (b : ℕ) (bs : List ℕ) (kind : TokenKind) → is_digit b ≡ true → fixed (b ∷ bs) ≡ Some kind → ⊥
digit_not_fixed b bs kind d h = both_ways (is_digit b) (not-true _ (and_parts (not (is_digit b)) (not (is_quote b)) (digit_fixed (b ∷ bs) kind h)).0) d

pub only_number : (b : ℕ) (bs : List ℕ) (kind : TokenKind) → is_digit b ≡ true → kind_of (b ∷ bs) ≡ Some kind → list_all is_digit (b ∷ bs) ≡ true
only_number b bs kind d h =
    let sorts : (is_small b ≡ false) × ((is_capital b ≡ false) × (is_quote b ≡ false)) = digit_sorts b d in
    elim (kind_cases (b ∷ bs) kind h) [
      | inl f ↦ absurd (digit_not_fixed b bs kind d f)
      | inr f ↦ elim (formed_cases (b ∷ bs) kind f) [
        | Small w ↦ absurd (both_ways (is_small b) sorts.0 (and_parts (is_small b) _ w).0)
        | Capital w ↦ absurd (both_ways (is_capital b) sorts.1.0 (and_parts (is_capital b) _ w).0)
        | Digits w ↦ w
        | Quoted w ↦ absurd (both_ways (is_quote b) sorts.1.1 (and_parts (is_quote b) _ w).0)
      ]
    ]

pub kind_of_number : (b : ℕ) (bs : List ℕ) → list_all is_digit (b ∷ bs) ≡ true → kind_of (b ∷ bs) ≡ Some k.Number
kind_of_number b bs all =
    let d : is_digit b ≡ true = (and_parts (is_digit b) _ all).0 in
    let sorts : (is_small b ≡ false) × ((is_capital b ≡ false) × (is_quote b ≡ false)) = digit_sorts b d in
    kind_is (b ∷ bs)
    ∙ ap (λ o. option_or o (formed (b ∷ bs))) (none_from (fixed (b ∷ bs)) (λ kind h. digit_not_fixed b bs kind d h))
    ∙ cond-false (is_word is_small (b ∷ bs)) _ _ (and_left (is_small b) _ sorts.0)
    ∙ cond-false (is_word is_capital (b ∷ bs)) _ _ (and_left (is_capital b) _ sorts.1.0)
    ∙ cond-true (is_number (b ∷ bs)) _ _ all

-- ── texts ──

quote_sorts : (b : ℕ) → is_quote b ≡ true → (is_small b ≡ false) × ((is_capital b ≡ false) × (is_digit b ≡ false))
quote_sorts b h = (grind (arith, nat_tests), (grind (arith, nat_tests), grind (arith, nat_tests)))

quote_not_fixed : (b : ℕ) (bs : List ℕ) (kind : TokenKind) → is_quote b ≡ true → fixed (b ∷ bs) ≡ Some kind → ⊥
quote_not_fixed b bs kind q h = both_ways (is_quote b) (not-true _ (and_parts (not (is_digit b)) (not (is_quote b)) (digit_fixed (b ∷ bs) kind h)).1) q

pub only_text : (b : ℕ) (bs : List ℕ) (kind : TokenKind) → is_quote b ≡ true → kind_of (b ∷ bs) ≡ Some kind → is_closed false bs ≡ true
only_text b bs kind q h =
    let sorts : (is_small b ≡ false) × ((is_capital b ≡ false) × (is_digit b ≡ false)) = quote_sorts b q in
    elim (kind_cases (b ∷ bs) kind h) [
      | inl f ↦ absurd (quote_not_fixed b bs kind q f)
      | inr f ↦ elim (formed_cases (b ∷ bs) kind f) [
        | Small w ↦ absurd (both_ways (is_small b) sorts.0 (and_parts (is_small b) _ w).0)
        | Capital w ↦ absurd (both_ways (is_capital b) sorts.1.0 (and_parts (is_capital b) _ w).0)
        | Digits w ↦ absurd (both_ways (is_digit b) sorts.1.1 (and_parts (is_digit b) _ w).0)
        | Quoted w ↦ (and_parts (is_quote b) _ w).1
      ]
    ]

pub kind_of_text : (b : ℕ) (bs : List ℕ) → is_quote b ≡ true → is_closed false bs ≡ true → kind_of (b ∷ bs) ≡ Some k.Text
kind_of_text b bs q closed =
    let sorts : (is_small b ≡ false) × ((is_capital b ≡ false) × (is_digit b ≡ false)) = quote_sorts b q in
    kind_is (b ∷ bs)
    ∙ ap (λ o. option_or o (formed (b ∷ bs))) (none_from (fixed (b ∷ bs)) (λ kind h. quote_not_fixed b bs kind q h))
    ∙ cond-false (is_word is_small (b ∷ bs)) _ _ (and_left (is_small b) _ sorts.0)
    ∙ cond-false (is_word is_capital (b ∷ bs)) _ _ (and_left (is_capital b) _ sorts.1.0)
    ∙ cond-false (is_number (b ∷ bs)) _ _ (and_left (is_digit b) _ sorts.1.1)
    ∙ cond-true (is_text (b ∷ bs)) _ _ (and_from (is_quote b) _ q closed)

-- ── what the bytes of a number or a text are ──

abbrev shape_of_fixed : TokenKind → Bool
shape_of_fixed kind = nat_le 1 (length (spelling kind))

-- a kind that may be written in many ways is of no spelling
not_fixed : (bytes : List ℕ) (kind : TokenKind) → shape_of_fixed kind ≡ false → fixed bytes ≡ Some kind → ⊥
unfolding words marks
not_fixed bytes kind f h = both_ways (shape_of_fixed kind) f (found (λ x. bytes_eq (spelling x) bytes) shape_of_fixed all_fixed kind h refl).1

formed_number : (bytes : List ℕ) → formed bytes ≡ Some k.Number → is_number bytes ≡ true
formed_number bytes h = elim (cond_cases (is_word is_small bytes) _ _ _ h) [
  | inl a ↦ absurd (cc a.1)
  | inr r ↦ elim (cond_cases (is_word is_capital bytes) _ _ _ r.1) [
    | inl a ↦ absurd (cc a.1)
    | inr s ↦ elim (cond_cases (is_number bytes) _ _ _ s.1) [
      | inl a ↦ a.0
      | inr t ↦ elim (cond_cases (is_text bytes) _ _ _ t.1) [ inl a ↦ absurd (cc a.1) | inr u ↦ absurd (cc u.1) ]
    ]
  ]
]

formed_text : (bytes : List ℕ) → formed bytes ≡ Some k.Text → is_text bytes ≡ true
formed_text bytes h = elim (cond_cases (is_word is_small bytes) _ _ _ h) [
  | inl a ↦ absurd (cc a.1)
  | inr r ↦ elim (cond_cases (is_word is_capital bytes) _ _ _ r.1) [
    | inl a ↦ absurd (cc a.1)
    | inr s ↦ elim (cond_cases (is_number bytes) _ _ _ s.1) [
      | inl a ↦ absurd (cc a.1)
      | inr t ↦ elim (cond_cases (is_text bytes) _ _ _ t.1) [ inl a ↦ a.0 | inr u ↦ absurd (cc u.1) ]
    ]
  ]
]

pub number_bytes : (bytes : List ℕ) → kind_of bytes ≡ Some k.Number → is_number bytes ≡ true
number_bytes bytes h = elim (kind_cases bytes k.Number h) [ inl f ↦ absurd (not_fixed bytes k.Number refl f) | inr f ↦ formed_number bytes f ]

pub text_bytes : (bytes : List ℕ) → kind_of bytes ≡ Some k.Text → is_text bytes ≡ true
text_bytes bytes h = elim (kind_cases bytes k.Text h) [ inl f ↦ absurd (not_fixed bytes k.Text refl f) | inr f ↦ formed_text bytes f ]

pub number_digits : (bytes : List ℕ) → kind_of bytes ≡ Some k.Number → list_all is_digit bytes ≡ true
number_digits bytes h = digits bytes (number_bytes bytes h)
  where
    digits : (digits : List ℕ) → is_number digits ≡ true → list_all is_digit digits ≡ true
    digits [] g = refl
    digits (b ∷ bs) g = g

pub text_some : (bytes : List ℕ) → kind_of bytes ≡ Some k.Text → 1 ≤ length bytes
text_some [] h = absurd (cc (sym empty_none ∙ h))
text_some (b ∷ bs) h = omega arith
