-- Where a token ends: which bytes may stand right behind it.
use Rattle.std.proofs.Common.{◌≡◌, ℕ, zero, suc, ◌+◌, ◌-◌, ◌≤◌, ◌<◌, List, [], ◌∷◌, ◌++◌, length, take, get_or, Bool, true, false, not, Some, None, refl, sym, ◌∙◌, ap, inl, inr, arith, codes}
use Rattle.std.specs.Prelude.{◌&&◌, ◌||◌, nat_eq, nat_lt, bytes_eq}
use Rattle.std.specs.List.{list_all}
use Rattle.std.proofs.lemmas.Bool.{and_parts, or_cases, cases_Bool, both_ways, cond-true, cond-false, not-true, or_left, or_parts, ltb-true}
use Rattle.std.proofs.{lemmas.Bool.Decides.nat_tests, lemmas.Slice.Eq.bytes_eq-Decides, lemmas.List.Folds.list_all-append, Math.Seq.take-append_seam, Math.Seq.take-append-add}
use Rattle.std.proofs.{lemmas.List.length-append}
use Rattle.hb_lex.specs.declared.kinds.TokenKind.{TokenKind}
use Rattle.hb_lex.specs.declared.kinds.TokenKind.TheVariants as k
use Rattle.hb_lex.specs.Bytes.{is_blank, is_hash, is_line_feed, is_small, is_capital, is_digit, is_word_byte, is_quote, is_backslash, is_plain, is_escape}
use Rattle.hb_lex.specs.Literal.{is_number, is_text, is_closed, is_empty}
use Rattle.hb_lex.specs.Spelling.{spelling, words, marks, fixed}
use Rattle.hb_lex.specs.Tokens.{kind_of, formed, is_word, IsNext}
use Rattle.hb_lex.proofs.Forms.{all_fixed, found, kind_cases, cond_cases, none_from, only_word, only_number, only_text}

-- ── what ends a token ──

-- No token goes on from a whole one of this kind with this byte.
abbrev pub stops_at : TokenKind → ℕ → Bool
stops_at k.Text c = true
stops_at k.OpenParen c = true
stops_at k.CloseParen c = true
stops_at k.Comma c = true
stops_at k.Colon c = true
stops_at k.Dot c = true
stops_at k.Equals c = true
stops_at k.Less c = true
stops_at k.Times c = true
stops_at k.Concat c = true
stops_at k.Arrow c = true
stops_at k.Separator c = true
stops_at k.Assign c = not (nat_eq c 61)
stops_at k.Plus c = not (nat_eq c 43)
stops_at k.Minus c = not (nat_eq c 62)
stops_at _ c = not (is_word_byte c || nat_eq c 63)

-- the bytes behind a token do not join it
abbrev pub stops : TokenKind → List ℕ → Bool
stops kind [] = true
stops kind (c ∷ rest) = stops_at kind c

-- ── the sorts of tokens ──

-- a keyword, a type word, a name or the name of a class
is_lettered : TokenKind → Bool
is_lettered k.Text = false
is_lettered k.Number = false
is_lettered k.OpenParen = false
is_lettered k.CloseParen = false
is_lettered k.Comma = false
is_lettered k.Colon = false
is_lettered k.Dot = false
is_lettered k.Equals = false
is_lettered k.Less = false
is_lettered k.Times = false
is_lettered k.Concat = false
is_lettered k.Arrow = false
is_lettered k.Separator = false
is_lettered k.Assign = false
is_lettered k.Plus = false
is_lettered k.Minus = false
is_lettered _ = true

abbrev is_letter : ℕ → Bool
is_letter b = is_small b || is_capital b

abbrev first : List ℕ → ℕ
first bytes = get_or bytes 0 0

-- a byte that begins marks alone
abbrev is_mark_byte : ℕ → Bool
is_mark_byte b = not (is_word_byte b) && not (is_quote b) && not (is_blank b) && not (is_hash b) && not (is_line_feed b)

-- what a token is, by its first byte
data IsSort (kind : TokenKind) (b : ℕ) (bs : List ℕ) : Type 0 where
  Lettered : is_letter b ≡ true → is_lettered kind ≡ true → IsSort kind b bs
  Digits : is_digit b ≡ true → kind ≡ k.Number → IsSort kind b bs
  Quoted : is_quote b ≡ true → kind ≡ k.Text → IsSort kind b bs
  Marked : is_mark_byte b ≡ true → spelling kind ≡ b ∷ bs → IsSort kind b bs

abbrev shape : TokenKind → Bool
unfolding is_lettered
shape kind = (is_lettered kind && is_letter (first (spelling kind))) || is_mark_byte (first (spelling kind))

fixed_sort : (kind : TokenKind) (b : ℕ) (bs : List ℕ) → fixed (b ∷ bs) ≡ Some kind → IsSort kind b bs
unfolding words marks is_lettered
fixed_sort kind b bs h =
    let both : (bytes_eq (spelling kind) (b ∷ bs) ≡ true) × (shape kind ≡ true) = found (λ x. bytes_eq (spelling x) (b ∷ bs)) shape all_fixed kind h refl in
    let same : spelling kind ≡ b ∷ bs = (bytes_eq-Decides (spelling kind) (b ∷ bs)).0 both.0 in
    elim (or_cases (is_lettered kind && is_letter (first (spelling kind))) _ both.1) [
      | inl w ↦ Lettered (ap (λ s. is_letter (first s)) (sym same) ∙ (and_parts (is_lettered kind) _ w).1) (and_parts (is_lettered kind) _ w).0
      | inr m ↦ Marked (ap (λ s. is_mark_byte (first s)) (sym same) ∙ m) same
    ]

lettered_is : (kind other : TokenKind) → Some other ≡ Some kind → is_lettered other ≡ true → is_lettered kind ≡ true
lettered_is kind other e h = let same : other ≡ kind = cc e in ap is_lettered (sym same) ∙ h

formed_sort : (kind : TokenKind) (b : ℕ) (bs : List ℕ) → formed (b ∷ bs) ≡ Some kind → IsSort kind b bs
unfolding is_lettered
formed_sort kind b bs h = elim (cond_cases (is_word is_small (b ∷ bs)) _ _ _ h) [
  | inl a ↦ Lettered (or_left (is_small b) (is_capital b) (and_parts (is_small b) _ a.0).0) (lettered_is kind k.Name a.1 refl)
  | inr r ↦ elim (cond_cases (is_word is_capital (b ∷ bs)) _ _ _ r.1) [
    | inl a ↦ Lettered (or_right (is_small b) (is_capital b) (and_parts (is_capital b) _ a.0).0) (lettered_is kind k.ClassName a.1 refl)
    | inr s ↦ elim (cond_cases (is_number (b ∷ bs)) _ _ _ s.1) [
      | inl a ↦ Digits (and_parts (is_digit b) _ a.0).0 (cc (sym a.1))
      | inr t ↦ elim (cond_cases (is_text (b ∷ bs)) _ _ _ t.1) [
        | inl a ↦ Quoted (and_parts (is_quote b) _ a.0).0 (cc (sym a.1))
        | inr u ↦ absurd (cc u.1)
      ]
    ]
  ]
]
  where
    or_right : (x y : Bool) → y ≡ true → (x || y) ≡ true
    or_right true y h = refl
    or_right false y h = h

sort_of : (kind : TokenKind) (b : ℕ) (bs : List ℕ) → kind_of (b ∷ bs) ≡ Some kind → IsSort kind b bs
sort_of kind b bs h = elim (kind_cases (b ∷ bs) kind h) [ inl f ↦ fixed_sort kind b bs f | inr f ↦ formed_sort kind b bs f ]

-- ── a token begins with no byte that is passed over ──

letter_begins : (b : ℕ) → is_letter b ≡ true → (is_blank b ≡ false) × ((is_hash b ≡ false) × (is_line_feed b ≡ false))
letter_begins b h = (grind (arith, nat_tests), (grind (arith, nat_tests), grind (arith, nat_tests)))

digit_begins : (b : ℕ) → is_digit b ≡ true → (is_blank b ≡ false) × ((is_hash b ≡ false) × (is_line_feed b ≡ false))
digit_begins b h = (grind (arith, nat_tests), (grind (arith, nat_tests), grind (arith, nat_tests)))

quote_begins : (b : ℕ) → is_quote b ≡ true → (is_blank b ≡ false) × ((is_hash b ≡ false) × (is_line_feed b ≡ false))
quote_begins b h = (grind (arith, nat_tests), (grind (arith, nat_tests), grind (arith, nat_tests)))

mark_begins : (b : ℕ) → is_mark_byte b ≡ true → (is_blank b ≡ false) × ((is_hash b ≡ false) × (is_line_feed b ≡ false))
mark_begins b h =
    let p : ((not (is_word_byte b) && not (is_quote b) && not (is_blank b) && not (is_hash b)) ≡ true) × (not (is_line_feed b) ≡ true) = and_parts _ (not (is_line_feed b)) h in
    let q : ((not (is_word_byte b) && not (is_quote b) && not (is_blank b)) ≡ true) × (not (is_hash b) ≡ true) = and_parts _ (not (is_hash b)) p.0 in
    let r : ((not (is_word_byte b) && not (is_quote b)) ≡ true) × (not (is_blank b) ≡ true) = and_parts _ (not (is_blank b)) q.0 in
    (not-true _ r.1, (not-true _ q.1, not-true _ p.1))

pub begins : (kind : TokenKind) (b : ℕ) (bs : List ℕ) → kind_of (b ∷ bs) ≡ Some kind → (is_blank b ≡ false) × ((is_hash b ≡ false) × (is_line_feed b ≡ false))
begins kind b bs h = elim (sort_of kind b bs h) [
  | Lettered l w ↦ letter_begins b l
  | Digits d e ↦ digit_begins b d
  | Quoted q e ↦ quote_begins b q
  | Marked m e ↦ mark_begins b m
]

-- ── words ──

-- the bytes of words and of `type?`
abbrev is_word_or_ask : ℕ → Bool
is_word_or_ask b = is_word_byte b || nat_eq b 63

list_all-at : (test : ℕ → Bool) (xs : List ℕ) (c : ℕ) (more : List ℕ) → list_all test (xs ++ c ∷ more) ≡ true → test c ≡ true
list_all-at test xs c more h = (and_parts (test c) _ (and_parts (list_all test xs) _ (sym (list_all-append test xs (c ∷ more)) ∙ h)).1).0

lettered_stops : (kind : TokenKind) (c : ℕ) → is_lettered kind ≡ true → stops_at kind c ≡ true → is_word_or_ask c ≡ false
unfolding is_lettered
lettered_stops k.Text c w h = search not-true
lettered_stops _ c w h = search not-true

-- no token that begins with a letter goes on behind a byte that no word has
letter_ends : (b : ℕ) (bs : List ℕ) (c : ℕ) (more : List ℕ) (kind : TokenKind) → is_letter b ≡ true → is_word_or_ask c ≡ false → kind_of (b ∷ (bs ++ c ∷ more)) ≡ Some kind → ⊥
letter_ends b bs c more kind l stop h = elim (only_word b (bs ++ c ∷ more) kind l h) [
  | inl all ↦ both_ways (is_word_byte c) (or_parts (is_word_byte c) (nat_eq c 63) stop).0 (list_all-at is_word_byte (b ∷ bs) c more all)
  | inr e ↦
      let all : list_all is_word_or_ask (b ∷ (bs ++ c ∷ more)) ≡ true = ap (λ s. list_all is_word_or_ask s) (sym e) in
      both_ways (is_word_or_ask c) stop (list_all-at is_word_or_ask (b ∷ bs) c more all)
]

-- ── numbers ──

digit_ends : (b : ℕ) (bs : List ℕ) (c : ℕ) (more : List ℕ) (kind : TokenKind) → is_digit b ≡ true → is_word_or_ask c ≡ false → kind_of (b ∷ (bs ++ c ∷ more)) ≡ Some kind → ⊥
digit_ends b bs c more kind d stop h =
    let word : is_word_byte c ≡ false = (or_parts (is_word_byte c) (nat_eq c 63) stop).0 in
    both_ways (is_digit c) (or_parts (is_small c || is_capital c) (is_digit c) word).1 (list_all-at is_digit (b ∷ bs) c more (only_number b (bs ++ c ∷ more) kind d h))

-- ── texts ──

-- a text is closed once
closed_once : (escaped : Bool) (bytes : List ℕ) (c : ℕ) (more : List ℕ) → is_closed escaped bytes ≡ true → is_closed escaped (bytes ++ c ∷ more) ≡ true → ⊥
closed_once true [] c more h g = both_ways false refl h
closed_once false [] c more h g = both_ways false refl h
closed_once true (b ∷ bytes) c more h g = closed_once false bytes c more (and_parts (is_escape b) _ h).1 (and_parts (is_escape b) _ g).1
closed_once false (b ∷ bytes) c more h g = elim (cases_Bool (is_quote b)) [
  | inl q ↦ no_more bytes (sym (cond-true (is_quote b) _ _ q) ∙ g)
  | inr q ↦ elim (cases_Bool (is_backslash b)) [
    | inl s ↦ closed_once true bytes c more (sym (cond-false (is_quote b) _ _ q ∙ cond-true (is_backslash b) _ _ s) ∙ h) (sym (cond-false (is_quote b) _ _ q ∙ cond-true (is_backslash b) _ _ s) ∙ g)
    | inr s ↦ closed_once false bytes c more
        (and_parts (is_plain b) _ (sym (cond-false (is_quote b) _ _ q ∙ cond-false (is_backslash b) _ _ s) ∙ h)).1
        (and_parts (is_plain b) _ (sym (cond-false (is_quote b) _ _ q ∙ cond-false (is_backslash b) _ _ s) ∙ g)).1
  ]
]
  where
    no_more : (bytes : List ℕ) → is_empty (bytes ++ c ∷ more) ≡ true → ⊥
    no_more [] e = both_ways false refl e
    no_more (x ∷ xs) e = both_ways false refl e

-- ── marks ──

eq_from : (c n : ℕ) → n ≡ c → nat_eq c n ≡ true
eq_from c n e = grind (arith, nat_tests)

-- the marks that may be the front of a longer one
equals_stops : (kind : TokenKind) (c : ℕ) → bytes_eq (spelling kind) (61 ∷ []) ≡ true → 61 ≡ c → stops_at kind c ≡ true → ⊥
equals_stops k.Assign c e is h = both_ways (nat_eq c 61) (not-true _ h) (eq_from c 61 is)
equals_stops _ c e is h = both_ways false refl e

plus_stops : (kind : TokenKind) (c : ℕ) → bytes_eq (spelling kind) (43 ∷ []) ≡ true → 43 ≡ c → stops_at kind c ≡ true → ⊥
plus_stops k.Plus c e is h = both_ways (nat_eq c 43) (not-true _ h) (eq_from c 43 is)
plus_stops _ c e is h = both_ways false refl e

minus_stops : (kind : TokenKind) (c : ℕ) → bytes_eq (spelling kind) (45 ∷ []) ≡ true → 62 ≡ c → stops_at kind c ≡ true → ⊥
minus_stops k.Minus c e is h = both_ways (nat_eq c 62) (not-true _ h) (eq_from c 62 is)
minus_stops _ c e is h = both_ways false refl e

-- no byte more is in a token of two bytes
tail_none : (x y b : ℕ) (bs : List ℕ) (c : ℕ) (more : List ℕ) → x ∷ y ∷ [] ≡ b ∷ (bs ++ c ∷ more) → (x ∷ [] ≡ b ∷ bs) × (y ≡ c)
tail_none x y b [] c more e = (cc e, cc e)
tail_none x y b (z ∷ zs) c more e = absurd (omega (arith, ap length e, length-append zs (c ∷ more)))

begins_with : (kind : TokenKind) (x b : ℕ) (bs : List ℕ) → spelling kind ≡ b ∷ bs → x ∷ [] ≡ b ∷ bs → bytes_eq (spelling kind) (x ∷ []) ≡ true
begins_with kind x b bs e is = (bytes_eq-Decides (spelling kind) (x ∷ [])).1 (e ∙ sym is)

-- the marks have one byte, or two that such a mark does not stop at
abbrev has_mark_shape : List ℕ → Bool
has_mark_shape bytes = not (is_mark_byte (first bytes)) || nat_lt (length bytes) 2 || bytes_eq (codes "==") bytes || bytes_eq (codes "++") bytes || bytes_eq (codes "->") bytes

mark_ends : (kind other : TokenKind) (b : ℕ) (bs : List ℕ) (c : ℕ) (more : List ℕ) → is_mark_byte b ≡ true → spelling kind ≡ b ∷ bs → stops_at kind c ≡ true
    → spelling other ≡ b ∷ (bs ++ c ∷ more) → has_mark_shape (spelling other) ≡ true → ⊥
mark_ends kind other b bs c more m e h is shaped =
    let bytes : List ℕ = b ∷ (bs ++ c ∷ more) in
    elim (or_cases (not (is_mark_byte b) || nat_lt (length bytes) 2 || bytes_eq (codes "==") bytes || bytes_eq (codes "++") bytes) _ (ap has_mark_shape (sym is) ∙ shaped)) [
      | inr two ↦ minus_two ((bytes_eq-Decides (codes "->") bytes).0 two)
      | inl x ↦ elim (or_cases (not (is_mark_byte b) || nat_lt (length bytes) 2 || bytes_eq (codes "==") bytes) _ x) [
        | inr two ↦ plus_two ((bytes_eq-Decides (codes "++") bytes).0 two)
        | inl y ↦ elim (or_cases (not (is_mark_byte b) || nat_lt (length bytes) 2) _ y) [
          | inr two ↦ equals_two ((bytes_eq-Decides (codes "==") bytes).0 two)
          | inl z ↦ elim (or_cases (not (is_mark_byte b)) _ z) [
            | inl v ↦ both_ways (is_mark_byte b) (not-true _ v) m
            | inr short ↦ omega (arith, ltb-true (length bytes) 2 short, length-append bs (c ∷ more))
          ]
        ]
      ]
    ]
  where
    minus_two : codes "->" ≡ b ∷ (bs ++ c ∷ more) → ⊥
    minus_two two = let both : (45 ∷ [] ≡ b ∷ bs) × (62 ≡ c) = tail_none 45 62 b bs c more two in minus_stops kind c (begins_with kind 45 b bs e both.0) both.1 h

    plus_two : codes "++" ≡ b ∷ (bs ++ c ∷ more) → ⊥
    plus_two two = let both : (43 ∷ [] ≡ b ∷ bs) × (43 ≡ c) = tail_none 43 43 b bs c more two in plus_stops kind c (begins_with kind 43 b bs e both.0) both.1 h

    equals_two : codes "==" ≡ b ∷ (bs ++ c ∷ more) → ⊥
    equals_two two = let both : (61 ∷ [] ≡ b ∷ bs) × (61 ≡ c) = tail_none 61 61 b bs c more two in equals_stops kind c (begins_with kind 61 b bs e both.0) both.1 h

mark_shape : (kind : TokenKind) → has_mark_shape (spelling kind) ≡ true
mark_shape k.Name = refl
mark_shape _ = refl

mark_sort : (b : ℕ) → is_mark_byte b ≡ true → (is_letter b ≡ false) × ((is_digit b ≡ false) × (is_quote b ≡ false))
mark_sort b h =
    let p : ((not (is_word_byte b) && not (is_quote b) && not (is_blank b) && not (is_hash b)) ≡ true) × (not (is_line_feed b) ≡ true) = and_parts _ (not (is_line_feed b)) h in
    let q : ((not (is_word_byte b) && not (is_quote b) && not (is_blank b)) ≡ true) × (not (is_hash b) ≡ true) = and_parts _ (not (is_hash b)) p.0 in
    let r : ((not (is_word_byte b) && not (is_quote b)) ≡ true) × (not (is_blank b) ≡ true) = and_parts _ (not (is_blank b)) q.0 in
    let s : (not (is_word_byte b) ≡ true) × (not (is_quote b) ≡ true) = and_parts (not (is_word_byte b)) (not (is_quote b)) r.0 in
    let w : (is_letter b ≡ false) × (is_digit b ≡ false) = or_parts (is_letter b) (is_digit b) (not-true _ s.0) in
    (w.0, (w.1, not-true _ s.1))

-- ── any token ──

-- no token is a whole one and, behind it, a byte that it stops at
ends : (kind other : TokenKind) (b : ℕ) (bs : List ℕ) (c : ℕ) (more : List ℕ) → kind_of (b ∷ bs) ≡ Some kind → stops_at kind c ≡ true → kind_of (b ∷ (bs ++ c ∷ more)) ≡ Some other → ⊥
ends kind other b bs c more h stop g = elim (sort_of kind b bs h) [
  | Lettered l w ↦ letter_ends b bs c more other l (lettered_stops kind c w stop) g
  | Digits d e ↦ digit_ends b bs c more other d (not-true (is_word_or_ask c) (ap (λ x. stops_at x c) (sym e) ∙ stop)) g
  | Quoted q e ↦ closed_once false bs c more (only_text b bs kind q h) (only_text b (bs ++ c ∷ more) other q g)
  | Marked m e ↦ elim (sort_of other b (bs ++ c ∷ more) g) [
    | Lettered l w ↦ both_ways (is_letter b) (mark_sort b m).0 l
    | Digits d f ↦ both_ways (is_digit b) (mark_sort b m).1.0 d
    | Quoted q f ↦ both_ways (is_quote b) (mark_sort b m).1.1 q
    | Marked n f ↦ mark_ends kind other b bs c more m e stop f (mark_shape other)
  ]
]

-- a front of the text that is longer than such a token is none
longer_none : (kind : TokenKind) (b : ℕ) (bs rest : List ℕ) → kind_of (b ∷ bs) ≡ Some kind → stops kind rest ≡ true → (j : ℕ) → 0 < j → j ≤ length rest → kind_of (b ∷ (bs ++ take j rest)) ≡ None
longer_none kind b bs rest h stop zero some le = absurd (omega arith)
longer_none kind b bs [] h stop (suc j) some le = absurd (omega arith)
longer_none kind b bs (c ∷ rest) h stop (suc j) some le = none_from _ (λ other g. ends kind other b bs c (take j rest) h stop g)

-- a token is the longest where what is behind it does not join it
pub next : (kind : TokenKind) (b : ℕ) (bs rest : List ℕ) → kind_of (b ∷ bs) ≡ Some kind → stops kind rest ≡ true → IsNext (b ∷ (bs ++ rest)) kind (length (b ∷ bs))
next kind b bs rest h stop = record {
  within = omega (arith, length-append (b ∷ bs) rest);
  token = ap kind_of (take-append_seam (b ∷ bs) rest) ∙ h;
  longest = λ m lt le.
      let j : ℕ = m - length (b ∷ bs) in
      let is : m ≡ length (b ∷ bs) + j = omega arith in
      ap (λ x. kind_of (take x (b ∷ (bs ++ rest)))) is ∙ ap kind_of (take-append-add (b ∷ bs) rest j)
      ∙ longer_none kind b bs rest h stop j (omega arith) (omega (arith, length-append (b ∷ bs) rest));
}
