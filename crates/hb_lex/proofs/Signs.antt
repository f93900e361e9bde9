-- Marks at the front of a text.
use Rattle.std.proofs.Common.{◌≡◌, ℕ, zero, suc, ◌≤◌, ◌<◌, List, [], ◌∷◌, length, take, get_or, Bool, true, false, Some, None, refl, sym, ◌∙◌, ap, inl, inr, arith, codes, length-take}
use Rattle.std.specs.Prelude.{◌&&◌, ◌||◌, nat_le, nat_lt, nat_eq, bytes_eq, find}
use Rattle.std.specs.{List.starts_with, Option.option_or}
use Rattle.std.proofs.lemmas.Bool.{and_parts, or_cases, cases_Bool, both_ways, cond-true, cond-false, leb-true, ltb-true, or_parts, false_from_ne_true}
use Rattle.std.proofs.{lemmas.Slice.Eq.bytes_eq-Decides, lemmas.List.Folds.find-append}
use Rattle.hb_lex.specs.declared.kinds.TokenKind.{TokenKind}
use Rattle.hb_lex.specs.declared.kinds.TokenKind.TheVariants as k
use Rattle.hb_lex.specs.Bytes.{is_small, is_capital, is_digit, is_word_byte, is_quote}
use Rattle.hb_lex.specs.Spelling.{spelling, words, marks, spelled, fixed}
use Rattle.hb_lex.specs.{Tokens.kind_of, Tokens.IsNext, Tokens.BeginsNone, Text.front_fault}
use Rattle.hb_lex.specs.declared.faults.LexFail.TheVariants as fail
use Rattle.hb_lex.proofs.Forms.{none_from, kind_cases, formed_cases, Small, Capital, Digits, Quoted, mark_fixed, spelled_shape, all_fixed, kind_of_spelling, empty_none, found}

abbrev first : List ℕ → ℕ
first text = get_or text 0 0

abbrev pub stands : List ℕ → TokenKind → Bool
stands text kind = starts_with nat_eq text (spelling kind)

stands_is : (text : List ℕ) (kind : TokenKind) → stands text kind ≡ true → spelling kind ≡ take (length (spelling kind)) text
stands_is text kind h = (bytes_eq-Decides (spelling kind) (take (length (spelling kind)) text)).0 h

-- a token that no word byte and no quote begins is written in one way
only_fixed : (b : ℕ) (bs : List ℕ) (kind : TokenKind) → is_word_byte b ≡ false → is_quote b ≡ false → kind_of (b ∷ bs) ≡ Some kind → fixed (b ∷ bs) ≡ Some kind
only_fixed b bs kind w q h =
    let letters : ((is_small b || is_capital b) ≡ false) × (is_digit b ≡ false) = or_parts (is_small b || is_capital b) (is_digit b) w in
    let sorts : (is_small b ≡ false) × (is_capital b ≡ false) = or_parts (is_small b) (is_capital b) letters.0 in
    elim (kind_cases (b ∷ bs) kind h) [
      | inl f ↦ f
      | inr f ↦ elim (formed_cases (b ∷ bs) kind f) [
        | Small x ↦ absurd (both_ways (is_small b) sorts.0 (and_parts (is_small b) _ x).0)
        | Capital x ↦ absurd (both_ways (is_capital b) sorts.1 (and_parts (is_capital b) _ x).0)
        | Digits x ↦ absurd (both_ways (is_digit b) letters.1 (and_parts (is_digit b) _ x).0)
        | Quoted x ↦ absurd (both_ways (is_quote b) q (and_parts (is_quote b) _ x).0)
      ]
    ]

-- a mark of two bytes, where no word byte begins it
abbrev shape_of_two : List ℕ → Bool
shape_of_two bytes = is_word_byte (first bytes) || nat_lt (length bytes) 2 || bytes_eq (codes "==") bytes || bytes_eq (codes "++") bytes || bytes_eq (codes "->") bytes

two_fixed : (bytes : List ℕ) (kind : TokenKind) → fixed bytes ≡ Some kind → shape_of_two bytes ≡ true
unfolding words marks
two_fixed bytes kind h = (spelled_shape shape_of_two all_fixed bytes kind refl h).1

data IsTwo (bytes : List ℕ) : Type 0 where
  Equal : codes "==" ≡ bytes → IsTwo bytes
  Joined : codes "++" ≡ bytes → IsTwo bytes
  Arrow : codes "->" ≡ bytes → IsTwo bytes

two_cases : (b c : ℕ) (kind : TokenKind) → is_word_byte b ≡ false → fixed (b ∷ c ∷ []) ≡ Some kind → IsTwo (b ∷ c ∷ [])
two_cases b c kind w h =
    let bytes : List ℕ = b ∷ c ∷ [] in
    elim (or_cases (is_word_byte b || false || bytes_eq (codes "==") bytes || bytes_eq (codes "++") bytes) _ (two_fixed bytes kind h)) [
      | inr e ↦ Arrow ((bytes_eq-Decides (codes "->") bytes).0 e)
      | inl x ↦ elim (or_cases (is_word_byte b || false || bytes_eq (codes "==") bytes) _ x) [
        | inr e ↦ Joined ((bytes_eq-Decides (codes "++") bytes).0 e)
        | inl y ↦ elim (or_cases (is_word_byte b || false) _ y) [
          | inr e ↦ Equal ((bytes_eq-Decides (codes "==") bytes).0 e)
          | inl z ↦ elim (or_cases (is_word_byte b) false z) [ inl v ↦ absurd (both_ways (is_word_byte b) w v) | inr v ↦ absurd (cc v) ]
        ]
      ]
    ]

-- where two bytes are a mark, the mark that is found has two
found_two : (b c : ℕ) (rest : List ℕ) (kind : TokenKind) → IsTwo (b ∷ c ∷ []) → find (stands (b ∷ c ∷ rest)) marks ≡ Some kind → length (spelling kind) ≡ 2
unfolding marks
found_two b c rest kind (Equal e) h = let p : b ≡ 61 = cc e in let q : c ≡ 61 = cc e in let same : Some k.Equals ≡ Some kind = rw (p, q) at h in let is : k.Equals ≡ kind = cc same in
    ap (λ x. length (spelling x)) (sym is)
found_two b c rest kind (Joined e) h = let p : b ≡ 43 = cc e in let q : c ≡ 43 = cc e in let same : Some k.Concat ≡ Some kind = rw (p, q) at h in let is : k.Concat ≡ kind = cc same in
    ap (λ x. length (spelling x)) (sym is)
found_two b c rest kind (Arrow e) h = let p : b ≡ 45 = cc e in let q : c ≡ 62 = cc e in let same : Some k.Arrow ≡ Some kind = rw (p, q) at h in let is : k.Arrow ≡ kind = cc same in ap (λ x. length (spelling x)) (sym is)

-- each mark has one or two bytes
abbrev shape_of_mark : TokenKind → Bool
shape_of_mark kind = nat_lt 0 (length (spelling kind)) && nat_le (length (spelling kind)) 2

found_mark : (text : List ℕ) (kind : TokenKind) → find (stands text) marks ≡ Some kind → (stands text kind ≡ true) × (shape_of_mark kind ≡ true)
unfolding marks
found_mark text kind h = found (stands text) shape_of_mark marks kind h refl

-- no token is longer than the mark that is found
mark_longest : (b : ℕ) (bs : List ℕ) (kind : TokenKind) → is_word_byte b ≡ false → is_quote b ≡ false → find (stands (b ∷ bs)) marks ≡ Some kind → 0 < length (spelling kind) → (m : ℕ)
    → length (spelling kind) < m → m ≤ length (b ∷ bs) → kind_of (take m (b ∷ bs)) ≡ None
mark_longest b bs kind w q f some zero lt le = absurd (omega arith)
mark_longest b bs kind w q f some (suc zero) lt le = absurd (omega arith)
mark_longest b [] kind w q f some (suc (suc m)) lt le = absurd (omega arith)
mark_longest b (c ∷ cs) kind w q f some (suc (suc m)) lt le = none_from _ (λ other h.
    let same : fixed (b ∷ c ∷ take m cs) ≡ Some other = only_fixed b (c ∷ take m cs) other w q h in
    elim (or_cases (is_word_byte b) _ (mark_fixed (b ∷ c ∷ take m cs) other same)) [
      | inl v ↦ both_ways (is_word_byte b) w v
      | inr short ↦
          let two : length (b ∷ c ∷ take m cs) ≤ 2 = leb-true _ 2 short in
          let none : m ≡ 0 = omega (arith, length-take m cs) in
          let at_two : fixed (b ∷ c ∷ []) ≡ Some other = ap (λ z. fixed (b ∷ c ∷ take z cs)) (sym none) ∙ same in
          omega (arith, found_two b c cs kind (two_cases b c other w at_two) f)
    ])

pub mark_next : (text : List ℕ) (kind : TokenKind) → 0 < length text → is_word_byte (first text) ≡ false → is_quote (first text) ≡ false → find (stands text) marks ≡ Some kind → IsNext text kind (length (spelling kind))
mark_next [] kind p w q f = absurd (omega arith)
mark_next (b ∷ bs) kind p w q f =
    let at : (stands (b ∷ bs) kind ≡ true) × (shape_of_mark kind ≡ true) = found_mark (b ∷ bs) kind f in
    let same : spelling kind ≡ take (length (spelling kind)) (b ∷ bs) = stands_is (b ∷ bs) kind at.0 in
    let some : 0 < length (spelling kind) = ltb-true 0 _ (and_parts (nat_lt 0 (length (spelling kind))) _ at.1).0 in
    record {
      within = omega (arith, ap length same, length-take (length (spelling kind)) (b ∷ bs));
      token = ap kind_of (sym same) ∙ kind_of_spelling kind some;
      longest = mark_longest b bs kind w q f some;
    }

-- ── no mark ──

find_none : (test other : TokenKind → Bool) (kinds : List TokenKind) → ((kind : TokenKind) → other kind ≡ true → test kind ≡ true) → find test kinds ≡ None → find other kinds ≡ None
find_none test other [] f h = refl
find_none test other (x ∷ kinds) f h = elim (cases_Bool (test x)) [
  | inl t ↦ absurd (cc (sym (cond-true (test x) (Some x) (find test kinds) t) ∙ h))
  | inr n ↦
      cond-false (other x) _ _ (false_from_ne_true (other x) (λ o. both_ways (test x) n (f x o)))
      ∙ find_none test other kinds f (sym (cond-false (test x) (Some x) (find test kinds) n) ∙ h)
]

-- words and `type?` begin with word bytes
abbrev shape_of_letters : List ℕ → Bool
shape_of_letters bytes = is_word_byte (first bytes)

no_letters : (bytes : List ℕ) → is_word_byte (first bytes) ≡ false → spelled (k.KwTypeAsk ∷ words) bytes ≡ None
unfolding words
no_letters bytes w = none_from _ (λ kind h. both_ways (is_word_byte (first bytes)) w (spelled_shape shape_of_letters (k.KwTypeAsk ∷ words) bytes kind refl h).1)

fixed_mark : (bytes : List ℕ) → is_word_byte (first bytes) ≡ false → fixed bytes ≡ spelled marks bytes
fixed_mark bytes w = find-append (λ kind. bytes_eq (spelling kind) bytes) (k.KwTypeAsk ∷ words) marks ∙ ap (λ o. option_or o (spelled marks bytes)) (no_letters bytes w)

spelled_stands : (text : List ℕ) (m : ℕ) → m ≤ length text → (kind : TokenKind) → bytes_eq (spelling kind) (take m text) ≡ true → stands text kind ≡ true
spelled_stands text m le kind h =
    let same : spelling kind ≡ take m text = (bytes_eq-Decides (spelling kind) (take m text)).0 h in
    let long : length (spelling kind) ≡ m = omega (arith, ap length same, length-take m text) in
    (bytes_eq-Decides (spelling kind) (take (length (spelling kind)) text)).1 (same ∙ ap (λ z. take z text) (sym long))

pub begins_none : (text : List ℕ) → 0 < length text → is_word_byte (first text) ≡ false → is_quote (first text) ≡ false → find (stands text) marks ≡ None → BeginsNone text
begins_none [] p w q f = absurd (omega arith)
begins_none (b ∷ bs) p w q f = λ m le. none_at m le
  where
    none_at : (m : ℕ) → m ≤ length (b ∷ bs) → kind_of (take m (b ∷ bs)) ≡ None
    none_at zero le = empty_none
    none_at (suc m) le = none_from _ (λ kind h.
        let at : fixed (b ∷ take m bs) ≡ Some kind = only_fixed b (take m bs) kind w q h in
        let none : spelled marks (b ∷ take m bs) ≡ None = find_none (stands (b ∷ bs)) (λ x. bytes_eq (spelling x) (b ∷ take m bs)) marks (spelled_stands (b ∷ bs) (suc m) le) f in
        cc (sym at ∙ fixed_mark (b ∷ take m bs) w ∙ none))

-- no token begins with this byte
pub bad_byte : (text : List ℕ) (at : ℕ) → 0 < length text → is_word_byte (first text) ≡ false → is_quote (first text) ≡ false → find (stands text) marks ≡ None
    → BeginsNone text × (front_fault at text ≡ Some (fail.BadByte at))
bad_byte text at p w q f = (begins_none text p w q f, fault_at text p q)
  where
    fault_at : (text : List ℕ) → 0 < length text → is_quote (first text) ≡ false → front_fault at text ≡ Some (fail.BadByte at)
    fault_at [] p q = absurd (omega arith)
    fault_at (b ∷ bs) p q = cond-false (is_quote b) _ _ q
