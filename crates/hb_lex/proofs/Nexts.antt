-- The longest token at the front of a text, by its first byte.
use Rattle.std.proofs.Common.{◌≡◌, ℕ, zero, suc, ◌≤◌, ◌<◌, List, [], ◌∷◌, length, take, get_or, Bool, true, false, Some, None, refl, sym, ◌∙◌, ap, subst, inl, inr, arith, codes, length-take}
use Rattle.std.specs.Prelude.{◌||◌, nat_eq, take_while, bytes_eq}
use Rattle.std.specs.List.{list_all, starts_with}
use Rattle.std.proofs.lemmas.Bool.{and_parts, and_from, cases_Bool, both_ways, cond-true, cond-false, or_cases}
use Rattle.std.proofs.{lemmas.Slice.Eq.bytes_eq-Decides, lemmas.List.Sums.take_while-cons}
use Rattle.hb_lex.specs.{Spelling.words, Spelling.spelled, Tokens.kind_of, Tokens.IsNext}
use Rattle.hb_lex.specs.declared.kinds.TokenKind.{TokenKind}
use Rattle.hb_lex.specs.declared.kinds.TokenKind.TheVariants as k
use Rattle.hb_lex.specs.Bytes.{is_small, is_capital, is_digit, is_word_byte}
use Rattle.hb_lex.proofs.Forms.{none_from, only_word, only_number, kind_of_spelling, kind_of_reserved, kind_of_name, kind_of_class, kind_of_number, letter_byte}

-- n bytes pass the test, and no more do
pub record IsRun (test : ℕ → Bool) (text : List ℕ) (n : ℕ) : Type 0 where
  pub within : n ≤ length text
  pub pass : list_all test (take n text) ≡ true
  pub longest : (m : ℕ) → n < m → m ≤ length text → list_all test (take m text) ≡ true → ⊥

longer : (test : ℕ → Bool) (b : ℕ) (bs : List ℕ) (n : ℕ) → IsRun test bs n → (m : ℕ) → suc n < m → m ≤ length (b ∷ bs) → list_all test (take m (b ∷ bs)) ≡ true → ⊥
longer test b bs n r zero lt le h = absurd (omega arith)
longer test b bs n r (suc m) lt le h = r.longest m (omega arith) (omega arith) (and_parts (test b) (list_all test (take m bs)) h).1

run_more : (test : ℕ → Bool) (b : ℕ) (bs : List ℕ) (n : ℕ) → test b ≡ true → IsRun test bs n → IsRun test (b ∷ bs) (suc n)
run_more test b bs n t r = record {
  within = let h : n ≤ length bs = r.within in omega arith;
  pass = and_from (test b) (list_all test (take n bs)) t r.pass;
  longest = λ m lt le h. longer test b bs n r m lt le h;
}

none_longer : (test : ℕ → Bool) (b : ℕ) (bs : List ℕ) → test b ≡ false → (m : ℕ) → 0 < m → list_all test (take m (b ∷ bs)) ≡ true → ⊥
none_longer test b bs f zero lt h = absurd (omega arith)
none_longer test b bs f (suc m) lt h = both_ways (test b) f (and_parts (test b) (list_all test (take m bs)) h).0

run_none : (test : ℕ → Bool) (b : ℕ) (bs : List ℕ) → test b ≡ false → IsRun test (b ∷ bs) 0
run_none test b bs f = record { within = omega arith; pass = refl; longest = λ m lt le h. none_longer test b bs f m lt h }

run_of : (test : ℕ → Bool) (text : List ℕ) → IsRun test text (length (take_while test text))
run_of test [] = record { within = omega arith; pass = refl; longest = λ m lt le h. absurd (omega arith) }
run_of test (b ∷ bs) = elim (cases_Bool (test b)) [
  | inl t ↦ let e : take_while test (b ∷ bs) ≡ b ∷ take_while test bs = take_while-cons test b bs ∙ cond-true (test b) (b ∷ take_while test bs) [] t in
      let P = λ (x : List ℕ). IsRun test (b ∷ bs) (length x) in
      subst P (sym e) (run_more test b bs (length (take_while test bs)) t (run_of test bs))
  | inr f ↦ let e : take_while test (b ∷ bs) ≡ [] = take_while-cons test b bs ∙ cond-false (test b) (b ∷ take_while test bs) [] f in
      let P = λ (x : List ℕ). IsRun test (b ∷ bs) (length x) in
      subst P (sym e) (run_none test b bs f)
]

run_at : (test : ℕ → Bool) (text : List ℕ) (n : ℕ) → n ≡ length (take_while test text) → IsRun test text n
run_at test text n e = let P = λ (x : ℕ). IsRun test text x in subst P (sym e) (run_of test text)

run_some : (test : ℕ → Bool) (b : ℕ) (bs : List ℕ) (n : ℕ) → test b ≡ true → IsRun test (b ∷ bs) n → 0 < n
run_some test b bs zero t r = absurd (r.longest 1 (omega arith) (omega arith) (and_from (test b) true t refl))
run_some test b bs (suc n) t r = omega arith

-- ── words ──

-- no token is longer than a run of word bytes, but for `type?`
word_longest : (b : ℕ) (bs : List ℕ) (n : ℕ) → (is_small b || is_capital b) ≡ true → bytes_eq (codes "type?") (take 5 (b ∷ bs)) ≡ false → IsRun is_word_byte (b ∷ bs) n → (m : ℕ) → n < m
    → m ≤ length (b ∷ bs) → kind_of (take m (b ∷ bs)) ≡ None
word_longest b bs n letter other r zero lt le = absurd (omega arith)
word_longest b bs n letter other r (suc m) lt le = none_from _ (λ kind h.
    elim (only_word b (take m bs) kind letter h) [
      | inl all ↦ r.longest (suc m) lt le all
      | inr e ↦
          let five : m ≡ 4 = omega (arith, ap length e, length-take m bs) in
          let same : codes "type?" ≡ take 5 (b ∷ bs) = e ∙ ap (λ z. take (suc z) (b ∷ bs)) five in
          both_ways _ other ((bytes_eq-Decides (codes "type?") (take 5 (b ∷ bs))).1 same)
    ])

take_one : (b : ℕ) (bs : List ℕ) (n : ℕ) → 0 < n → (m : ℕ) × (n ≡ suc m)
take_one b bs zero h = absurd (omega arith)
take_one b bs (suc n) h = (n, refl)

abbrev first : List ℕ → ℕ
first text = get_or text 0 0

-- what the front of word bytes makes, where a run of them is `n` long
pub record IsWordRun (text : List ℕ) (n : ℕ) : Type 0 where
  pub some : 0 < n
  pub within : n ≤ length text
  pub all : list_all is_word_byte (take n text) ≡ true
  pub longest : (m : ℕ) → n < m → m ≤ length text → kind_of (take m text) ≡ None

pub word_run : (text : List ℕ) (n : ℕ) → 0 < length text → (is_small (first text) || is_capital (first text)) ≡ true → bytes_eq (codes "type?") (take 5 text) ≡ false
    → n ≡ length (take_while is_word_byte text) → IsWordRun text n
word_run [] n p letter other e = absurd (omega arith)
word_run (b ∷ bs) n p letter other e =
    let r : IsRun is_word_byte (b ∷ bs) n = run_at is_word_byte (b ∷ bs) n e in
    record {
      some = run_some is_word_byte b bs n (letter_byte b letter).0 r;
      within = r.within;
      all = r.pass;
      longest = word_longest b bs n letter other r;
    }

length_front : (n : ℕ) (text : List ℕ) → 0 < n → n ≤ length text → 0 < length (take n text)
length_front n text some le = omega (arith, length-take n text)

pub reserved_next : (text : List ℕ) (n : ℕ) (kind : TokenKind) → IsWordRun text n → spelled words (take n text) ≡ Some kind → IsNext text kind n
reserved_next text n kind r h = record {
  within = r.within;
  token = kind_of_reserved (take n text) kind (length_front n text r.some r.within) r.all h;
  longest = r.longest;
}

name_token : (text : List ℕ) (n : ℕ) → 0 < n → n ≤ length text → is_small (first text) ≡ true → list_all is_word_byte (take n text) ≡ true → spelled words (take n text) ≡ None → kind_of (take n text) ≡ Some k.Name
name_token [] n some le s all h = absurd (omega arith)
name_token (b ∷ bs) zero some le s all h = absurd (omega arith)
name_token (b ∷ bs) (suc n) some le s all h = kind_of_name b (take n bs) s all h

class_token : (text : List ℕ) (n : ℕ) → 0 < n → n ≤ length text → is_capital (first text) ≡ true → list_all is_word_byte (take n text) ≡ true → spelled words (take n text) ≡ None
    → kind_of (take n text) ≡ Some k.ClassName
class_token [] n some le s all h = absurd (omega arith)
class_token (b ∷ bs) zero some le s all h = absurd (omega arith)
class_token (b ∷ bs) (suc n) some le s all h = kind_of_class b (take n bs) s all h

pub name_next : (text : List ℕ) (n : ℕ) → IsWordRun text n → is_small (first text) ≡ true → spelled words (take n text) ≡ None → IsNext text k.Name n
name_next text n r s h = record { within = r.within; token = name_token text n r.some r.within s r.all h; longest = r.longest }

pub class_next : (text : List ℕ) (n : ℕ) → IsWordRun text n → is_capital (first text) ≡ true → spelled words (take n text) ≡ None → IsNext text k.ClassName n
class_next text n r s h = record { within = r.within; token = class_token text n r.some r.within s r.all h; longest = r.longest }

-- ── `type?` ──

take_short : (n m : ℕ) (text : List ℕ) → n < m → m ≤ length text → list_all is_word_byte (take m text) ≡ true → list_all is_word_byte (take n text) ≡ true
take_short zero m text lt le h = refl
take_short (suc n) zero text lt le h = absurd (omega arith)
take_short (suc n) (suc m) [] lt le h = refl
take_short (suc n) (suc m) (b ∷ bs) lt le h =
    let parts : (is_word_byte b ≡ true) × (list_all is_word_byte (take m bs) ≡ true) = and_parts (is_word_byte b) _ h in
    and_from (is_word_byte b) _ parts.0 (take_short n m bs (omega arith) (omega arith) parts.1)

ask_longest : (b : ℕ) (bs : List ℕ) → (is_small b || is_capital b) ≡ true → codes "type?" ≡ take 5 (b ∷ bs) → (m : ℕ) → 5 < m → m ≤ length (b ∷ bs) → kind_of (take m (b ∷ bs)) ≡ None
ask_longest b bs letter e zero lt le = absurd (omega arith)
ask_longest b bs letter e (suc m) lt le = none_from _ (λ kind h.
    elim (only_word b (take m bs) kind letter h) [
      | inl all ↦ both_ways false refl (ap (λ s. list_all is_word_byte s) e ∙ take_short 5 (suc m) (b ∷ bs) lt le all)
      | inr long ↦ omega (arith, ap length long, length-take m bs)
    ])

pub ask_next : (text : List ℕ) → 0 < length text → (is_small (first text) || is_capital (first text)) ≡ true → bytes_eq (codes "type?") (take 5 text) ≡ true → IsNext text k.KwTypeAsk 5
ask_next [] p letter h = absurd (omega arith)
ask_next (b ∷ bs) p letter h =
    let same : codes "type?" ≡ take 5 (b ∷ bs) = (bytes_eq-Decides (codes "type?") (take 5 (b ∷ bs))).0 h in
    record {
      within = omega (arith, ap length same, length-take 5 (b ∷ bs));
      token = ap kind_of (sym same) ∙ kind_of_spelling k.KwTypeAsk (omega arith);
      longest = ask_longest b bs letter same;
    }

-- what `starts_with` says of the spelling of `type?`
pub asked : (text ask : List ℕ) (answer : Bool) → ask ≡ codes "type?" → answer ≡ starts_with nat_eq text ask → answer ≡ bytes_eq (codes "type?") (take 5 text)
asked text ask answer e h = h ∙ ap (λ s. starts_with nat_eq text s) e

-- a letter that is not small is a capital
pub capital_from : (b : ℕ) → (is_small b || is_capital b) ≡ true → is_small b ≡ false → is_capital b ≡ true
capital_from b letter f = elim (or_cases (is_small b) (is_capital b) letter) [ inl t ↦ absurd (both_ways (is_small b) f t) | inr c ↦ c ]

-- ── numbers ──

number_longest : (b : ℕ) (bs : List ℕ) (n : ℕ) → is_digit b ≡ true → IsRun is_digit (b ∷ bs) n → (m : ℕ) → n < m → m ≤ length (b ∷ bs) → kind_of (take m (b ∷ bs)) ≡ None
number_longest b bs n d r zero lt le = absurd (omega arith)
number_longest b bs n d r (suc m) lt le = none_from _ (λ kind h. r.longest (suc m) lt le (only_number b (take m bs) kind d h))

number_token : (b : ℕ) (bs : List ℕ) (n : ℕ) → 0 < n → list_all is_digit (take n (b ∷ bs)) ≡ true → kind_of (take n (b ∷ bs)) ≡ Some k.Number
number_token b bs zero some all = absurd (omega arith)
number_token b bs (suc n) some all = kind_of_number b (take n bs) all

pub number_next : (text : List ℕ) (n : ℕ) → 0 < length text → is_digit (first text) ≡ true → n ≡ length (take_while is_digit text) → IsNext text k.Number n
number_next [] n p d e = absurd (omega arith)
number_next (b ∷ bs) n p d e =
    let r : IsRun is_digit (b ∷ bs) n = run_at is_digit (b ∷ bs) n e in
    record {
      within = r.within;
      token = number_token b bs n (run_some is_digit b bs n d r) r.pass;
      longest = number_longest b bs n d r;
    }
