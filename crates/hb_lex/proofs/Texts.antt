-- Text tokens at the front of a text.
use Rattle.std.proofs.Common.{◌≡◌, ℕ, zero, suc, ◌+◌, ◌≤◌, ◌<◌, List, [], ◌∷◌, ◌-◌, length, take, drop, get_or, Bool, true, false, Some, None, refl, sym, ◌∙◌, ap, inl, inr, arith, add-one, length-take}
use Rattle.std.proofs.lemmas.Bool.{and_parts, cases_Bool, both_ways, cond-true, cond-false}
use Rattle.std.proofs.{lemmas.Bool.Decides.nat_tests, lemmas.List.take_rest}
use Rattle.hb_lex.specs.declared.kinds.TokenKind.TheVariants as k
use Rattle.hb_lex.specs.declared.faults.LexFail.{LexFail}
use Rattle.hb_lex.specs.Bytes.{is_line_feed, is_quote, is_backslash, is_plain, is_escape}
use Rattle.hb_lex.specs.{Literal.is_closed, Literal.is_empty, Literal.text_fault, Tokens.kind_of, Tokens.IsNext, Tokens.BeginsNone, Text.front_fault}
use Rattle.hb_lex.proofs.Forms.{none_from, only_text, kind_of_text, empty_none}

-- what the first byte of a text's inside does
data IsStep (b : ℕ) : Type 0 where
  Ends : is_quote b ≡ true → IsStep b
  Escapes : is_quote b ≡ false → is_backslash b ≡ true → IsStep b
  Goes : is_quote b ≡ false → is_backslash b ≡ false → IsStep b

step_of : (b : ℕ) → IsStep b
step_of b = elim (cases_Bool (is_quote b)) [
  | inl q ↦ Ends q
  | inr q ↦ elim (cases_Bool (is_backslash b)) [ inl s ↦ Escapes q s | inr s ↦ Goes q s ]
]

closed_at : (b : ℕ) (bytes : List ℕ) → is_quote b ≡ true → is_closed false (b ∷ bytes) ≡ true → bytes ≡ []
closed_at b [] q h = refl
closed_at b (c ∷ bytes) q h = absurd (cc (sym (cond-true (is_quote b) (is_empty (c ∷ bytes)) _ q) ∙ h))

closed_escape : (b : ℕ) (bytes : List ℕ) → is_quote b ≡ false → is_backslash b ≡ true → is_closed false (b ∷ bytes) ≡ true → is_closed true bytes ≡ true
closed_escape b bytes q s h = sym (cond-false (is_quote b) _ _ q ∙ cond-true (is_backslash b) _ _ s) ∙ h

closed_plain : (b : ℕ) (bytes : List ℕ) → is_quote b ≡ false → is_backslash b ≡ false → is_closed false (b ∷ bytes) ≡ true → (is_plain b ≡ true) × (is_closed false bytes ≡ true)
closed_plain b bytes q s h = and_parts (is_plain b) (is_closed false bytes) (sym (cond-false (is_quote b) _ _ q ∙ cond-false (is_backslash b) _ _ s) ∙ h)

-- a text is closed once
closed_once : (escaped : Bool) (bytes : List ℕ) (n m : ℕ) → n < m → m ≤ length bytes → is_closed escaped (take n bytes) ≡ true → is_closed escaped (take m bytes) ≡ true → ⊥
closed_once escaped bytes zero m lt le h g = both_ways false refl h
closed_once escaped bytes (suc n) zero lt le h g = omega arith
closed_once escaped [] (suc n) (suc m) lt le h g = omega arith
closed_once true (b ∷ bytes) (suc n) (suc m) lt le h g =
    closed_once false bytes n m (omega arith) (omega arith) (and_parts (is_escape b) _ h).1 (and_parts (is_escape b) _ g).1
closed_once false (b ∷ bytes) (suc n) (suc m) lt le h g = elim (step_of b) [
  | Ends q ↦ omega (arith, ap length (closed_at b (take m bytes) q g), length-take m bytes)
  | Escapes q s ↦ closed_once true bytes n m (omega arith) (omega arith) (closed_escape b (take n bytes) q s h) (closed_escape b (take m bytes) q s g)
  | Goes q s ↦ closed_once false bytes n m (omega arith) (omega arith) (closed_plain b (take n bytes) q s h).1 (closed_plain b (take m bytes) q s g).1
]

-- a front that is closed goes nowhere wrong
escape_feed : (b : ℕ) → is_escape b ≡ true → is_line_feed b ≡ false
escape_feed b h = grind (arith, nat_tests)

plain_feed : (b : ℕ) → is_plain b ≡ true → is_line_feed b ≡ false
plain_feed b h = grind (arith, nat_tests)

closed_right : (quote : ℕ) (escaped : Bool) (at : ℕ) (bytes : List ℕ) (m : ℕ) → is_closed escaped (take m bytes) ≡ true → text_fault quote escaped at bytes ≡ None
closed_right quote escaped at bytes zero h = absurd (both_ways false refl h)
closed_right quote escaped at [] (suc m) h = absurd (both_ways false refl h)
closed_right quote true at (b ∷ bytes) (suc m) h =
    let parts : (is_escape b ≡ true) × (is_closed false (take m bytes) ≡ true) = and_parts (is_escape b) _ h in
    cond-false (is_line_feed b) _ _ (escape_feed b parts.0) ∙ cond-true (is_escape b) _ _ parts.0 ∙ closed_right quote false (at + 1) bytes m parts.1
closed_right quote false at (b ∷ bytes) (suc m) h = elim (step_of b) [
  | Ends q ↦ cond-true (is_quote b) _ _ q
  | Escapes q s ↦ cond-false (is_quote b) _ _ q ∙ cond-true (is_backslash b) _ _ s ∙ closed_right quote true (at + 1) bytes m (closed_escape b (take m bytes) q s h)
  | Goes q s ↦
      let parts : (is_plain b ≡ true) × (is_closed false (take m bytes) ≡ true) = closed_plain b (take m bytes) q s h in
      cond-false (is_quote b) _ _ q ∙ cond-false (is_backslash b) _ _ s ∙ cond-false (is_line_feed b) _ _ (plain_feed b parts.0) ∙ cond-true (is_plain b) _ _ parts.0
      ∙ closed_right quote false (at + 1) bytes m parts.1
]

text_longest : (b : ℕ) (bs : List ℕ) (n : ℕ) → is_quote b ≡ true → is_closed false (take n bs) ≡ true → (m : ℕ) → suc n < m → m ≤ length (b ∷ bs) → kind_of (take m (b ∷ bs)) ≡ None
text_longest b bs n q closed zero lt le = absurd (omega arith)
text_longest b bs n q closed (suc m) lt le = none_from _ (λ kind h. closed_once false bs n m (omega arith) (omega arith) closed (only_text b (take m bs) kind q h))

abbrev first : List ℕ → ℕ
first text = get_or text 0 0

abbrev behind : List ℕ → List ℕ
behind text = take (length text - 1) (drop 1 text)

pub text_next : (text : List ℕ) (n : ℕ) → 0 < length text → is_quote (first text) ≡ true → n ≤ length (behind text) → is_closed false (take n (behind text)) ≡ true → IsNext text k.Text (n + 1)
text_next [] n p q le closed = absurd (omega arith)
text_next (b ∷ bs) n p q le closed =
    let rest : take (length (b ∷ bs) - 1) bs ≡ bs = take_rest (b ∷ bs) 1 in
    let here : is_closed false (take n bs) ≡ true = ap (λ s. is_closed false (take n s)) (sym rest) ∙ closed in
    rw add-one (record {
      within = omega (arith, ap length rest);
      token = kind_of_text b (take n bs) q here;
      longest = text_longest b bs n q here;
    })

none_closed : (b : ℕ) (bs : List ℕ) (at : ℕ) (fault : LexFail) → is_quote b ≡ true → text_fault at false (at + 1) bs ≡ Some fault → (m : ℕ) → m ≤ length (b ∷ bs) → kind_of (take m (b ∷ bs)) ≡ None
none_closed b bs at fault q h zero le = empty_none
none_closed b bs at fault q h (suc m) le = none_from _ (λ kind g. cc (sym (closed_right at false (at + 1) bs m (only_text b (take m bs) kind q g)) ∙ h))

pub text_none : (text : List ℕ) (at : ℕ) (fault : LexFail) → 0 < length text → is_quote (first text) ≡ true → text_fault at false (at + 1) (behind text) ≡ Some fault → BeginsNone text × (front_fault at text ≡ Some fault)
text_none [] at fault p q h = absurd (omega arith)
text_none (b ∷ bs) at fault p q h =
    let here : text_fault at false (at + 1) bs ≡ Some fault = ap (λ s. text_fault at false (at + 1) s) (sym (take_rest (b ∷ bs) 1)) ∙ h in
    (none_closed b bs at fault q here, cond-true (is_quote b) _ _ q ∙ here)
