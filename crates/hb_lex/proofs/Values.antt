-- The values of numbers and texts.
use Rattle.std.proofs.Common.{◌≡◌, ℕ, ◌+◌, ◌-◌, ◌<◌, ◌≤◌, List, [], ◌∷◌, length, take, drop, get_or, Bool, true, false, refl, sym, ◌∙◌, ap, arith}
use Rattle.std.specs.Prelude.{fold}
use Rattle.std.proofs.{lemmas.Bool.cond_both, lemmas.List.at_drop_more, lemmas.List.at_drop_all, lemmas.List.take_rest}
use Rattle.hb_lex.specs.Literal.{with_digit, value_of_number, value_behind, value_of_text, is_text}
use Rattle.hb_lex.specs.Bytes.{is_quote, is_backslash}

-- digits make a number no smaller
value_grows : (value : ℕ) (digits : List ℕ) → value ≤ fold with_digit value digits
value_grows value [] = omega arith
value_grows value (d ∷ digits) =
    let rest : with_digit value d ≤ fold with_digit (with_digit value d) digits = value_grows (with_digit value d) digits in
    omega arith

-- the digits up to `i` make `value`
pub record Reads (digits : List ℕ) (i : ℕ) (value : ℕ) : Type 0 where
  pub goes_on : fold with_digit value (drop i digits) ≡ value_of_number digits

pub Reads-more : (digits : List ℕ) (i value : ℕ) → i < length digits → Reads digits i value → Reads digits (i + 1) (with_digit value (get_or digits i 0))
Reads-more digits i value lt r = record { goes_on = sym (at_drop_more (fold with_digit value) digits i 0 lt) ∙ r.goes_on }

pub Reads-least : (digits : List ℕ) (i value : ℕ) → Reads digits i value → value ≤ value_of_number digits
Reads-least digits i value r = omega (arith, value_grows value (drop i digits), r.goes_on)

-- ── texts ──

-- a text's value is no longer than its bytes
pub value_short : (escaped : Bool) (bytes : List ℕ) → length (value_behind escaped bytes) ≤ length bytes
value_short escaped [] = omega arith
value_short true (b ∷ bytes) = let rest : length (value_behind false bytes) ≤ length bytes = value_short false bytes in omega arith
value_short false (b ∷ bytes) =
    cond_both (is_quote b) _ _ (λ value. length value ≤ length (b ∷ bytes)) (λ _. omega arith)
    (λ _. cond_both (is_backslash b) _ _ (λ value. length value ≤ length (b ∷ bytes))
    (λ _. let rest : length (value_behind true bytes) ≤ length bytes = value_short true bytes in omega arith)
    (λ _. let rest : length (value_behind false bytes) ≤ length bytes = value_short false bytes in omega arith))

-- what `&literal[1..]` of a text holds
pub behind_quote : (literal : List ℕ) → is_text literal ≡ true → value_of_text literal ≡ value_behind false (take (length literal - 1) (drop 1 literal))
behind_quote [] h = refl
behind_quote (b ∷ bytes) h = ap (λ rest. value_behind false rest) (sym (take_rest (b ∷ bytes) 1))
