-- The place of a byte behind the end is that of the end.
use Rattle.std.proofs.Common.{◌≡◌, ◌+◌, ◌∙◌, ℕ, List, inl, inr, sym, ap, arith, length, take}
use Rattle.std.proofs.Math.Nat.{min-eq_left, min_comm}
use Rattle.std.proofs.lemmas.Bool.{cases_lt}
use Rattle.std.proofs.lemmas.List.{take_all}
use Rattle.std.specs.List.{after_last}
use Rattle.std.specs.Prelude.{count_by, min}
use Rattle.hb_lex.specs.Bytes.{is_line_feed}
use Rattle.hb_lex.specs.Place.{column_at, line_at}

take-within : (text : List ℕ) (at : ℕ) → take (min at (length text)) text ≡ take at text
take-within text at = elim (cases_lt at (length text)) [
  | inl h ↦ ap (λ (n : ℕ). take n text) (min-eq_left (omega (arith, h)))
  | inr h ↦
      ap (λ (n : ℕ). take n text) (min_comm at (length text) ∙ min-eq_left h)
      ∙ take_all (length text) text (omega arith)
      ∙ sym (take_all at text h)
]

pub line-within : (text : List ℕ) (at within : ℕ) → within ≡ min at (length text) → line_at text within ≡ line_at text at
line-within text at within e = ap (λ (n : ℕ). line_at text n) e ∙ ap (λ (front : List ℕ). 1 + count_by is_line_feed front) (take-within text at)

pub column-within : (text : List ℕ) (at within : ℕ) → within ≡ min at (length text) → column_at text within ≡ column_at text at
column-within text at within e = ap (λ (n : ℕ). column_at text n) e ∙ ap (λ (front : List ℕ). 1 + length (after_last is_line_feed front)) (take-within text at)
