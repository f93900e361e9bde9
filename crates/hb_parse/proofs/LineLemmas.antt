-- A line and a column tell which byte of a text they are of.
use Rattle.std.proofs.Common.{◌≡◌, ◌⊎◌, inl, inr, ℕ, zero, suc, ◌+◌, ◌-◌, ◌<◌, ◌≤◌, List, length, get_or, take, drop, sym, ◌∙◌, ap, arith, length-take, length-drop}
use Rattle.std.proofs.lemmas.Bool.{cases_eq, cases_lt}
use Rattle.hb_lex.specs.Place.{line_at, column_at}
use Rattle.hb_lex.proofs.Columns.{line_feed_next, other_next}

module _ (text : List ℕ) where
  -- it is on a later line, or so many columns further
  abbrev IsBehind : ℕ → ℕ → ℕ → Type 0
  IsBehind at later n = (line_at text at < line_at text later) ⊎ ((line_at text later ≡ line_at text at) × (column_at text later ≡ column_at text at + n))

  one-further : (at : ℕ) → at < length text → IsBehind at (0 + (at + 1)) 1
  one-further at lt =
      let within : at < length (take (length text - 0) (drop 0 text)) = omega (arith, lt, length-take (length text - 0) (drop 0 text), length-drop 0 text) in
      let here : 0 + at ≡ at = omega arith in
      elim (cases_eq (get_or (take (length text - 0) (drop 0 text)) at 0) 10) as (λ _. IsBehind at (0 + (at + 1)) 1) [
        | inl feed ↦ let h = line_feed_next text 0 (length text) at within feed in inl (omega (arith, h.0, ap (line_at text) here))
        | inr other ↦ let h = other_next text 0 (length text) at within other in
            inr (h.0 ∙ ap (line_at text) here, h.1 ∙ ap (λ n. column_at text n + 1) here)
      ]

  further : (at n : ℕ) → at + n ≤ length text → IsBehind at (at + n) n
  further at zero within = let here : at + 0 ≡ at = omega arith in inr (ap (line_at text) here, omega (arith, ap (column_at text) here))
  further at (suc n) within =
      let next : 0 + (at + n + 1) ≡ at + suc n = omega arith in
      elim (further at n (omega (arith, within))) as (λ _. IsBehind at (at + suc n) (suc n)) [
        | inl less ↦ elim (one-further (at + n) (omega (arith, within))) as (λ _. IsBehind at (at + suc n) (suc n)) [
          | inl more ↦ inl (omega (arith, less, more, ap (line_at text) next))
          | inr same ↦ inl (omega (arith, less, same.0, ap (line_at text) next))
        ]
        | inr same ↦ elim (one-further (at + n) (omega (arith, within))) as (λ _. IsBehind at (at + suc n) (suc n)) [
          | inl more ↦ inl (omega (arith, same.0, more, ap (line_at text) next))
          | inr also ↦ inr (omega (arith, same.0, also.0, ap (line_at text) next), omega (arith, same.1, also.1, ap (column_at text) next))
        ]
      ]

  behind-same : (at n : ℕ) → at + n ≤ length text → line_at text at ≡ line_at text (at + n) → column_at text at ≡ column_at text (at + n) → n ≡ 0
  behind-same at n within line column = elim (further at n within) [
    | inl less ↦ absurd (omega (arith, less, line))
    | inr same ↦ omega (arith, same.1, column)
  ]

  -- one place is of one byte
  pub one-byte : (a b : ℕ) → a ≤ length text → b ≤ length text → line_at text a ≡ line_at text b → column_at text a ≡ column_at text b → a ≡ b
  one-byte a b a_within b_within line column = elim (cases_lt a b) [
    | inl less ↦
        let to : a + (b - a) ≡ b = omega (arith, less) in
        let h : b - a ≡ 0 = behind-same a (b - a) (omega (arith, to, b_within)) (line ∙ ap (line_at text) (sym to)) (column ∙ ap (column_at text) (sym to)) in
        omega (arith, less, h)
    | inr more ↦
        let to : b + (a - b) ≡ a = omega (arith, more) in
        let h : a - b ≡ 0 = behind-same b (a - b) (omega (arith, to, a_within)) (sym line ∙ ap (line_at text) (sym to)) (sym column ∙ ap (column_at text) (sym to)) in
        omega (arith, more, h)
  ]
