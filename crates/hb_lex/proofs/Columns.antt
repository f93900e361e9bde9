-- The bytes behind the last line feed, counted from the end.
use Rattle.std.proofs.Common.{◌≡◌, ◌-◌, ◌+◌, ◌<◌, List, ◌++◌, [], ◌∷◌, ℕ, Bool, true, false, length, drop, take, get_or, reverse, not, cond, refl, sym, ◌∙◌, ap, arith, length-take, length-drop}
use Rattle.std.specs.{Prelude.take_while, Prelude.count_by, List.after_last, List.suffix_len, List.prefix_len}
use Rattle.std.proofs.lemmas.Bool.{cond-true, cond-false, eq-eqb, ne_eqb, not_from_true, not_from_false}
use Rattle.std.proofs.lemmas.List.{length-reverse, reverse-append, take_more, get_or-take, get_or-drop}
use Rattle.std.proofs.lemmas.List.Sums.{sum_by-append, prefix_len-le-length}
use Rattle.hb_lex.specs.{Bytes.is_line_feed, Place.line_at, Place.column_at}

after_last_len : (bytes : List ℕ) → length (after_last is_line_feed bytes) ≡ length (take_while (λ b. not (is_line_feed b)) (reverse bytes))
after_last_len bytes =
    let n = suffix_len (λ b. not (is_line_feed b)) bytes in
    omega (arith, length-drop (length bytes - n) bytes, length-take n (reverse bytes), length-reverse bytes)

-- how many bytes stand behind the last line feed
abbrev tail_len : List ℕ → ℕ
tail_len bytes = length (after_last is_line_feed bytes)

tail-is : (bytes : List ℕ) → tail_len bytes ≡ prefix_len (λ b. not (is_line_feed b)) (reverse bytes)
tail-is bytes =
    omega (arith, after_last_len bytes, length-take (prefix_len (λ b. not (is_line_feed b)) (reverse bytes)) (reverse bytes), prefix_len-le-length (λ b. not (is_line_feed b)) (reverse bytes))

tail-push : (bytes : List ℕ) (b : ℕ) → tail_len (bytes ++ b ∷ []) ≡ cond (not (is_line_feed b)) (1 + tail_len bytes) 0
tail-push bytes b =
    tail-is (bytes ++ b ∷ [])
    ∙ ap (λ s. prefix_len (λ x. not (is_line_feed x)) s) (reverse-append bytes (b ∷ []))
    ∙ ap (λ n. cond (not (is_line_feed b)) (1 + n) 0) (sym (tail-is bytes))

line_more : (bytes : List ℕ) (at : ℕ) → at < length bytes → line_at bytes (at + 1) ≡ line_at bytes at + cond (is_line_feed (get_or bytes at 0)) 1 0
line_more bytes at lt =
    ap (λ s. 1 + count_by is_line_feed s) (take_more bytes at 0 lt)
    ∙ ap (λ n. 1 + n) (sum_by-append (λ b. cond (is_line_feed b) 1 0) (take at bytes) (get_or bytes at 0 ∷ []))
    ∙ omega arith

column_more : (bytes : List ℕ) (at : ℕ) → at < length bytes → column_at bytes (at + 1) ≡ cond (not (is_line_feed (get_or bytes at 0))) (1 + column_at bytes at) 1
column_more bytes at lt =
    ap (λ s. 1 + tail_len s) (take_more bytes at 0 lt)
    ∙ ap (λ n. 1 + n) (tail-push (take at bytes) (get_or bytes at 0))
    ∙ out (not (is_line_feed (get_or bytes at 0))) (tail_len (take at bytes))
  where
    out : (b : Bool) (n : ℕ) → 1 + cond b (1 + n) 0 ≡ cond b (1 + (1 + n)) 1
    out true n = refl
    out false n = refl

-- ── one byte more of `&bytes[from..to]` ──

module _ (bytes : List ℕ) (from to i : ℕ) (lt : i < length (take (to - from) (drop from bytes))) where
  abbrev b : ℕ
  b = get_or (take (to - from) (drop from bytes)) i 0

  at_slice : b ≡ get_or bytes (from + i) 0
  at_slice = get_or-take (to - from) (drop from bytes) i 0 (omega (arith, length-take (to - from) (drop from bytes))) ∙ get_or-drop from bytes i 0

  inside : from + i < length bytes
  inside = omega (arith, length-take (to - from) (drop from bytes), length-drop from bytes)

  next : from + (i + 1) ≡ from + i + 1
  next = omega arith

  pub line_feed_next : b ≡ 10 → (line_at bytes (from + (i + 1)) ≡ line_at bytes (from + i) + 1) × (column_at bytes (from + (i + 1)) ≡ 1)
  line_feed_next e =
      let feed : is_line_feed (get_or bytes (from + i) 0) ≡ true = eq-eqb _ 10 (sym at_slice ∙ e) in (
        ap (line_at bytes) next ∙ line_more bytes (from + i) inside ∙ ap (λ n. line_at bytes (from + i) + n) (cond-true _ 1 0 feed),
        ap (column_at bytes) next ∙ column_more bytes (from + i) inside ∙ cond-false _ _ 1 (not_from_true _ feed),
      )

  pub other_next : (b ≡ 10 → ⊥) → (line_at bytes (from + (i + 1)) ≡ line_at bytes (from + i)) × (column_at bytes (from + (i + 1)) ≡ column_at bytes (from + i) + 1)
  other_next e =
      let feed : is_line_feed (get_or bytes (from + i) 0) ≡ false = ne_eqb _ 10 (λ h. e (at_slice ∙ h)) in
      let same : column_at bytes (from + (i + 1)) ≡ 1 + column_at bytes (from + i) = ap (column_at bytes) next ∙ column_more bytes (from + i) inside ∙ cond-true _ _ 1 (not_from_false _ feed) in
      let line : line_at bytes (from + (i + 1)) ≡ line_at bytes (from + i) + 0 = ap (line_at bytes) next ∙ line_more bytes (from + i) inside ∙ ap (λ n. line_at bytes (from + i) + n) (cond-false _ 1 0 feed) in
      (omega (arith, line), omega (arith, same))
