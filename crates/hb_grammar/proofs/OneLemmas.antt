-- Tokens stop to begin a program at one place, where one thing is wanted.
use Rattle.std.proofs.Common.{◌≡◌, ℕ, ◌≤◌, ◌<◌, ◌+◌, ◌-◌, List, ◌++◌, refl, sym, ◌∙◌, ap, subst, inl, inr, length, take, drop, get_or, arith, append_assoc}
use Rattle.std.proofs.lemmas.Bool.{cases_Bool, ltb-true, ltb-false}
use Rattle.std.proofs.{lemmas.List.take-append-drop, Math.Seq.take-add}
use Rattle.std.specs.Prelude.{nat_lt}
use Rattle.hb_lex.specs.declared.kinds.TokenKind.{TokenKind}
use Rattle.hb_grammar.specs.declared.{symbols.Symbol.Symbol, wanted.Wanted.Wanted}
use Rattle.hb_grammar.specs.declared.wanted.Wanted.TheVariants as want
use Rattle.hb_grammar.specs.Language.{Begins, IsSentence, IsProgramText, Misses, program, rank}
use Rattle.hb_grammar.proofs.WantedLemmas.{wants}

-- what begins a sentence begins it with fewer tokens too
begins-fewer : (stack : List Symbol) (front rest : List TokenKind) → Begins stack (front ++ rest) → Begins stack front
begins-fewer stack front rest h = (rest ++ h.0, subst (λ (ts : List TokenKind). IsSentence stack ts) (append_assoc front rest h.0) h.1)

begins-less : (stack : List Symbol) (tokens : List TokenKind) (n m : ℕ) → n ≤ m → Begins stack (take m tokens) → Begins stack (take n tokens)
begins-less stack tokens n m le h =
    let sum : m ≡ n + (m - n) = omega (arith, le) in
    let cut : take m tokens ≡ take n tokens ++ take (m - n) (drop n tokens) = ap (λ i. take i tokens) sum ∙ take-add n (m - n) tokens in
    begins-fewer stack (take n tokens) (take (m - n) (drop n tokens)) (subst (λ (ts : List TokenKind). Begins stack ts) cut h)

whole-begins : (stack : List Symbol) (tokens : List TokenKind) (n : ℕ) → IsSentence stack tokens → Begins stack (take n tokens)
whole-begins stack tokens n h = (drop n tokens, subst (λ (ts : List TokenKind). IsSentence stack ts) (sym (take-append-drop n tokens)) h)

not-later : (tokens : List TokenKind) (a b : ℕ) (v w : Wanted) → Misses tokens a v → Misses tokens b w → a < b → ⊥
not-later tokens a b v w x y lt =
    x.missed.no_more (omega (arith, lt, y.missed.within)) (begins-less program tokens (a + 1) b (omega (arith, lt)) y.missed.begins)

pub one-place : (tokens : List TokenKind) (a b : ℕ) (v w : Wanted) → Misses tokens a v → Misses tokens b w → a ≡ b
one-place tokens a b v w x y = elim (cases_Bool (nat_lt a b)) [
  | inl before ↦ absurd (not-later tokens a b v w x y (ltb-true a b before))
  | inr f ↦ elim (cases_Bool (nat_lt b a)) [
    | inl behind ↦ absurd (not-later tokens b a w v y x (ltb-true b a behind))
    | inr g ↦ omega (arith, ltb-false a b f, ltb-false b a g)
  ]
]

-- a thing that is wanted is known by its rank
of-rank : ℕ → Wanted
of-rank n = get_or wants n want.Item

rank-back : (w : Wanted) → of-rank (rank w) ≡ w
unfolding of-rank
rank-back want.End = refl
rank-back _ = refl

pub one-wanted : (tokens : List TokenKind) (a b : ℕ) (v w : Wanted) → Misses tokens a v → Misses tokens b w → v ≡ w
one-wanted tokens a b v w x y =
    let same : a ≡ b = one-place tokens a b v w x y in
    let y' : Misses tokens a w = subst (λ (n : ℕ). Misses tokens n w) (sym same) y in
    let ranks : rank v ≡ rank w = omega (arith, x.wanted.first w y'.wanted.may, y'.wanted.first v x.wanted.may) in
    sym (rank-back v) ∙ ap of-rank ranks ∙ rank-back w

pub apart : (tokens : List TokenKind) (a : ℕ) (w : Wanted) → IsProgramText tokens → Misses tokens a w → ⊥
apart tokens a w whole x = elim (cases_Bool (nat_lt a (length tokens))) [
  | inl lt ↦ x.missed.no_more (ltb-true a (length tokens) lt) (whole-begins program tokens (a + 1) whole)
  | inr f ↦ x.missed.not_whole (omega (arith, ltb-false a (length tokens) f, x.missed.within)) whole
]
