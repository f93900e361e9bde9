-- Each turn of a run with one token of sight leaves less to do.
use Rattle.std.proofs.Common.{◌≡◌, ℕ, ◌≤◌, ◌<◌, ◌+◌, ◌*◌, ◌-◌, List, [], ◌∷◌, ◌++◌, Bool, true, false, Option, Some, None, refl, inl, inr, length, arith, if◌then◌else◌}
use Rattle.std.proofs.lemmas.Bool.{cases_Bool, both_ways, cond-true, cond-false, ltb-true}
use Rattle.std.specs.{List.list_all, Prelude.nat_lt}
use Rattle.hb_lex.specs.declared.kinds.TokenKind.{TokenKind}
use Rattle.hb_lex.specs.declared.kinds.TokenKind.TheVariants as k
use Rattle.hb_grammar.proofs.{TableLemmas.sorts, SightLemmas.holds_of, SightLemmas.is_sort}
use Rattle.hb_grammar.specs.declared.{actions.Action.Action, symbols.Sort.Sort, symbols.Symbol.Symbol, symbols.Symbol.TheVariants.Token as T}
use Rattle.hb_grammar.specs.declared.{symbols.Symbol.TheVariants.Phrase as N, symbols.Symbol.TheVariants.Action as A}
use Rattle.hb_grammar.specs.{Grammar.alternatives, Sight.is_kind, Sight.front, Sight.choice}
use Rattle.hb_grammar.specs.Measure.{weight, weights, is_next, potential}

weights-append : (a b : List Symbol) → weights (a ++ b) ≡ weights a + weights b
weights-append [] b = omega arith
weights-append (T j ∷ a) b = let h : weights (a ++ b) ≡ weights a + weights b = weights-append a b in omega (arith, h)
weights-append (A x ∷ a) b = let h : weights (a ++ b) ≡ weights a + weights b = weights-append a b in omega (arith, h)
weights-append (N s ∷ a) b = let h : weights (a ++ b) ≡ weights a + weights b = weights-append a b in omega (arith, h)

potential-most : (stack : List Symbol) (tokens : List TokenKind) → potential stack tokens ≤ 40 * length tokens + weights stack
unfolding potential
potential-most stack tokens = elim (cases_Bool (is_next stack (front tokens))) [
  | inl y ↦ let e : potential stack tokens ≡ 40 * (length tokens - 1) + weights stack = cond-true _ _ _ y in omega (arith, e)
  | inr f ↦ let e : potential stack tokens ≡ 40 * length tokens + weights stack = cond-false _ _ _ f in omega (arith, e)
]

-- a token is read
pub potential-token : (j t : TokenKind) (stack : List Symbol) (tokens : List TokenKind) → is_kind (Some t) j ≡ true → potential stack tokens < potential (T j ∷ stack) (t ∷ tokens)
unfolding potential
potential-token j t stack tokens y =
    let e : potential (T j ∷ stack) (t ∷ tokens) ≡ 40 * (length (t ∷ tokens) - 1) + (1 + weights stack) = cond-true _ _ _ y in
    let m : potential stack tokens ≤ 40 * length tokens + weights stack = potential-most stack tokens in omega (arith, e, m)

-- the alternative that is chosen has less weight than its sort, but for a token that is read next
abbrev pub is_light : Option TokenKind → Sort → Bool
is_light sight s = nat_lt (weights (choice (alternatives s) sight)) (if is_next (choice (alternatives s) sight) sight then 40 + weight s else weight s)

all_light : (sight : Option TokenKind) → list_all (is_light sight) sorts ≡ true
all_light (Some k.KwClass) = refl
all_light _ = refl

light : (s : Sort) (sight : Option TokenKind) → is_light sight s ≡ true
light s sight = holds_of (is_light sight) sorts s (all_light sight) (is_sort s)

light-next : (s : Sort) (sight : Option TokenKind) → is_next (choice (alternatives s) sight) sight ≡ true → weights (choice (alternatives s) sight) < 40 + weight s
light-next s sight y =
    let e : (if is_next (choice (alternatives s) sight) sight then 40 + weight s else weight s) ≡ 40 + weight s = cond-true _ _ _ y in
    let h : weights (choice (alternatives s) sight) < (if is_next (choice (alternatives s) sight) sight then 40 + weight s else weight s) = ltb-true _ _ (light s sight) in omega (arith, e, h)

light-other : (s : Sort) (sight : Option TokenKind) → is_next (choice (alternatives s) sight) sight ≡ false → weights (choice (alternatives s) sight) < weight s
light-other s sight f =
    let e : (if is_next (choice (alternatives s) sight) sight then 40 + weight s else weight s) ≡ weight s = cond-false _ _ _ f in
    let h : weights (choice (alternatives s) sight) < (if is_next (choice (alternatives s) sight) sight then 40 + weight s else weight s) = ltb-true _ _ (light s sight) in omega (arith, e, h)

next-some : (stack : List Symbol) (tokens : List TokenKind) → is_next stack (front tokens) ≡ true → 0 < length tokens
next-some (T j ∷ stack) (t ∷ tokens) y = omega arith
next-some _ _ y = absurd (both_ways false refl y)

-- the potential of a phrase in front of a stack
potential-front : (phrase stack : List Symbol) (tokens : List TokenKind) (most : ℕ)
    → (is_next phrase (front tokens) ≡ true → weights phrase < 40 + most) → (is_next phrase (front tokens) ≡ false → weights phrase < most)
    → potential (phrase ++ stack) tokens < 40 * length tokens + (most + weights stack)
unfolding potential
potential-front [] stack tokens most next other =
    let m : potential stack tokens ≤ 40 * length tokens + weights stack = potential-most stack tokens in
    let h : 0 < most = other refl in omega (arith, m, h)
potential-front (A x ∷ phrase) stack tokens most next other =
    let h : 1 + weights phrase < most = other refl in
    let a : weights (phrase ++ stack) ≡ weights phrase + weights stack = weights-append phrase stack in
    omega (arith, h, a)
potential-front (N s ∷ phrase) stack tokens most next other =
    let h : weight s + weights phrase < most = other refl in
    let a : weights (phrase ++ stack) ≡ weights phrase + weights stack = weights-append phrase stack in
    omega (arith, h, a)
potential-front (T j ∷ phrase) stack tokens most next other =
    let a : weights (phrase ++ stack) ≡ weights phrase + weights stack = weights-append phrase stack in
    elim (cases_Bool (is_kind (front tokens) j)) [
      | inl y ↦
          let e : potential (T j ∷ (phrase ++ stack)) tokens ≡ 40 * (length tokens - 1) + (1 + weights (phrase ++ stack)) = cond-true _ _ _ y in
          let h : 1 + weights phrase < 40 + most = next y in
          let some : 0 < length tokens = next-some (T j ∷ phrase) tokens y in
          omega (arith, a, e, h, some)
      | inr f ↦
          let e : potential (T j ∷ (phrase ++ stack)) tokens ≡ 40 * length tokens + (1 + weights (phrase ++ stack)) = cond-false _ _ _ f in
          let h : 1 + weights phrase < most = other f in
          omega (arith, a, e, h)
    ]

-- a sort is replaced by the alternative that is chosen
pub potential-phrase : (s : Sort) (stack : List Symbol) (tokens : List TokenKind) → potential (choice (alternatives s) (front tokens) ++ stack) tokens < potential (N s ∷ stack) tokens
unfolding potential
potential-phrase s stack tokens = potential-front (choice (alternatives s) (front tokens)) stack tokens (weight s) (light-next s (front tokens)) (light-other s (front tokens))

-- an action is done
pub potential-action : (a : Action) (stack : List Symbol) (tokens : List TokenKind) → potential stack tokens < potential (A a ∷ stack) tokens
unfolding potential
potential-action a stack tokens = let m : potential stack tokens ≤ 40 * length tokens + weights stack = potential-most stack tokens in omega (arith, m)
