-- A run is exact: where it ends on a token, the tokens before it begin a sentence, and with it they begin none.
use Rattle.std.proofs.Common.{◌≡◌, ℕ, suc, zero, ◌≤◌, List, [], ◌∷◌, ◌++◌, true, refl, sym, ◌∙◌, ap, subst, inl, inr, length, arith, append_assoc}
use Rattle.std.proofs.lemmas.Bool.{cases_Bool, cond-true, cond-false}
use Rattle.hb_lex.specs.declared.kinds.TokenKind.{TokenKind}
use Rattle.hb_lex.specs.declared.kinds.TokenKind.TheVariants as k
use Rattle.hb_grammar.specs.declared.{symbols.Sort.Sort, symbols.Symbol.Symbol, symbols.Symbol.TheVariants.Token as T, symbols.Symbol.TheVariants.Phrase as N}
use Rattle.hb_grammar.specs.declared.{symbols.Symbol.TheVariants.Action as A, wanted.Wanted.Wanted}
use Rattle.hb_grammar.specs.declared.symbols.Sort.TheVariants as g
use Rattle.hb_grammar.specs.Grammar.{alternatives}
use Rattle.hb_grammar.specs.Sight.{kind_eq, front, choice, run, Outcome, Unfinished, Done, Missed, wanted_for}
use Rattle.hb_grammar.specs.Language.{IsOneOf, Derives, IsSentence, Begins}
use Rattle.hb_grammar.proofs.SightLemmas.{same_kind, kind_same, choice_is, choice-derives, IsFollowed, IsFollowed-phrase}

-- each sort has an alternative, so that the chosen one is one of them
pub is_choice : (sort : Sort) (tokens : List TokenKind) → IsOneOf (alternatives sort) (choice (alternatives sort) (front tokens))
is_choice g.Program tokens = choice_is (alternatives g.Program) (front tokens) _ _ refl
is_choice sort tokens = choice_is (alternatives sort) (front tokens) _ _ refl

-- where a run ends early
abbrev pub EndsAt : Outcome → ℕ → Type 0
EndsAt Unfinished left = ⊥
EndsAt Done left = ⊥
EndsAt (Missed w at) left = at ≡ left

-- ── a run that is done derives the tokens ──

pub missed_not_done : {w : Wanted} {n : ℕ} → Missed w n ≡ Done → ⊥
missed_not_done e = cc

pub derives-run : (n : ℕ) (stack : List Symbol) (tokens : List TokenKind) → run n stack tokens ≡ Done → Derives n stack tokens
unfolding run
derives-run (suc n) [] [] e = refl
derives-run (suc n) (T j ∷ stack) (t ∷ ts) e = elim (cases_Bool (kind_eq t j)) [
  | inl y ↦ (ts, ap (λ x. x ∷ ts) (same_kind t j y), derives-run n stack ts (sym (cond-true (kind_eq t j) (run n stack ts) (Missed (wanted_for j) (length (t ∷ ts))) y) ∙ e))
  | inr f ↦ absurd (missed_not_done (sym (cond-false (kind_eq t j) (run n stack ts) (Missed (wanted_for j) (length (t ∷ ts))) f) ∙ e))
]
derives-run (suc n) (A a ∷ stack) tokens e = derives-run n stack tokens e
derives-run (suc n) (N sort ∷ stack) tokens e = (choice (alternatives sort) (front tokens), is_choice sort tokens, derives-run n (choice (alternatives sort) (front tokens) ++ stack) tokens e)
derives-run _ stack tokens e = absurd (cc)

-- ── where a run ends early ──

-- no more tokens are left there than there were
pub left_at_most : (n : ℕ) (stack : List Symbol) (tokens : List TokenKind) (left : ℕ) → EndsAt (run n stack tokens) left → left ≤ length tokens
unfolding run
left_at_most zero stack tokens left e = absurd e
left_at_most (suc n) [] [] left e = absurd e
left_at_most (suc n) [] (t ∷ ts) left e = omega (arith, e)
left_at_most (suc n) (T j ∷ stack) [] left e = omega (arith, e)
left_at_most (suc n) (T j ∷ stack) (t ∷ ts) left e = elim (cases_Bool (kind_eq t j)) [
  | inl y ↦ let P = λ (o : Outcome). EndsAt o left in
      let h : left ≤ length ts = left_at_most n stack ts left (subst P (cond-true (kind_eq t j) (run n stack ts) (Missed (wanted_for j) (length (t ∷ ts))) y) e) in omega arith
  | inr f ↦ let P = λ (o : Outcome). EndsAt o left in
      let h : length (t ∷ ts) ≡ left = subst P (cond-false (kind_eq t j) (run n stack ts) (Missed (wanted_for j) (length (t ∷ ts))) f) e in omega arith
]
left_at_most (suc n) (A a ∷ stack) tokens left e = left_at_most n stack tokens left e
left_at_most (suc n) (N sort ∷ stack) tokens left e = left_at_most n (choice (alternatives sort) (front tokens) ++ stack) tokens left e

-- the first token of these, with any tokens behind it in place of the others
abbrev pub with_first : List TokenKind → List TokenKind → List TokenKind
with_first [] more = []
with_first (t ∷ ts) more = t ∷ more

front-with_first : (before rest more : List TokenKind) → front (before ++ with_first rest more) ≡ front (before ++ rest)
front-with_first [] [] more = refl
front-with_first [] (t ∷ ts) more = refl
front-with_first (y ∷ before) rest more = refl

pub ends_at : (o : Outcome) (w : Wanted) (left : ℕ) → o ≡ Missed w left → EndsAt o left
ends_at o w left e = let P = λ (x : Outcome). EndsAt x left in subst P (sym e) refl

-- with the token at which a token is missed, the tokens before it begin no sentence
pub excludes : (n : ℕ) (stack : List Symbol) (before rest : List TokenKind) (w : Wanted) → IsFollowed stack → run n stack (before ++ rest) ≡ Missed w (length rest)
    → (m : ℕ) (more : List TokenKind) → Derives m stack (before ++ with_first rest more) → ⊥
unfolding run
excludes (suc n) stack before rest w f e zero more d = d
excludes (suc n) [] [] [] w f e (suc m) more d = absurd (cc)
excludes (suc n) (T j ∷ stack) [] (t ∷ ts) w f e (suc m) more d =
    let same : t ≡ j = cc (d.1) in
    let y : kind_eq t j ≡ true = rw same (kind_same j) in
    let h : length (t ∷ ts) ≤ length ts = left_at_most n stack ts (length (t ∷ ts)) (ends_at _ w _ (sym (cond-true (kind_eq t j) (run n stack ts) (Missed (wanted_for j) (length (t ∷ ts))) y) ∙ e)) in
    absurd (omega arith)
excludes (suc n) (T j ∷ stack) (t ∷ ts) rest w f e (suc m) more d =
    let same : t ≡ j = cc (d.1) in
    let others : d.0 ≡ ts ++ with_first rest more = cc (d.1) in
    let y : kind_eq t j ≡ true = rw same (kind_same j) in
    let P = λ (x : List TokenKind). Derives m stack x in
    excludes n stack ts rest w f (sym (cond-true (kind_eq t j) (run n stack (ts ++ rest)) (Missed (wanted_for j) (length (t ∷ (ts ++ rest)))) y) ∙ e) m more (subst P others d.2)
excludes (suc n) (A a ∷ stack) before rest w f e (suc m) more d = excludes n stack before rest w f e m more d
excludes (suc n) (N sort ∷ stack) before rest w f e (suc m) more d =
    let chosen : choice (alternatives sort) (front (before ++ with_first rest more)) ≡ d.0 = choice-derives m sort stack (before ++ with_first rest more) d.0 f d.1 d.2 in
    let same : choice (alternatives sort) (front (before ++ rest)) ≡ d.0 = sym (ap (λ x. choice (alternatives sort) x) (front-with_first before rest more)) ∙ chosen in
    let P = λ (p : List Symbol). run n (p ++ stack) (before ++ rest) ≡ Missed w (length rest) in
    excludes n (d.0 ++ stack) before rest w (IsFollowed-phrase sort stack d.0 d.1 f) (subst P same e) m more d.2
excludes _ stack before rest w f e m more d = absurd (cc)

-- ── each stack has a sentence ──

Derives-append : (n m : ℕ) (a b : List Symbol) (x y : List TokenKind) → Derives n a x → Derives m b y → (k : ℕ) × Derives k (a ++ b) (x ++ y)
Derives-append zero m a b x y d e = absurd d
Derives-append (suc n) m [] b x y d e = let P = λ (z : List TokenKind). Derives m b (z ++ y) in (m, subst P (sym d) e)
Derives-append (suc n) m (T j ∷ a) b x y d e =
    let r : (k : ℕ) × Derives k (a ++ b) (d.0 ++ y) = Derives-append n m a b d.0 y d.2 e in
    (suc r.0, (d.0 ++ y, ap (λ z. z ++ y) d.1, r.1))
Derives-append (suc n) m (A z ∷ a) b x y d e =
    let r : (k : ℕ) × Derives k (a ++ b) (x ++ y) = Derives-append n m a b x y d e in
    (suc r.0, r.1)
Derives-append (suc n) m (N sort ∷ a) b x y d e =
    let r : (k : ℕ) × Derives k ((d.0 ++ a) ++ b) (x ++ y) = Derives-append n m (d.0 ++ a) b x y d.2 e in
    let P = λ (z : List Symbol). Derives r.0 z (x ++ y) in
    (suc r.0, (d.0, d.1, subst P (append_assoc d.0 a b) r.1))

-- a short phrase of each sort
pub phrase_of : Sort → List TokenKind
phrase_of g.Expression = k.Number ∷ []
phrase_of g.OtherUnary = k.Number ∷ []
phrase_of g.Method = k.ClassName ∷ k.Dot ∷ k.Name ∷ []
phrase_of g.MethodName = k.Name ∷ []
phrase_of g.Signature = k.OpenParen ∷ k.CloseParen ∷ k.Arrow ∷ k.TyNil ∷ []
phrase_of g.TypeWord = k.TyNil ∷ []
phrase_of g.Sum = k.Number ∷ []
phrase_of g.Product = k.Number ∷ []
phrase_of g.Unary = k.Number ∷ []
phrase_of g.Postfix = k.Number ∷ []
phrase_of g.Primary = k.Number ∷ []
phrase_of g.Value = k.Number ∷ []
phrase_of g.ElsePart = k.KwEnd ∷ []
phrase_of _ = []

pub phrase_done : (sort : Sort) → run 40 (N sort ∷ []) (phrase_of sort) ≡ Done
unfolding run phrase_of
phrase_done g.Program = refl
phrase_done _ = refl

pub has_sentence : (stack : List Symbol) → (more : List TokenKind) × IsSentence stack more
has_sentence [] = ([], (1, refl))
has_sentence (T j ∷ stack) = let h : (more : List TokenKind) × IsSentence stack more = has_sentence stack in (j ∷ h.0, (suc h.1.0, (h.0, refl, h.1.1)))
has_sentence (A a ∷ stack) = let h : (more : List TokenKind) × IsSentence stack more = has_sentence stack in (h.0, (suc h.1.0, h.1.1))
has_sentence (N sort ∷ stack) =
    let h : (more : List TokenKind) × IsSentence stack more = has_sentence stack in
    let d : Derives 40 (N sort ∷ []) (phrase_of sort) = derives-run 40 (N sort ∷ []) (phrase_of sort) (phrase_done sort) in
    (phrase_of sort ++ h.0, Derives-append 40 h.1.0 (N sort ∷ []) stack (phrase_of sort) h.0 d h.1.1)

-- ── the tokens before the place where a run ends early begin a sentence ──

pub record BeginsBefore (stack : List Symbol) (tokens : List TokenKind) (left : ℕ) : Type 0 where
  pub before : List TokenKind
  pub rest : List TokenKind
  pub cut : tokens ≡ before ++ rest
  pub here : length rest ≡ left
  pub begins : Begins stack before

-- a place where nothing was read
at_once : (stack : List Symbol) (tokens : List TokenKind) (left : ℕ) → length tokens ≡ left → BeginsBefore stack tokens left
at_once stack tokens left e = record { before = []; rest = tokens; cut = refl; here = e; begins = has_sentence stack }

pub begins-run : (n : ℕ) (stack : List Symbol) (tokens : List TokenKind) (left : ℕ) → EndsAt (run n stack tokens) left → BeginsBefore stack tokens left
unfolding run
begins-run zero stack tokens left e = absurd e
begins-run (suc n) [] [] left e = absurd e
begins-run (suc n) [] (t ∷ ts) left e = at_once [] (t ∷ ts) left e
begins-run (suc n) (T j ∷ stack) [] left e = at_once (T j ∷ stack) [] left e
begins-run (suc n) (T j ∷ stack) (t ∷ ts) left e = elim (cases_Bool (kind_eq t j)) [
  | inl y ↦ let P = λ (o : Outcome). EndsAt o left in
      let r : BeginsBefore stack ts left = begins-run n stack ts left (subst P (cond-true (kind_eq t j) (run n stack ts) (Missed (wanted_for j) (length (t ∷ ts))) y) e) in
      record {
        before = t ∷ r.before;
        rest = r.rest;
        cut = ap (λ x. t ∷ x) r.cut;
        here = r.here;
        begins = (r.begins.0, (suc r.begins.1.0, (r.before ++ r.begins.0, ap (λ x. x ∷ (r.before ++ r.begins.0)) (same_kind t j y), r.begins.1.1)));
      }
  | inr f ↦ let P = λ (o : Outcome). EndsAt o left in at_once (T j ∷ stack) (t ∷ ts) left (subst P (cond-false (kind_eq t j) (run n stack ts) (Missed (wanted_for j) (length (t ∷ ts))) f) e)
]
begins-run (suc n) (A a ∷ stack) tokens left e =
    let r : BeginsBefore stack tokens left = begins-run n stack tokens left e in
    record { before = r.before; rest = r.rest; cut = r.cut; here = r.here; begins = (r.begins.0, (suc r.begins.1.0, r.begins.1.1)) }
begins-run (suc n) (N sort ∷ stack) tokens left e =
    let phrase : List Symbol = choice (alternatives sort) (front tokens) in
    let r : BeginsBefore (phrase ++ stack) tokens left = begins-run n (phrase ++ stack) tokens left e in
    record { before = r.before; rest = r.rest; cut = r.cut; here = r.here; begins = (r.begins.0, (suc r.begins.1.0, (phrase, is_choice sort tokens, r.begins.1.1))) }
