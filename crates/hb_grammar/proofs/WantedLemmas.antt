-- What a run names as missing is the first of the list that may stand there.
use Rattle.std.proofs.Common.{◌≡◌, ℕ, suc, zero, ◌≤◌, ◌⊎◌, List, [], ◌∷◌, ◌++◌, Bool, true, false, ◌&&◌, ◌||◌, Option, Some, None, refl, sym, ◌∙◌, ap, subst, inl, inr, length, arith}
use Rattle.std.proofs.lemmas.Bool.{and_parts, and_from, or_cases, or_right, cases_Bool, both_ways, cond-true, cond-false, leb-true}
use Rattle.std.specs.{List.list_all, List.list_any, Prelude.is_none, Prelude.nat_le}
use Rattle.hb_lex.specs.declared.kinds.TokenKind.{TokenKind}
use Rattle.hb_lex.specs.declared.kinds.TokenKind.TheVariants as k
use Rattle.hb_grammar.specs.declared.{actions.Action.Action, symbols.Sort.Sort, symbols.Symbol.Symbol, symbols.Symbol.TheVariants.Token as T}
use Rattle.hb_grammar.specs.declared.{symbols.Symbol.TheVariants.Phrase as N, symbols.Symbol.TheVariants.Action as A, wanted.Wanted.Wanted}
use Rattle.hb_grammar.specs.declared.symbols.Sort.TheVariants as g
use Rattle.hb_grammar.specs.declared.wanted.Wanted.TheVariants as want
use Rattle.hb_grammar.specs.Grammar.{alternatives}
use Rattle.hb_grammar.specs.Sight.{among, starts, may_begin, may_be_empty, is_kind, kind_eq, front, choice, run, Missed, wanted_for}
use Rattle.hb_grammar.specs.Language.{IsOneOf, Derives, IsSentence, sign, rank, with_sign, MayFollow}
use Rattle.hb_grammar.proofs.TableLemmas.{implies, sorts}
use Rattle.hb_grammar.proofs.SightLemmas.{same_kind, kind_same, choice-derives, IsFollowed, IsFollowed-phrase, implies_then, holds_of, is_sort, may_begin-append, may_begin-more, may_begin-derives}
use Rattle.hb_grammar.proofs.ExactLemmas.{has_sentence, is_choice, left_at_most, ends_at}

abbrev pub wants : List Wanted
wants = want.End ∷ want.Then ∷ want.Do ∷ want.Close ∷ want.Expression ∷ want.Name ∷ want.TypeWord ∷ want.ClassName ∷ want.Open ∷ want.Dot ∷ want.Colon ∷ want.Arrow ∷ want.New ∷ want.Item ∷ []

is_want : (w : Wanted) → IsOneOf wants w
is_want want.End = inl refl
is_want want.Then = inr (inl refl)
is_want want.Do = inr (inr (inl refl))
is_want want.Close = inr (inr (inr (inl refl)))
is_want want.Expression = inr (inr (inr (inr (inl refl))))
is_want want.Name = inr (inr (inr (inr (inr (inl refl)))))
is_want want.TypeWord = inr (inr (inr (inr (inr (inr (inl refl))))))
is_want want.ClassName = inr (inr (inr (inr (inr (inr (inr (inl refl)))))))
is_want want.Open = inr (inr (inr (inr (inr (inr (inr (inr (inl refl))))))))
is_want want.Dot = inr (inr (inr (inr (inr (inr (inr (inr (inr (inl refl)))))))))
is_want want.Colon = inr (inr (inr (inr (inr (inr (inr (inr (inr (inr (inl refl))))))))))
is_want want.Arrow = inr (inr (inr (inr (inr (inr (inr (inr (inr (inr (inr (inl refl)))))))))))
is_want want.New = inr (inr (inr (inr (inr (inr (inr (inr (inr (inr (inr (inr (inl refl))))))))))))
is_want want.Item = inr (inr (inr (inr (inr (inr (inr (inr (inr (inr (inr (inr (inr (inl refl)))))))))))))

-- Behind each sort stands something whose rank is at most this.
abbrev pub cap : Sort → ℕ
cap g.Program = 13
cap g.Classes = 13
cap g.Scripts = 13
cap g.Block = 0
cap g.Items = 0
cap g.MoreItems = 0
cap g.Method = 10
cap g.MethodName = 10
cap _ = 3

abbrev pub is_empty : List Symbol → Bool
is_empty [] = true
is_empty (T j ∷ stack) = false
is_empty (A a ∷ stack) = is_empty stack
is_empty (N sort ∷ stack) = may_be_empty sort && is_empty stack

-- the symbols may begin with something of at most this rank
abbrev pub has_want : List Symbol → ℕ → Bool
has_want stack most = list_any (λ w. nat_le (rank w) most && may_begin stack false (sign w)) wants

abbrev pub is_capped : List Symbol → ℕ → Bool
is_capped [] most = true
is_capped (T j ∷ stack) most = is_capped stack most
is_capped (A a ∷ stack) most = is_capped stack most
is_capped (N sort ∷ stack) most = (has_want stack (cap sort) || (is_empty stack && nat_le most (cap sort))) && is_capped stack most

abbrev pub last_of : List (List Symbol) → List Symbol
last_of [] = []
last_of (p ∷ []) = p
last_of (p ∷ q ∷ more) = last_of (q ∷ more)

-- where the last alternative is taken without need, what the others may begin with has no lower rank
abbrev pub covers : Sort → Bool
covers sort = implies (may_be_empty sort) (is_empty (last_of (alternatives sort)))
    && list_all (λ w. implies (among (starts sort) (sign w)) (has_want (last_of (alternatives sort)) (rank w) || (is_empty (last_of (alternatives sort)) && nat_le (cap sort) (rank w)))) wants

abbrev pub is_wanted : Sort → Bool
is_wanted sort = covers sort && list_all (λ phrase. is_capped phrase (cap sort)) (alternatives sort)

all_wanted : list_all is_wanted sorts ≡ true
all_wanted = refl

-- what may begin with the token in sight is chosen so that it still may
abbrev pub is_taken : Option TokenKind → Sort → Bool
is_taken sight sort = implies (among (starts sort) sight) (may_begin (choice (alternatives sort) sight) false sight) && implies (may_be_empty sort) (may_begin (choice (alternatives sort) sight) true sight)

all_taken : (sight : Option TokenKind) → list_all (is_taken sight) sorts ≡ true
all_taken (Some k.KwClass) = refl
all_taken _ = refl

taken : (sort : Sort) (sight : Option TokenKind) → is_taken sight sort ≡ true
taken sort sight = holds_of (is_taken sight) sorts sort (all_taken sight) (is_sort sort)

wanted : (sort : Sort) → is_wanted sort ≡ true
wanted sort = holds_of is_wanted sorts sort all_wanted (is_sort sort)

-- ── a run does not end on a token that its symbols may begin with ──

choice_begins : (sort : Sort) (sight : Option TokenKind) (rest : Bool) → (among (starts sort) sight || (may_be_empty sort && rest)) ≡ true → may_begin (choice (alternatives sort) sight) rest sight ≡ true
choice_begins sort sight rest h = elim (or_cases (among (starts sort) sight) (may_be_empty sort && rest) h) [
  | inl e ↦ may_begin-more (choice (alternatives sort) sight) false rest sight (λ x. absurd (both_ways false refl x))
      (implies_then (among (starts sort) sight) (may_begin (choice (alternatives sort) sight) false sight)
      (and_parts (implies (among (starts sort) sight) (may_begin (choice (alternatives sort) sight) false sight))
      (implies (may_be_empty sort) (may_begin (choice (alternatives sort) sight) true sight)) (taken sort sight)).0 e)
  | inr e ↦ let p : (may_be_empty sort ≡ true) × (rest ≡ true) = and_parts (may_be_empty sort) rest e in
      may_begin-more (choice (alternatives sort) sight) true rest sight (λ x. p.1)
      (implies_then (may_be_empty sort) (may_begin (choice (alternatives sort) sight) true sight)
      (and_parts (implies (among (starts sort) sight) (may_begin (choice (alternatives sort) sight) false sight))
      (implies (may_be_empty sort) (may_begin (choice (alternatives sort) sight) true sight)) (taken sort sight)).1 p.0)
]

goes_on : (n : ℕ) (stack : List Symbol) (tokens : List TokenKind) (w : Wanted) → run n stack tokens ≡ Missed w (length tokens) → may_begin stack (is_none (front tokens)) (front tokens) ≡ true → ⊥
unfolding run
goes_on zero stack tokens w e b = absurd (cc)
goes_on (suc n) [] [] w e b = absurd (cc)
goes_on (suc n) [] (t ∷ ts) w e b = both_ways false refl b
goes_on (suc n) (T j ∷ stack) [] w e b = both_ways false refl b
goes_on (suc n) (T j ∷ stack) (t ∷ ts) w e b =
    let h : length (t ∷ ts) ≤ length ts = left_at_most n stack ts (length (t ∷ ts)) (ends_at _ w _ (sym (cond-true (kind_eq t j) (run n stack ts) (Missed (wanted_for j) (length (t ∷ ts))) b) ∙ e)) in omega arith
goes_on (suc n) (A a ∷ stack) tokens w e b = goes_on n stack tokens w e b
goes_on (suc n) (N sort ∷ stack) tokens w e b =
    goes_on n (choice (alternatives sort) (front tokens) ++ stack) tokens w e
    (may_begin-append (choice (alternatives sort) (front tokens)) stack (is_none (front tokens)) (front tokens) ∙ choice_begins sort (front tokens) (may_begin stack (is_none (front tokens)) (front tokens)) b)

-- ── no want of a lower rank may stand where a run ends ──

one_of_any : (test : Wanted → Bool) (ws : List Wanted) → list_any test ws ≡ true → (w : Wanted) × (test w ≡ true)
one_of_any test [] h = absurd (both_ways false refl h)
one_of_any test (w ∷ ws) h = elim (or_cases (test w) (list_any test ws) h) [ inl e ↦ (w, e) | inr r ↦ one_of_any test ws r ]

-- the symbols may begin with something of at most this rank
pub record Offers (stack : List Symbol) (most : ℕ) : Type 0 where
  pub want : Wanted
  pub low : rank want ≤ most
  pub begins : may_begin stack (is_none (sign want)) (sign want) ≡ true

begins_more : (a stack : List Symbol) (sight : Option TokenKind) → may_begin a false sight ≡ true → may_begin (a ++ stack) (is_none sight) sight ≡ true
begins_more a stack sight h = may_begin-append a stack (is_none sight) sight ∙ may_begin-more a false (may_begin stack (is_none sight) sight) sight (λ x. absurd (both_ways false refl x)) h

begins_behind : (a : List Symbol) (rest : Bool) (sight : Option TokenKind) → is_empty a ≡ true → rest ≡ true → may_begin a rest sight ≡ true
begins_behind [] rest sight e h = h
begins_behind (T j ∷ a) rest sight e h = absurd (both_ways false refl e)
begins_behind (A b ∷ a) rest sight e h = begins_behind a rest sight e h
begins_behind (N sort ∷ a) rest sight e h =
    let p : (may_be_empty sort ≡ true) × (is_empty a ≡ true) = and_parts (may_be_empty sort) (is_empty a) e in
    or_right (among (starts sort) sight) (may_be_empty sort && may_begin a rest sight) (and_from (may_be_empty sort) (may_begin a rest sight) p.0 (begins_behind a rest sight p.1 h))

offers_front : (a stack : List Symbol) (most : ℕ) → has_want a most ≡ true → Offers (a ++ stack) most
offers_front a stack most h =
    let r : (w : Wanted) × ((nat_le (rank w) most && may_begin a false (sign w)) ≡ true) = one_of_any (λ w. nat_le (rank w) most && may_begin a false (sign w)) wants h in
    let p : (nat_le (rank r.0) most ≡ true) × (may_begin a false (sign r.0) ≡ true) = and_parts (nat_le (rank r.0) most) (may_begin a false (sign r.0)) r.1 in
    record { want = r.0; low = leb-true (rank r.0) most p.0; begins = begins_more a stack (sign r.0) p.1 }

offers_behind : (a stack : List Symbol) (least most : ℕ) → is_empty a ≡ true → least ≤ most → Offers stack least → Offers (a ++ stack) most
offers_behind a stack least most e le o = record {
  want = o.want;
  low = let h : rank o.want ≤ least = o.low in omega arith;
  begins = may_begin-append a stack (is_none (sign o.want)) (sign o.want) ∙ begins_behind a (may_begin stack (is_none (sign o.want)) (sign o.want)) (sign o.want) e o.begins;
}

abbrev pub IsCapped : List Symbol → Type 0
IsCapped [] = Unit {0}
IsCapped (T j ∷ stack) = IsCapped stack
IsCapped (A a ∷ stack) = IsCapped stack
IsCapped (N sort ∷ stack) = Offers stack (cap sort) × IsCapped stack

IsCapped-append : (a stack : List Symbol) (most : ℕ) → is_capped a most ≡ true → Offers stack most → IsCapped stack → IsCapped (a ++ stack)
IsCapped-append [] stack most h o c = c
IsCapped-append (T j ∷ a) stack most h o c = IsCapped-append a stack most h o c
IsCapped-append (A b ∷ a) stack most h o c = IsCapped-append a stack most h o c
IsCapped-append (N sort ∷ a) stack most h o c =
    let p : ((has_want a (cap sort) || (is_empty a && nat_le most (cap sort))) ≡ true) × (is_capped a most ≡ true) = and_parts (has_want a (cap sort) || (is_empty a && nat_le most (cap sort))) (is_capped a most) h in (
      elim (or_cases (has_want a (cap sort)) (is_empty a && nat_le most (cap sort)) p.0) [
        | inl e ↦ offers_front a stack (cap sort) e
        | inr e ↦ let q : (is_empty a ≡ true) × (nat_le most (cap sort) ≡ true) = and_parts (is_empty a) (nat_le most (cap sort)) e in offers_behind a stack most (cap sort) q.0 (leb-true most (cap sort) q.1) o
      ],
      IsCapped-append a stack most p.1 o c,
    )

IsCapped-phrase : (sort : Sort) (stack phrase : List Symbol) → IsOneOf (alternatives sort) phrase → IsCapped (N sort ∷ stack) → IsCapped (phrase ++ stack)
IsCapped-phrase sort stack phrase one c = IsCapped-append phrase stack (cap sort)
    (holds_of (λ p. is_capped p (cap sort)) (alternatives sort) phrase (and_parts (covers sort) (list_all (λ p. is_capped p (cap sort)) (alternatives sort)) (wanted sort)).1 one) c.0 c.1

-- the last alternative is chosen where no other begins with the token
last_or_begins : (phrases : List (List Symbol)) (sight : Option TokenKind) → (choice phrases sight ≡ last_of phrases) ⊎ (may_begin (choice phrases sight) false sight ≡ true)
last_or_begins [] sight = inl refl
last_or_begins (p ∷ []) sight = inl refl
last_or_begins (p ∷ q ∷ more) sight = elim (cases_Bool (may_begin p false sight)) [
  | inl t ↦ inr (let P = λ (x : List Symbol). may_begin x false sight ≡ true in subst P (sym (cond-true (may_begin p false sight) p (choice (q ∷ more) sight) t)) t)
  | inr f ↦ let e : choice (p ∷ q ∷ more) sight ≡ choice (q ∷ more) sight = cond-false (may_begin p false sight) p (choice (q ∷ more) sight) f in
      elim (last_or_begins (q ∷ more) sight) [ inl h ↦ inl (e ∙ h) | inr h ↦ inr (let P = λ (x : List Symbol). may_begin x false sight ≡ true in subst P (sym e) h) ]
]

-- where the last alternative is taken, it or what stands behind it offers as little
last_offers : (sort : Sort) (stack : List Symbol) (w : Wanted) → Offers stack (cap sort) → may_begin (N sort ∷ stack) (is_none (sign w)) (sign w) ≡ true → Offers (last_of (alternatives sort) ++ stack) (rank w)
last_offers sort stack w o b =
    let last : List Symbol = last_of (alternatives sort) in
    let parts : (implies (may_be_empty sort) (is_empty (last_of (alternatives sort))) ≡ true)
    × (list_all (λ w. implies (among (starts sort) (sign w)) (has_want (last_of (alternatives sort)) (rank w) || (is_empty (last_of (alternatives sort)) && nat_le (cap sort) (rank w))))
    wants ≡ true) = and_parts _ _ (and_parts (covers sort) (list_all (λ p. is_capped p (cap sort)) (alternatives sort)) (wanted sort)).0 in
    elim (or_cases (among (starts sort) (sign w)) (may_be_empty sort && may_begin stack (is_none (sign w)) (sign w)) b) [
      | inl e ↦ elim (or_cases (has_want (last_of (alternatives sort)) (rank w)) (is_empty (last_of (alternatives sort)) && nat_le (cap sort) (rank w)) (implies_then
          (among (starts sort) (sign w)) (has_want (last_of (alternatives sort)) (rank w) || (is_empty (last_of (alternatives sort)) && nat_le (cap sort) (rank w)))
          (holds_of (λ w. implies (among (starts sort) (sign w)) (has_want (last_of (alternatives sort)) (rank w) || (is_empty (last_of (alternatives sort)) && nat_le (cap sort) (rank w)))) wants
          w parts.1 (is_want w)) e)) [
            | inl h ↦ offers_front (last_of (alternatives sort)) stack (rank w) h
            | inr h ↦ let q : (is_empty (last_of (alternatives sort)) ≡ true) × (nat_le (cap sort) (rank w) ≡ true) = and_parts _ _ h in
                offers_behind (last_of (alternatives sort)) stack (cap sort) (rank w) q.0 (leb-true (cap sort) (rank w) q.1) o
          ]
      | inr e ↦ let q : (may_be_empty sort ≡ true) × (may_begin stack (is_none (sign w)) (sign w) ≡ true) = and_parts _ _ e in
          offers_behind (last_of (alternatives sort)) stack (rank w) (rank w) (implies_then (may_be_empty sort) (is_empty (last_of (alternatives sort))) parts.0 q.0) (omega arith)
          (record { want = w; low = omega arith; begins = q.1 })
    ]

-- a missing token is named by the want that it is the sign of
want_sign : (w : Wanted) (j : TokenKind) → is_kind (sign w) j ≡ true → rank (wanted_for j) ≤ rank w
want_sign want.End j h = let P = λ (x : TokenKind). rank (wanted_for x) ≤ 0 in subst P (same_kind k.KwEnd j h) (omega (arith))
want_sign want.Then j h = let P = λ (x : TokenKind). rank (wanted_for x) ≤ 1 in subst P (same_kind k.KwThen j h) (omega (arith))
want_sign want.Do j h = let P = λ (x : TokenKind). rank (wanted_for x) ≤ 2 in subst P (same_kind k.KwDo j h) (omega (arith))
want_sign want.Close j h = let P = λ (x : TokenKind). rank (wanted_for x) ≤ 3 in subst P (same_kind k.CloseParen j h) (omega (arith))
want_sign want.Expression j h = let P = λ (x : TokenKind). rank (wanted_for x) ≤ 4 in subst P (same_kind k.Number j h) (omega (arith))
want_sign want.Name j h = let P = λ (x : TokenKind). rank (wanted_for x) ≤ 5 in subst P (same_kind k.Name j h) (omega (arith))
want_sign want.TypeWord j h = let P = λ (x : TokenKind). rank (wanted_for x) ≤ 6 in subst P (same_kind k.TyNil j h) (omega (arith))
want_sign want.ClassName j h = let P = λ (x : TokenKind). rank (wanted_for x) ≤ 7 in subst P (same_kind k.ClassName j h) (omega (arith))
want_sign want.Open j h = let P = λ (x : TokenKind). rank (wanted_for x) ≤ 8 in subst P (same_kind k.OpenParen j h) (omega (arith))
want_sign want.Dot j h = let P = λ (x : TokenKind). rank (wanted_for x) ≤ 9 in subst P (same_kind k.Dot j h) (omega (arith))
want_sign want.Colon j h = let P = λ (x : TokenKind). rank (wanted_for x) ≤ 10 in subst P (same_kind k.Colon j h) (omega (arith))
want_sign want.Arrow j h = let P = λ (x : TokenKind). rank (wanted_for x) ≤ 11 in subst P (same_kind k.Arrow j h) (omega (arith))
want_sign want.New j h = let P = λ (x : TokenKind). rank (wanted_for x) ≤ 12 in subst P (same_kind k.KwNew j h) (omega (arith))
want_sign want.Item j h = absurd (both_ways false refl h)

want_item : (w : Wanted) → is_none (sign w) ≡ true → rank want.Item ≤ rank w
want_item want.Item h = omega arith
want_item _ h = absurd (both_ways false refl h)

pub same_want : {a b : Wanted} {m n : ℕ} → Missed a m ≡ Missed b n → a ≡ b
same_want e = cc

lowest_here : (n : ℕ) (stack : List Symbol) (tokens : List TokenKind) (w : Wanted) → IsCapped stack → run n stack tokens ≡ Missed w (length tokens) → (other : Wanted)
    → may_begin stack (is_none (sign other)) (sign other) ≡ true → rank w ≤ rank other
unfolding run
lowest_here zero stack tokens w c e other b = absurd (cc)
lowest_here (suc n) [] [] w c e other b = absurd (cc)
lowest_here (suc n) [] (t ∷ ts) w c e other b = let P = λ (x : Wanted). rank x ≤ rank other in subst P (same_want e) (want_item other b)
lowest_here (suc n) (T j ∷ stack) [] w c e other b = let P = λ (x : Wanted). rank x ≤ rank other in subst P (same_want e) (want_sign other j b)
lowest_here (suc n) (T j ∷ stack) (t ∷ ts) w c e other b = elim (cases_Bool (kind_eq t j)) [
  | inl y ↦ let h : length (t ∷ ts) ≤ length ts = left_at_most n stack ts (length (t ∷ ts))
      (ends_at _ w _ (sym (cond-true (kind_eq t j) (run n stack ts) (Missed (wanted_for j) (length (t ∷ ts))) y) ∙ e)) in absurd (omega arith)
  | inr f ↦ let P = λ (x : Wanted). rank x ≤ rank other in subst P (same_want (sym (cond-false (kind_eq t j) (run n stack ts) (Missed (wanted_for j) (length (t ∷ ts))) f) ∙ e)) (want_sign other j b)
]
lowest_here (suc n) (A a ∷ stack) tokens w c e other b = lowest_here n stack tokens w c e other b
lowest_here (suc n) (N sort ∷ stack) tokens w c e other b =
    let sight : Option TokenKind = front tokens in
    let phrase : List Symbol = choice (alternatives sort) (front tokens) in
    elim (last_or_begins (alternatives sort) (front tokens)) [
      | inr t ↦ absurd (goes_on n (choice (alternatives sort) (front tokens) ++ stack) tokens w e (begins_more (choice (alternatives sort) (front tokens)) stack (front tokens) t))
      | inl l ↦
          let o : Offers (last_of (alternatives sort) ++ stack) (rank other) = last_offers sort stack other c.0 b in
          let P = λ (p : List Symbol). run n (p ++ stack) tokens ≡ Missed w (length tokens) in
          let Q = λ (p : List Symbol). IsOneOf (alternatives sort) p in
          let h : rank w ≤ rank o.want = lowest_here n (last_of (alternatives sort) ++ stack) tokens w
          (IsCapped-phrase sort stack (last_of (alternatives sort)) (subst Q l (is_choice sort tokens)) c) (subst P l e) o.want o.begins in
          let k : rank o.want ≤ rank other = o.low in omega arith
    ]

front-with_sign : (o : Option TokenKind) (more : List TokenKind) → front (with_sign o more) ≡ o
front-with_sign None more = refl
front-with_sign (Some t) more = refl

-- no want before the one that is named may stand behind the tokens that were read
pub lowest : (n : ℕ) (stack : List Symbol) (before rest : List TokenKind) (w : Wanted) → IsFollowed stack → IsCapped stack → run n stack (before ++ rest) ≡ Missed w (length rest)
    → (other : Wanted) (m : ℕ) (more : List TokenKind) → Derives m stack (before ++ with_sign (sign other) more) → rank w ≤ rank other
unfolding run
lowest n stack [] rest w f c e other m more d =
    let P = λ (o : Option TokenKind). may_begin stack (is_none o) o ≡ true in
    lowest_here n stack rest w c e other (subst P (front-with_sign (sign other) more) (may_begin-derives m stack (with_sign (sign other) more) d))
lowest zero stack (t ∷ before) rest w f c e other m more d = absurd (cc)
lowest (suc n) stack (t ∷ before) rest w f c e other zero more d = absurd d
lowest (suc n) [] (t ∷ before) rest w f c e other (suc m) more d = absurd (cc)
lowest (suc n) (T j ∷ stack) (t ∷ before) rest w f c e other (suc m) more d =
    let same : t ≡ j = cc (d.1) in
    let tail : d.0 ≡ before ++ with_sign (sign other) more = cc (d.1) in
    let y : kind_eq t j ≡ true = rw same (kind_same j) in
    let P = λ (x : List TokenKind). Derives m stack x in
    lowest n stack before rest w f c (sym (cond-true (kind_eq t j) (run n stack (before ++ rest)) (Missed (wanted_for j) (length (t ∷ (before ++ rest)))) y) ∙ e) other m more (subst P tail d.2)
lowest (suc n) (A a ∷ stack) (t ∷ before) rest w f c e other (suc m) more d = lowest n stack (t ∷ before) rest w f c e other m more d
lowest (suc n) (N sort ∷ stack) (t ∷ before) rest w f c e other (suc m) more d =
    let chosen : choice (alternatives sort) (Some t) ≡ d.0 = choice-derives m sort stack (t ∷ (before ++ with_sign (sign other) more)) d.0 f d.1 d.2 in
    let P = λ (p : List Symbol). run n (p ++ stack) (t ∷ (before ++ rest)) ≡ Missed w (length rest) in
    lowest n (d.0 ++ stack) (t ∷ before) rest w (IsFollowed-phrase sort stack d.0 d.1 f) (IsCapped-phrase sort stack d.0 d.1 c) (subst P chosen e) other m more d.2

-- ── what is named may stand there ──

-- the tokens that a run can miss are signs: others begin an alternative that is chosen for them alone
abbrev pub sign_ok : List Symbol → Bool
sign_ok [] = true
sign_ok (T j ∷ stack) = is_kind (sign (wanted_for j)) j && sign_ok stack
sign_ok (A a ∷ stack) = sign_ok stack
sign_ok (N sort ∷ stack) = sign_ok stack

abbrev pub behind_first : List Symbol → List Symbol
behind_first [] = []
behind_first (T j ∷ stack) = stack
behind_first (A a ∷ stack) = A a ∷ stack
behind_first (N sort ∷ stack) = N sort ∷ stack

abbrev pub signs_ok : List (List Symbol) → Bool
signs_ok [] = true
signs_ok (p ∷ []) = sign_ok p
signs_ok (p ∷ q ∷ more) = sign_ok (behind_first p) && signs_ok (q ∷ more)

pub all_signs : list_all (λ sort. signs_ok (alternatives sort)) sorts ≡ true
all_signs = refl

sign_ok-append : (a b : List Symbol) → sign_ok a ≡ true → sign_ok b ≡ true → sign_ok (a ++ b) ≡ true
sign_ok-append [] b h g = g
sign_ok-append (T j ∷ a) b h g = let p : (is_kind (sign (wanted_for j)) j ≡ true) × (sign_ok a ≡ true) = and_parts (is_kind (sign (wanted_for j)) j) (sign_ok a) h in
    and_from (is_kind (sign (wanted_for j)) j) (sign_ok (a ++ b)) p.0 (sign_ok-append a b p.1 g)
sign_ok-append (A x ∷ a) b h g = sign_ok-append a b h g
sign_ok-append (N sort ∷ a) b h g = sign_ok-append a b h g

-- each token of the stack is a sign, or the first is the token in sight
abbrev pub IsSigned : Option TokenKind → List Symbol → Type 0
IsSigned sight stack = (sign_ok stack ≡ true) ⊎ ((j : TokenKind) × (more : List Symbol) × (stack ≡ T j ∷ more) × (is_kind sight j ≡ true) × (sign_ok more ≡ true))

signed_phrase : (sight : Option TokenKind) (phrase stack : List Symbol) → may_begin phrase false sight ≡ true → sign_ok (behind_first phrase) ≡ true → sign_ok stack ≡ true → IsSigned sight (phrase ++ stack)
signed_phrase sight [] stack b h g = inl g
signed_phrase sight (T j ∷ phrase) stack b h g = inr (j, phrase ++ stack, refl, b, sign_ok-append phrase stack h g)
signed_phrase sight (A a ∷ phrase) stack b h g = inl (sign_ok-append (A a ∷ phrase) stack h g)
signed_phrase sight (N sort ∷ phrase) stack b h g = inl (sign_ok-append (N sort ∷ phrase) stack h g)

pub signed_choice : (phrases : List (List Symbol)) (sight : Option TokenKind) (stack : List Symbol) → signs_ok phrases ≡ true → sign_ok stack ≡ true → IsSigned sight (choice phrases sight ++ stack)
signed_choice [] sight stack h g = inl g
signed_choice (p ∷ []) sight stack h g = inl (sign_ok-append p stack h g)
signed_choice (p ∷ q ∷ more) sight stack h g =
    let parts : (sign_ok (behind_first p) ≡ true) × (signs_ok (q ∷ more) ≡ true) = and_parts (sign_ok (behind_first p)) (signs_ok (q ∷ more)) h in
    let P = λ (x : List Symbol). IsSigned sight (x ++ stack) in
    elim (cases_Bool (may_begin p false sight)) [
      | inl t ↦ subst P (sym (cond-true (may_begin p false sight) p (choice (q ∷ more) sight) t)) (signed_phrase sight p stack t parts.0 g)
      | inr f ↦ subst P (sym (cond-false (may_begin p false sight) p (choice (q ∷ more) sight) f)) (signed_choice (q ∷ more) sight stack parts.1 g)
    ]

-- the stack is signed where its first symbol is no token
sort_no_token : {sort : Sort} {stack more : List Symbol} {j : TokenKind} → N sort ∷ stack ≡ T j ∷ more → ⊥
sort_no_token e = cc

pub sign_is : (o : Option TokenKind) (j : TokenKind) → is_kind o j ≡ true → o ≡ Some j
sign_is None j h = absurd (both_ways false refl h)
sign_is (Some t) j h = ap (λ (x : TokenKind). let y : Option TokenKind = Some x in y) (same_kind t j h)

action_no_token : {a : Action} {stack more : List Symbol} {j : TokenKind} → A a ∷ stack ≡ T j ∷ more → ⊥
action_no_token e = cc

pub signed_action : (sight : Option TokenKind) (a : Action) (stack : List Symbol) → IsSigned sight (A a ∷ stack) → sign_ok stack ≡ true
signed_action sight a stack (inl h) = h
signed_action sight a stack (inr h) = absurd (action_no_token h.2)

pub signed_sort : (sight : Option TokenKind) (sort : Sort) (stack : List Symbol) → IsSigned sight (N sort ∷ stack) → sign_ok stack ≡ true
signed_sort sight sort stack (inl h) = h
signed_sort sight sort stack (inr h) = absurd (sort_no_token h.2)

pub record Follows (stack : List Symbol) (tokens : List TokenKind) (w : Wanted) (left : ℕ) : Type 0 where
  pub before : List TokenKind
  pub rest : List TokenKind
  pub cut : tokens ≡ before ++ rest
  pub here : length rest ≡ left
  pub may : MayFollow stack before w

-- a stack whose first symbol is a sign
follows_at_once : (j : TokenKind) (stack : List Symbol) (tokens : List TokenKind) (w : Wanted) → w ≡ wanted_for j → is_kind (sign (wanted_for j)) j ≡ true → Follows (T j ∷ stack) tokens w (length tokens)
follows_at_once j stack tokens w e h =
    let whole : (more : List TokenKind) × IsSentence stack more = has_sentence stack in
    let o : sign w ≡ Some j = ap sign e ∙ sign_is (sign (wanted_for j)) j h in
    let P = λ (x : Option TokenKind). IsSentence (T j ∷ stack) (with_sign x whole.0) in
    record { before = []; rest = tokens; cut = refl; here = refl; may = (whole.0, subst P (sym o) (suc whole.1.0, (whole.0, refl, whole.1.1))) }

pub signed_tail : (t j : TokenKind) (stack : List Symbol) → IsSigned (Some t) (T j ∷ stack) → sign_ok stack ≡ true
signed_tail t j stack (inl h) = (and_parts (is_kind (sign (wanted_for j)) j) (sign_ok stack) h).1
signed_tail t j stack (inr h) = let e : stack ≡ h.1 = cc (h.2) in ap sign_ok e ∙ h.4

pub signed_first : (sight : Option TokenKind) (j : TokenKind) (stack : List Symbol) → IsSigned sight (T j ∷ stack) → is_kind sight j ≡ false → is_kind (sign (wanted_for j)) j ≡ true
signed_first sight j stack (inl h) f = (and_parts (is_kind (sign (wanted_for j)) j) (sign_ok stack) h).0
signed_first sight j stack (inr h) f = let e : j ≡ h.0 = cc (h.2) in absurd (both_ways (is_kind sight h.0) (ap (λ (x : TokenKind). is_kind sight x) (sym e) ∙ f) h.3)

pub follows-run : (n : ℕ) (stack : List Symbol) (tokens : List TokenKind) (w : Wanted) (left : ℕ) → IsSigned (front tokens) stack → run n stack tokens ≡ Missed w left → Follows stack tokens w left
unfolding run
follows-run zero stack tokens w left g e = absurd (cc)
follows-run (suc n) [] [] w left g e = absurd (cc)
follows-run (suc n) [] (t ∷ ts) w left g e =
    let P = λ (x : Wanted). Follows [] (t ∷ ts) x left in
    let h : length (t ∷ ts) ≡ left = cc e in
    subst P (same_want e) (record { before = []; rest = t ∷ ts; cut = refl; here = h; may = ([], (1, refl)) })
follows-run (suc n) (T j ∷ stack) [] w left g e =
    let P = λ (x : ℕ). Follows (T j ∷ stack) [] w x in
    let h : 0 ≡ left = cc e in
    subst P h (follows_at_once j stack [] w (sym (same_want e)) (signed_first None j stack g refl))
follows-run (suc n) (T j ∷ stack) (t ∷ ts) w left g e = elim (cases_Bool (kind_eq t j)) [
  | inl y ↦ let r : Follows stack ts w left = follows-run n stack ts w left (inl (signed_tail t j stack g)) (sym (cond-true (kind_eq t j) (run n stack ts) (Missed (wanted_for j) (length (t ∷ ts))) y) ∙ e) in
      record {
        before = t ∷ r.before;
        rest = r.rest;
        cut = ap (λ x. t ∷ x) r.cut;
        here = r.here;
        may = (r.may.0, (suc r.may.1.0, (r.before ++ with_sign (sign w) r.may.0, ap (λ x. x ∷ (r.before ++ with_sign (sign w) r.may.0)) (same_kind t j y), r.may.1.1)));
      }
  | inr f ↦ let z : Missed (wanted_for j) (length (t ∷ ts)) ≡ Missed w left = sym (cond-false (kind_eq t j) (run n stack ts) (Missed (wanted_for j) (length (t ∷ ts))) f) ∙ e in
      let P = λ (x : ℕ). Follows (T j ∷ stack) (t ∷ ts) w x in
      let h : length (t ∷ ts) ≡ left = cc z in
      subst P h (follows_at_once j stack (t ∷ ts) w (sym (same_want z)) (signed_first (Some t) j stack g f))
]
follows-run (suc n) (A a ∷ stack) tokens w left g e =
    let r : Follows stack tokens w left = follows-run n stack tokens w left (inl (signed_action (front tokens) a stack g)) e in
    record { before = r.before; rest = r.rest; cut = r.cut; here = r.here; may = (r.may.0, (suc r.may.1.0, r.may.1.1)) }
follows-run (suc n) (N sort ∷ stack) tokens w left g e =
    let phrase : List Symbol = choice (alternatives sort) (front tokens) in
    let ok : signs_ok (alternatives sort) ≡ true = holds_of (λ (x : Sort). signs_ok (alternatives x)) sorts sort all_signs (is_sort sort) in
    let r : Follows (phrase ++ stack) tokens w left = follows-run n (choice (alternatives sort) (front tokens) ++ stack) tokens w left
    (signed_choice (alternatives sort) (front tokens) stack ok (signed_sort (front tokens) sort stack g)) e in
    record { before = r.before; rest = r.rest; cut = r.cut; here = r.here; may = (r.may.0, (suc r.may.1.0, (phrase, is_choice sort tokens, r.may.1.1))) }
