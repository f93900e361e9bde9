-- What one token of sight tells of a derivation.
use Rattle.std.proofs.Common.{◌≡◌, ℕ, suc, zero, List, [], ◌∷◌, ◌++◌, Bool, true, false, not, ◌&&◌, ◌||◌, Option, refl, sym, ◌∙◌, ap, subst, inl, inr, get_or}
use Rattle.std.proofs.lemmas.Bool.{and_parts, and_from, not-true, eqb-true, eq-eqb, or_cases, or_left, or_right, cases_Bool, both_ways, cond-true, cond-false}
use Rattle.std.specs.{List.list_all, Prelude.is_none}
use Rattle.hb_lex.specs.declared.kinds.TokenKind.{TokenKind}
use Rattle.hb_lex.specs.declared.kinds.TokenKind.TheVariants as k
use Rattle.hb_grammar.specs.{Grammar.alternatives, Language.IsOneOf, Language.Derives}
use Rattle.hb_grammar.specs.declared.{symbols.Sort.Sort, symbols.Symbol.Symbol, symbols.Symbol.TheVariants.Token as T, symbols.Symbol.TheVariants.Phrase as N}
use Rattle.hb_grammar.specs.declared.{symbols.Symbol.TheVariants.Action as A}
use Rattle.hb_grammar.specs.declared.symbols.Sort.TheVariants as g
use Rattle.hb_grammar.specs.Sight.{among, starts, may_begin, may_be_empty, kind_eq, code, front, choice}
use Rattle.hb_grammar.proofs.TableLemmas.{may_follow, implies, is_start, is_clear, none_begins, is_followed, is_right, sorts, all_right}

-- ── tests ──

pub implies_then : (a b : Bool) → implies a b ≡ true → a ≡ true → b ≡ true
implies_then true b h e = h
implies_then false b h e = absurd (both_ways false refl e)

pub holds_of : {X : Type 0} (test : X → Bool) (xs : List X) (x : X) → list_all test xs ≡ true → IsOneOf xs x → test x ≡ true
holds_of test [] x h one = elim one [ ]
holds_of {X = X} test (y ∷ ys) x h (inl e) = let P = λ (z : X). test z ≡ true in subst P (sym e) (and_parts (test y) (list_all test ys) h).0
holds_of test (y ∷ ys) x h (inr r) = holds_of test ys x (and_parts (test y) (list_all test ys) h).1 r

pub is_sort : (sort : Sort) → IsOneOf sorts sort
is_sort g.Program = inl refl
is_sort g.Classes = inr (inl refl)
is_sort g.Scripts = inr (inr (inl refl))
is_sort g.Block = inr (inr (inr (inl refl)))
is_sort g.Items = inr (inr (inr (inr (inl refl))))
is_sort g.MoreItems = inr (inr (inr (inr (inr (inl refl)))))
is_sort g.Expression = inr (inr (inr (inr (inr (inr (inl refl))))))
is_sort g.AfterName = inr (inr (inr (inr (inr (inr (inr (inl refl)))))))
is_sort g.OtherUnary = inr (inr (inr (inr (inr (inr (inr (inr (inl refl))))))))
is_sort g.Method = inr (inr (inr (inr (inr (inr (inr (inr (inr (inl refl)))))))))
is_sort g.MethodName = inr (inr (inr (inr (inr (inr (inr (inr (inr (inr (inl refl))))))))))
is_sort g.Signature = inr (inr (inr (inr (inr (inr (inr (inr (inr (inr (inr (inl refl)))))))))))
is_sort g.Types = inr (inr (inr (inr (inr (inr (inr (inr (inr (inr (inr (inr (inl refl))))))))))))
is_sort g.MoreTypes = inr (inr (inr (inr (inr (inr (inr (inr (inr (inr (inr (inr (inr (inl refl)))))))))))))
is_sort g.TypeWord = inr (inr (inr (inr (inr (inr (inr (inr (inr (inr (inr (inr (inr (inr (inl refl))))))))))))))
is_sort g.MoreComparison = inr (inr (inr (inr (inr (inr (inr (inr (inr (inr (inr (inr (inr (inr (inr (inl refl)))))))))))))))
is_sort g.Sum = inr (inr (inr (inr (inr (inr (inr (inr (inr (inr (inr (inr (inr (inr (inr (inr (inl refl))))))))))))))))
is_sort g.MoreSum = inr (inr (inr (inr (inr (inr (inr (inr (inr (inr (inr (inr (inr (inr (inr (inr (inr (inl refl)))))))))))))))))
is_sort g.Product = inr (inr (inr (inr (inr (inr (inr (inr (inr (inr (inr (inr (inr (inr (inr (inr (inr (inr (inl refl))))))))))))))))))
is_sort g.MoreProduct = inr (inr (inr (inr (inr (inr (inr (inr (inr (inr (inr (inr (inr (inr (inr (inr (inr (inr (inr (inl refl)))))))))))))))))))
is_sort g.Unary = inr (inr (inr (inr (inr (inr (inr (inr (inr (inr (inr (inr (inr (inr (inr (inr (inr (inr (inr (inr (inl refl))))))))))))))))))))
is_sort g.Postfix = inr (inr (inr (inr (inr (inr (inr (inr (inr (inr (inr (inr (inr (inr (inr (inr (inr (inr (inr (inr (inr (inl refl)))))))))))))))))))))
is_sort g.MorePostfix = inr (inr (inr (inr (inr (inr (inr (inr (inr (inr (inr (inr (inr (inr (inr (inr (inr (inr (inr (inr (inr (inr (inl refl))))))))))))))))))))))
is_sort g.Arguments = inr (inr (inr (inr (inr (inr (inr (inr (inr (inr (inr (inr (inr (inr (inr (inr (inr (inr (inr (inr (inr (inr (inr (inl refl)))))))))))))))))))))))
is_sort g.ArgumentList = inr (inr (inr (inr (inr (inr (inr (inr (inr (inr (inr (inr (inr (inr (inr (inr (inr (inr (inr (inr (inr (inr (inr (inr (inl refl))))))))))))))))))))))))
is_sort g.MoreArguments = inr (inr (inr (inr (inr (inr (inr (inr (inr (inr (inr (inr (inr (inr (inr (inr (inr (inr (inr (inr (inr (inr (inr (inr (inr (inl refl)))))))))))))))))))))))))
is_sort g.Primary = inr (inr (inr (inr (inr (inr (inr (inr (inr (inr (inr (inr (inr (inr (inr (inr (inr (inr (inr (inr (inr (inr (inr (inr (inr (inr (inl refl))))))))))))))))))))))))))
is_sort g.Value = inr (inr (inr (inr (inr (inr (inr (inr (inr (inr (inr (inr (inr (inr (inr (inr (inr (inr (inr (inr (inr (inr (inr (inr (inr (inr (inr (inl refl)))))))))))))))))))))))))))
is_sort g.ElsePart = inr (inr (inr (inr (inr (inr (inr (inr (inr (inr (inr (inr (inr (inr (inr (inr (inr (inr (inr (inr (inr (inr (inr (inr (inr (inr (inr (inr (inl refl))))))))))))))))))))))))))))
is_sort g.Parameters = inr (inr (inr (inr (inr (inr (inr (inr (inr (inr (inr (inr (inr (inr (inr (inr (inr (inr (inr (inr (inr (inr (inr (inr (inr (inr (inr (inr (inr (inl refl)))))))))))))))))))))))))))))
is_sort g.MoreParameters = inr (inr (inr (inr (inr (inr (inr (inr (inr (inr (inr (inr (inr (inr (inr (inr (inr (inr (inr (inr (inr (inr (inr (inr (inr (inr (inr (inr (inr (inr (inl refl))))))))))))))))))))))))))))))

pub right : (sort : Sort) (sight : Option TokenKind) → is_right sight sort ≡ true
right sort sight = holds_of (is_right sight) sorts sort (all_right sight) (is_sort sort)

start : (sort : Sort) (sight : Option TokenKind) (phrase : List Symbol) → IsOneOf (alternatives sort) phrase → is_start sort sight phrase ≡ true
start sort sight phrase one = holds_of (is_start sort sight) (alternatives sort) phrase (and_parts _ _ (and_parts _ _ (right sort sight)).0).0 one

clear : (sort : Sort) (sight : Option TokenKind) → is_clear (alternatives sort) (may_follow sort sight) sight ≡ true
clear sort sight = (and_parts _ _ (and_parts _ _ (right sort sight)).0).1

followed : (sort : Sort) (sight : Option TokenKind) (phrase : List Symbol) → IsOneOf (alternatives sort) phrase → is_followed phrase (may_follow sort sight) sight ≡ true
followed sort sight phrase one = holds_of (λ p. is_followed p (may_follow sort sight) sight) (alternatives sort) phrase (and_parts _ _ (right sort sight)).1 one

kinds : List TokenKind
kinds = k.KwClass ∷ k.KwSetup ∷ k.KwScript ∷ k.KwType ∷ k.KwTypeAsk ∷ k.KwDef ∷ k.KwEnd ∷ k.KwIf ∷ k.KwThen ∷ k.KwElse ∷ k.KwWhile ∷ k.KwDo ∷ k.KwNil ∷ k.KwTrue ∷ k.KwFalse ∷ k.KwSelf ∷ k.KwNew ∷
    k.KwNot ∷ k.KwPrint ∷ k.KwStr ∷ k.TyNil ∷ k.TyBool ∷ k.TyInt ∷ k.TyStr ∷ k.TyAny ∷ k.OpenParen ∷ k.CloseParen ∷ k.Comma ∷ k.Colon ∷ k.Dot ∷ k.Assign ∷ k.Equals ∷ k.Less ∷ k.Plus ∷ k.Minus ∷
    k.Times ∷ k.Concat ∷ k.Arrow ∷ k.Name ∷ k.ClassName ∷ k.Number ∷ k.Text ∷ k.Separator ∷ []

decode : ℕ → TokenKind
decode n = get_or kinds n k.Name

decode-code : (j : TokenKind) → decode (code j) ≡ j
unfolding decode kinds
decode-code k.KwClass = refl
decode-code _ = refl

pub same_kind : (a b : TokenKind) → kind_eq a b ≡ true → a ≡ b
same_kind a b e = sym (decode-code a) ∙ ap decode (eqb-true (code a) (code b) e) ∙ decode-code b

pub kind_same : (a : TokenKind) → kind_eq a a ≡ true
kind_same a = eq-eqb (code a) (code a) refl

-- ── what symbols may begin with ──

pub may_begin-append : (a b : List Symbol) (rest : Bool) (sight : Option TokenKind) → may_begin (a ++ b) rest sight ≡ may_begin a (may_begin b rest sight) sight
may_begin-append [] b rest sight = refl
may_begin-append (T j ∷ a) b rest sight = refl
may_begin-append (A x ∷ a) b rest sight = may_begin-append a b rest sight
may_begin-append (N sort ∷ a) b rest sight = ap (λ x. among (starts sort) sight || (may_be_empty sort && x)) (may_begin-append a b rest sight)

pub may_begin-more : (a : List Symbol) (x y : Bool) (sight : Option TokenKind) → (x ≡ true → y ≡ true) → may_begin a x sight ≡ true → may_begin a y sight ≡ true
may_begin-more [] x y sight f h = f h
may_begin-more (T j ∷ a) x y sight f h = h
may_begin-more (A b ∷ a) x y sight f h = may_begin-more a x y sight f h
may_begin-more (N sort ∷ a) x y sight f h =
    elim (or_cases (among (starts sort) sight) (may_be_empty sort && may_begin a x sight) h) [
      | inl e ↦ or_left _ _ e
      | inr e ↦ let p : (may_be_empty sort ≡ true) × (may_begin a x sight ≡ true) = and_parts _ _ e in
          or_right _ _ (and_from _ _ p.0 (may_begin-more a x y sight f p.1))
    ]

sort_begins_true : (m0 m1 a e : Bool) → (implies m0 a && implies m1 (a || e)) ≡ true → m1 ≡ true → (a || (e && true)) ≡ true
sort_begins_true m0 m1 a e h b = elim (or_cases a e (implies_then m1 (a || e) (and_parts (implies m0 a) (implies m1 (a || e)) h).1 b))
    [ inl p ↦ or_left a (e && true) p | inr p ↦ or_right a (e && true) (and_from e true p refl) ]

sort_begins_false : (m0 m1 a e : Bool) → (implies m0 a && implies m1 (a || e)) ≡ true → m0 ≡ true → (a || (e && false)) ≡ true
sort_begins_false m0 m1 a e h b = or_left a (e && false) (implies_then m0 a (and_parts (implies m0 a) (implies m1 (a || e)) h).0 b)

sort_begins : (sort : Sort) (sight : Option TokenKind) (phrase : List Symbol) (rest : Bool) → is_start sort sight phrase ≡ true → may_begin phrase rest sight ≡ true
    → (among (starts sort) sight || (may_be_empty sort && rest)) ≡ true
sort_begins sort sight phrase true s h = sort_begins_true (may_begin phrase false sight) (may_begin phrase true sight) (among (starts sort) sight) (may_be_empty sort) s h
sort_begins sort sight phrase false s h = sort_begins_false (may_begin phrase false sight) (may_begin phrase true sight) (among (starts sort) sight) (may_be_empty sort) s h

-- a sentence begins as its symbols may
pub may_begin-derives : (n : ℕ) (stack : List Symbol) (tokens : List TokenKind) → Derives n stack tokens → may_begin stack (is_none (front tokens)) (front tokens) ≡ true
may_begin-derives zero stack tokens d = elim d [ ]
may_begin-derives (suc n) [] tokens d = rw d refl
may_begin-derives (suc n) (T j ∷ stack) tokens d = rw d.1 (kind_same j)
may_begin-derives (suc n) (A a ∷ stack) tokens d = may_begin-derives n stack tokens d
may_begin-derives (suc n) (N sort ∷ stack) tokens d =
    let sight : Option TokenKind = front tokens in
    let end : Bool = is_none (front tokens) in
    let phrase : List Symbol = d.0 in
    let here : may_begin (phrase ++ stack) end sight ≡ true = may_begin-derives n (phrase ++ stack) tokens d.2 in
    let there : may_begin phrase (may_begin stack end sight) sight ≡ true = sym (may_begin-append phrase stack end sight) ∙ here in
    sort_begins sort sight phrase (may_begin stack end sight) (start sort sight phrase d.1) there

-- ── the choice ──

none_of : (phrases : List (List Symbol)) (follow : Bool) (sight : Option TokenKind) (phrase : List Symbol) → none_begins phrases follow sight ≡ true → IsOneOf phrases phrase → may_begin phrase follow sight ≡ true → ⊥
none_of [] follow sight phrase h one b = elim one [ ]
none_of (p ∷ more) follow sight phrase h (inl e) b = let P = λ (z : List Symbol). may_begin z follow sight ≡ true in both_ways (may_begin p follow sight) (not-true _ (and_parts _ _ h).0) (subst P e b)
none_of (p ∷ more) follow sight phrase h (inr r) b = none_of more follow sight phrase (and_parts _ _ h).1 r b

-- the alternative that may stand before the token is the one that is chosen
chosen : (phrases : List (List Symbol)) (follow : Bool) (sight : Option TokenKind) (phrase : List Symbol) → is_clear phrases follow sight ≡ true → IsOneOf phrases phrase
    → may_begin phrase follow sight ≡ true → choice phrases sight ≡ phrase
chosen [] follow sight phrase h one b = elim one [ ]
chosen (p ∷ []) follow sight phrase h (inl e) b = sym e
chosen (p ∷ []) follow sight phrase h (inr r) b = elim r [ ]
chosen (p ∷ q ∷ more) follow sight phrase h one b = elim (cases_Bool (may_begin p false sight)) [
  | inl t ↦
      let none : none_begins (q ∷ more) follow sight ≡ true = sym (cond-true (may_begin p false sight) (none_begins (q ∷ more) follow sight) (not (may_begin p follow sight) && is_clear (q ∷ more) follow sight) t) ∙ h in
      cond-true (may_begin p false sight) p (choice (q ∷ more) sight) t ∙ elim one [ inl e ↦ sym e | inr r ↦ absurd (none_of (q ∷ more) follow sight phrase none r b) ]
  | inr f ↦
      let both : (not (may_begin p follow sight) && is_clear (q ∷ more) follow sight) ≡ true = sym
      (cond-false (may_begin p false sight) (none_begins (q ∷ more) follow sight) (not (may_begin p follow sight) && is_clear (q ∷ more) follow sight) f) ∙ h in
      let parts : (not (may_begin p follow sight) ≡ true) × (is_clear (q ∷ more) follow sight ≡ true) = and_parts _ _ both in
      cond-false (may_begin p false sight) p (choice (q ∷ more) sight) f ∙ elim one [
        | inl e ↦ let P = λ (z : List Symbol). may_begin z follow sight ≡ true in absurd (both_ways (may_begin p follow sight) (not-true _ parts.0) (subst P e b))
        | inr r ↦ chosen (q ∷ more) follow sight phrase parts.1 r b
      ]
]

pub choice_is : (phrases : List (List Symbol)) (sight : Option TokenKind) (p : List Symbol) (more : List (List Symbol)) → phrases ≡ p ∷ more → IsOneOf phrases (choice phrases sight)
choice_is [] sight p more e = absurd (cc)
choice_is (q ∷ []) sight p more e = inl refl
choice_is (q ∷ r ∷ rest) sight p more e = elim (cases_Bool (may_begin q false sight)) [
  | inl t ↦ inl (cond-true _ _ _ t)
  | inr f ↦ inr (let P = λ (z : List Symbol). IsOneOf (r ∷ rest) z in subst P (sym (cond-false _ _ _ f)) (choice_is (r ∷ rest) sight r rest refl))
]

-- ── symbols each followed only by what may follow it ──

abbrev pub IsFollowed : List Symbol → Type 0
IsFollowed [] = Unit {0}
IsFollowed (T j ∷ stack) = IsFollowed stack
IsFollowed (A a ∷ stack) = IsFollowed stack
IsFollowed (N sort ∷ stack) = ((sight : Option TokenKind) → may_begin stack (is_none sight) sight ≡ true → may_follow sort sight ≡ true) × IsFollowed stack

pub IsFollowed-append : (a stack : List Symbol) (follow : Option TokenKind → Bool) → ((sight : Option TokenKind) → may_begin stack (is_none sight) sight ≡ true → follow sight ≡ true)
    → ((sight : Option TokenKind) → is_followed a (follow sight) sight ≡ true) → IsFollowed stack → IsFollowed (a ++ stack)
IsFollowed-append [] stack follow f g h = h
IsFollowed-append (T j ∷ a) stack follow f g h = IsFollowed-append a stack follow f g h
IsFollowed-append (A b ∷ a) stack follow f g h = IsFollowed-append a stack follow f g h
IsFollowed-append (N sort ∷ a) stack follow f g h = (
  (λ sight b. implies_then _ _ (and_parts _ _ (g sight)).0 (may_begin-more a _ _ sight (f sight) (sym (may_begin-append a stack (is_none sight) sight) ∙ b))),
  IsFollowed-append a stack follow f (λ sight. (and_parts _ _ (g sight)).1) h,
)

pub IsFollowed-phrase : (sort : Sort) (stack phrase : List Symbol) → IsOneOf (alternatives sort) phrase → IsFollowed (N sort ∷ stack) → IsFollowed (phrase ++ stack)
IsFollowed-phrase sort stack phrase one h = IsFollowed-append phrase stack (may_follow sort) h.0 (λ sight. followed sort sight phrase one) h.1

-- what derives the tokens behind a sort is what one token of sight chooses
pub choice-derives : (n : ℕ) (sort : Sort) (stack : List Symbol) (tokens : List TokenKind) (phrase : List Symbol) → IsFollowed (N sort ∷ stack) → IsOneOf (alternatives sort) phrase
    → Derives n (phrase ++ stack) tokens → choice (alternatives sort) (front tokens) ≡ phrase
choice-derives n sort stack tokens phrase h one d =
    let sight : Option TokenKind = front tokens in
    let begins : may_begin phrase (may_begin stack (is_none sight) sight) sight ≡ true = sym (may_begin-append phrase stack (is_none sight) sight) ∙ may_begin-derives n (phrase ++ stack) tokens d in
    chosen (alternatives sort) (may_follow sort sight) sight phrase (clear sort sight) one (may_begin-more phrase _ _ sight (h.0 sight) begins)
