-- In each text an action that makes a token a node's own stands behind a token that is no node's own yet, and one setup ends at most.
use Rattle.std.proofs.Common.{◌≡◌, inl, inr, ℕ, ◌+◌, ◌≤◌, List, [], ◌∷◌, ◌++◌, Bool, true, false, ◌&&◌, nat_le, cond, refl, sym, subst, arith}
use Rattle.std.proofs.lemmas.Bool.{false≢true, and_parts, leb-true}
use Rattle.hb_grammar.specs.{Grammar.alternatives, Language.IsOneOf}
use Rattle.hb_grammar.specs.declared.{actions.Action.Action, symbols.Sort.Sort, symbols.Symbol.Symbol, symbols.Symbol.TheVariants.Token as T}
use Rattle.hb_grammar.specs.declared.{symbols.Symbol.TheVariants.Phrase as N, symbols.Symbol.TheVariants.Action as A}
use Rattle.hb_grammar.specs.declared.actions.Action.TheVariants as a
use Rattle.hb_grammar.specs.declared.symbols.Sort.TheVariants as g

-- the token just read becomes the own token of a node that is no block
abbrev pub uses : Action → Bool
uses a.OpenWord = true
uses a.OpenAssign = true
uses a.HoldOperator = true
uses a.HoldStr = true
uses a.HoldDeclare = true
uses a.HoldName = true
uses a.HoldCall = true
uses a.HoldClass = true
uses a.PutNil = true
uses (a.PutBoolean b) = true
uses a.PutSelf = true
uses a.PutNumber = true
uses a.PutText = true
uses _ = false

-- each of the symbols uses a token that is free, where the one just read is so or not
abbrev pub spares : List Symbol → Bool → Bool
spares [] free = true
spares (T j ∷ stack) free = spares stack true
spares (N sort ∷ stack) free = spares stack false
spares (A done ∷ stack) free = cond (uses done) (free && spares stack false) (spares stack free)

-- how many setups end here at most
abbrev pub setups_of : Symbol → ℕ
setups_of (N g.Program) = 1
setups_of (N g.Classes) = 1
setups_of (A a.EndSetup) = 1
setups_of _ = 0

abbrev pub setups : List Symbol → ℕ
setups [] = 0
setups (s ∷ stack) = setups_of s + setups stack

-- ── the table ──

abbrev is_good : Sort → List Symbol → Bool
is_good sort phrase = spares phrase false && nat_le (setups phrase) (setups_of (N sort))

abbrev are_good : Sort → List (List Symbol) → Bool
are_good sort [] = true
are_good sort (phrase ∷ more) = is_good sort phrase && are_good sort more

table : (sort : Sort) → are_good sort (alternatives sort) ≡ true
table g.Program = refl
table _ = refl

one-good : (sort : Sort) (phrases : List (List Symbol)) → are_good sort phrases ≡ true → (phrase : List Symbol) → IsOneOf phrases phrase → is_good sort phrase ≡ true
one-good sort [] h phrase one = absurd one
one-good sort (first ∷ more) h phrase (inl e) = subst (λ x. is_good sort x ≡ true) (sym e) (and_parts (is_good sort first) (are_good sort more) h).0
one-good sort (first ∷ more) h phrase (inr one) = one-good sort more (and_parts (is_good sort first) (are_good sort more) h).1 phrase one

-- ── a free token ──

-- what holds at an action does with more known of what is behind it
at-action : (used free free' x x' y y' : Bool) → (free ≡ true → free' ≡ true) → (x ≡ true → x' ≡ true) → (y ≡ true → y' ≡ true)
    → cond used (free && x) y ≡ true → cond used (free' && x') y' ≡ true
at-action false free free' x x' y y' m f g h = g h
at-action true true free' x x' y y' m f g h = with-free free' (m refl)
  where
    with-free : (b : Bool) → b ≡ true → (b && x') ≡ true
    with-free true e = f h
    with-free false e = absurd (false≢true e)
at-action true false free' x x' y y' m f g h = absurd (false≢true h)

spares-join : (phrase stack : List Symbol) (free free' : Bool) → (free ≡ true → free' ≡ true) → spares phrase free ≡ true
    → ((more : Bool) → spares stack more ≡ true) → spares (phrase ++ stack) free' ≡ true
spares-join [] stack free free' m h after = after free'
spares-join (T j ∷ phrase) stack free free' m h after = spares-join phrase stack true true (λ e. e) h after
spares-join (N sort ∷ phrase) stack free free' m h after = spares-join phrase stack false false (λ e. e) h after
spares-join (A done ∷ phrase) stack free free' m h after =
    at-action (uses done) free free' (spares phrase false) (spares (phrase ++ stack) false) (spares phrase free) (spares (phrase ++ stack) free') m
    (λ e. spares-join phrase stack false false (λ e. e) e after) (λ e. spares-join phrase stack free free' m e after) h

-- a token that is free does no harm
spares-more : (stack : List Symbol) → spares stack false ≡ true → (free : Bool) → spares stack free ≡ true
spares-more [] h free = refl
spares-more (T j ∷ stack) h free = h
spares-more (N sort ∷ stack) h free = h
spares-more (A done ∷ stack) h free =
    at-action (uses done) false free (spares stack false) (spares stack false) (spares stack false) (spares stack free) (λ e. absurd (false≢true e)) (λ e. e) (λ e. spares-more stack e free) h

pub spares-phrase : (sort : Sort) (phrase stack : List Symbol) (free : Bool) → IsOneOf (alternatives sort) phrase → spares (N sort ∷ stack) free ≡ true → spares (phrase ++ stack) free ≡ true
spares-phrase sort phrase stack free one h =
    spares-join phrase stack false free (λ e. absurd (false≢true e)) (and_parts (spares phrase false) _ (one-good sort (alternatives sort) (table sort) phrase one)).0 (spares-more stack h)

-- the token just read is free where an action uses it
pub spares-used : (used free : Bool) (x y : Bool) → cond used (free && x) y ≡ true → used ≡ true → (free ≡ true) × (x ≡ true)
spares-used true free x y h e = and_parts free x h
spares-used false free x y h e = absurd (false≢true e)

pub spares-unused : (used free : Bool) (x y : Bool) → cond used (free && x) y ≡ true → used ≡ false → y ≡ true
spares-unused true free x y h e = absurd (false≢true (sym e))
spares-unused false free x y h e = h

-- ── setups ──

setups-append : (phrase stack : List Symbol) → setups (phrase ++ stack) ≡ setups phrase + setups stack
setups-append [] stack = omega arith
setups-append (s ∷ phrase) stack = let h : setups (phrase ++ stack) ≡ setups phrase + setups stack = setups-append phrase stack in omega (arith, h)

pub setups-phrase : (sort : Sort) (phrase stack : List Symbol) → IsOneOf (alternatives sort) phrase → setups (phrase ++ stack) ≤ setups (N sort ∷ stack)
setups-phrase sort phrase stack one =
    let few : setups phrase ≤ setups_of (N sort) = leb-true (setups phrase) (setups_of (N sort)) (and_parts (spares phrase false) _ (one-good sort (alternatives sort) (table sort) phrase one)).1 in
    omega (arith, few, setups-append phrase stack)
