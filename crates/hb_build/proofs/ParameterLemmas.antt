-- The parameters on top of what is not yet used, and the types of parameters there.
use Rattle.std.proofs.Common.{◌≡◌, ℕ, suc, zero, ◌+◌, ◌-◌, ◌<◌, ◌≤◌, List, [], ◌∷◌, ◌++◌, length, drop, reverse, get_or, refl, sym, ◌∙◌, ap, take, arith, add-one, length-append, drop-cons}
use Rattle.std.proofs.lemmas.List.{get_or-reverse, length-reverse, get_or-take, get_or-drop, length-take, length-drop}
use Rattle.hb_types.specs.declared.{ids.NameId.NameId, types.Ty.Ty}
use Rattle.hb_build.specs.declared.held.Held.{Held}
use Rattle.hb_build.specs.declared.held.Held.TheVariants as held
use Rattle.hb_build.specs.Sound.{parameters_of, parameter_types_of}

-- what lies on top once the last k are taken off
pub next-thing : (things : List Held) (k : ℕ) (d : Held) → k < length things
    → drop k (reverse things) ≡ get_or things (length things - 1 - k) d ∷ drop (k + 1) (reverse things)
next-thing things k d lt =
    let short : k < length (reverse things) = rw length-reverse lt in
    let e = drop-cons (reverse things) k d short in
    let f = get_or-reverse things k d lt in
    rw (add-one, e, f)

-- ── parameters ──

pub one-parameter-more : (things : List Held) (k : ℕ) (d : Held) (x : NameId) → k < length things
    → get_or things (length things - 1 - k) d ≡ held.Parameter x
    → parameters_of (drop k (reverse things)) ≡ parameters_of (drop (k + 1) (reverse things)) ++ x.0 ∷ []
one-parameter-more things k d x lt is = let e = next-thing things k d lt in rw (e, is)

parameters-stop : (t : Held) (things : List Held) → ((x : NameId) → t ≡ held.Parameter x → ⊥) → parameters_of (t ∷ things) ≡ []
parameters-stop (held.Parameter x) things differs = absurd (differs x refl)
parameters-stop _ things differs = refl

pub no-parameter-more : (things : List Held) (k : ℕ) (d : Held) → k < length things
    → ((x : NameId) → get_or things (length things - 1 - k) d ≡ held.Parameter x → ⊥)
    → parameters_of (drop k (reverse things)) ≡ []
no-parameter-more things k d lt differs =
    let e = next-thing things k d lt in
    rw e (parameters-stop (get_or things (length things - 1 - k) d) (drop (k + 1) (reverse things)) differs)

-- each of so many things is a parameter
pub parameter-at : (things : List Held) (k : ℕ) → k < length (parameters_of things)
    → (x : NameId) × (drop k things ≡ held.Parameter x ∷ drop (suc k) things)
parameter-at (held.Parameter x ∷ things) zero lt = (x, refl)
parameter-at (held.Parameter x ∷ things) (suc k) lt = parameter-at things k (omega (arith, length-append (parameters_of things) (x.0 ∷ [])))
parameter-at [] k lt = absurd (omega arith)
parameter-at (_ ∷ things) k lt = absurd (omega arith)

parameter-before : (things : List Held) (k m : ℕ) → suc k ≡ m → k < length (parameters_of things)
    → (x : NameId) × (drop k things ≡ held.Parameter x ∷ drop m things)
parameter-before things k m same lt = rw (← same) (parameter-at things k lt)

-- and below them lies none
pub parameters-below : (things : List Held) → parameters_of (drop (length (parameters_of things)) things) ≡ []
parameters-below (held.Parameter x ∷ things) =
    let e : length (parameters_of things ++ x.0 ∷ []) ≡ suc (length (parameters_of things)) = simp length-append (omega arith) in
    rw e (parameters-below things)
parameters-below [] = refl
parameters-below (_ ∷ things) = refl

pub parameters-begin : (things : List Held) → [] ≡ parameters_of (drop (length (parameters_of things) - 0) things)
parameters-begin things =
    let all : length (parameters_of things) - 0 ≡ length (parameters_of things) = omega arith in
    rw all (sym (parameters-below things))

pub few-parameters : (things : List Held) → length (parameters_of things) ≤ length things
few-parameters (held.Parameter x ∷ things) = omega (arith, few-parameters things, length-append (parameters_of things) (x.0 ∷ []))
few-parameters [] = omega arith
few-parameters (_ ∷ things) = omega arith

-- The last r things in the order of the text, which are the parameters: each is one, with which those before it are one more.
pub parameter-item : (things : List Held) (r j : ℕ) (d : Held) → r ≡ length (parameters_of (reverse things))
    → j < length (take (length things - (length things - r)) (drop (length things - r) things))
    → (x : NameId) × (get_or (take (length things - (length things - r)) (drop (length things - r) things)) j d ≡ held.Parameter x)
    × (parameters_of (drop (length (parameters_of (reverse things)) - (j + 1)) (reverse things)) ≡ parameters_of (drop (length (parameters_of (reverse things)) - j) (reverse things)) ++ x.0 ∷ [])
parameter-item things r j d is lt =
    let c = length (parameters_of (reverse things)) in
    let few : c ≤ length things = omega (arith, few-parameters (reverse things), length-reverse things) in
    let within : j < length things - (length things - r) = omega (arith, lt, length-take (length things - (length things - r)) (drop (length things - r) things)) in
    let early : j < c = omega arith in
    let k = c - (j + 1) in
    let at = parameter-before (reverse things) k (c - j) (omega arith) (omega arith) in
    let e = next-thing things k d (omega arith) in
    let place : length things - 1 - k ≡ length things - r + j = omega arith in
    let item : get_or (take (length things - (length things - r)) (drop (length things - r) things)) j d ≡ get_or things (length things - r + j) d
    = get_or-take (length things - (length things - r)) (drop (length things - r) things) j d within ∙ get_or-drop (length things - r) things j d in
    let tops = sym e ∙ at.1 in
    let top : get_or things (length things - 1 - k) d ≡ held.Parameter at.0 = cc in
    let there = rw place at top in
    (at.0, item ∙ there, ap parameters_of at.1)

-- once all of these things are passed
pub parameters-end : (things : List Held) (r j : ℕ) → r ≡ length (parameters_of (reverse things))
    → length (take (length things - (length things - r)) (drop (length things - r) things)) ≤ j
    → parameters_of (drop (length (parameters_of (reverse things)) - j) (reverse things)) ≡ parameters_of (reverse things)
parameters-end things r j is passed =
    let few : length (parameters_of (reverse things)) ≤ length things = omega (arith, few-parameters (reverse things), length-reverse things) in
    let none : length (parameters_of (reverse things)) - j ≡ 0 = omega (arith, length-take (length things - (length things - r)) (drop (length things - r) things), length-drop (length things - r) things) in
    rw none

-- ── types of parameters ──

pub one-type-more : (things : List Held) (k : ℕ) (d : Held) (x : Ty) → k < length things
    → get_or things (length things - 1 - k) d ≡ held.ParameterType x
    → parameter_types_of (drop k (reverse things)) ≡ parameter_types_of (drop (k + 1) (reverse things)) ++ x ∷ []
one-type-more things k d x lt is = let e = next-thing things k d lt in rw (e, is)

types-stop : (t : Held) (things : List Held) → ((x : Ty) → t ≡ held.ParameterType x → ⊥) → parameter_types_of (t ∷ things) ≡ []
types-stop (held.ParameterType x) things differs = absurd (differs x refl)
types-stop _ things differs = refl

pub no-type-more : (things : List Held) (k : ℕ) (d : Held) → k < length things
    → ((x : Ty) → get_or things (length things - 1 - k) d ≡ held.ParameterType x → ⊥)
    → parameter_types_of (drop k (reverse things)) ≡ []
no-type-more things k d lt differs =
    let e = next-thing things k d lt in
    rw e (types-stop (get_or things (length things - 1 - k) d) (drop (k + 1) (reverse things)) differs)

-- each of so many things is the type of one
pub type-at : (things : List Held) (k : ℕ) → k < length (parameter_types_of things)
    → (x : Ty) × (drop k things ≡ held.ParameterType x ∷ drop (suc k) things)
type-at (held.ParameterType x ∷ things) zero lt = (x, refl)
type-at (held.ParameterType x ∷ things) (suc k) lt = type-at things k (omega (arith, length-append (parameter_types_of things) (x ∷ [])))
type-at [] k lt = absurd (omega arith)
type-at (_ ∷ things) k lt = absurd (omega arith)

type-before : (things : List Held) (k m : ℕ) → suc k ≡ m → k < length (parameter_types_of things)
    → (x : Ty) × (drop k things ≡ held.ParameterType x ∷ drop m things)
type-before things k m same lt = rw (← same) (type-at things k lt)

-- and below them lies none
pub types-below : (things : List Held) → parameter_types_of (drop (length (parameter_types_of things)) things) ≡ []
types-below (held.ParameterType x ∷ things) =
    let e : length (parameter_types_of things ++ x ∷ []) ≡ suc (length (parameter_types_of things)) = simp length-append (omega arith) in
    rw e (types-below things)
types-below [] = refl
types-below (_ ∷ things) = refl

pub types-begin : (things : List Held) → [] ≡ parameter_types_of (drop (length (parameter_types_of things) - 0) things)
types-begin things =
    let all : length (parameter_types_of things) - 0 ≡ length (parameter_types_of things) = omega arith in
    rw all (sym (types-below things))

pub few-types-on : (things : List Held) → length (parameter_types_of things) ≤ length things
few-types-on (held.ParameterType x ∷ things) = omega (arith, few-types-on things, length-append (parameter_types_of things) (x ∷ []))
few-types-on [] = omega arith
few-types-on (_ ∷ things) = omega arith

-- The last r things in the order of the text, which are the types of parameters: each is one, with which those before it are one more.
pub type-item : (things : List Held) (r j : ℕ) (d : Held) → r ≡ length (parameter_types_of (reverse things))
    → j < length (take (length things - (length things - r)) (drop (length things - r) things))
    → (x : Ty) × (get_or (take (length things - (length things - r)) (drop (length things - r) things)) j d ≡ held.ParameterType x)
    × (parameter_types_of (drop (length (parameter_types_of (reverse things)) - (j + 1)) (reverse things)) ≡ parameter_types_of (drop (length (parameter_types_of (reverse things)) - j) (reverse things)) ++ x ∷ [])
type-item things r j d is lt =
    let c = length (parameter_types_of (reverse things)) in
    let few : c ≤ length things = omega (arith, few-types-on (reverse things), length-reverse things) in
    let within : j < length things - (length things - r) = omega (arith, lt, length-take (length things - (length things - r)) (drop (length things - r) things)) in
    let early : j < c = omega arith in
    let k = c - (j + 1) in
    let at = type-before (reverse things) k (c - j) (omega arith) (omega arith) in
    let e = next-thing things k d (omega arith) in
    let place : length things - 1 - k ≡ length things - r + j = omega arith in
    let item : get_or (take (length things - (length things - r)) (drop (length things - r) things)) j d ≡ get_or things (length things - r + j) d
    = get_or-take (length things - (length things - r)) (drop (length things - r) things) j d within ∙ get_or-drop (length things - r) things j d in
    let tops = sym e ∙ at.1 in
    let top : get_or things (length things - 1 - k) d ≡ held.ParameterType at.0 = cc in
    let there = rw place at top in
    (at.0, item ∙ there, ap parameter_types_of at.1)

-- once all of these things are passed
pub types-end : (things : List Held) (r j : ℕ) → r ≡ length (parameter_types_of (reverse things))
    → length (take (length things - (length things - r)) (drop (length things - r) things)) ≤ j
    → parameter_types_of (drop (length (parameter_types_of (reverse things)) - j) (reverse things)) ≡ parameter_types_of (reverse things)
types-end things r j is passed =
    let few : length (parameter_types_of (reverse things)) ≤ length things = omega (arith, few-types-on (reverse things), length-reverse things) in
    let none : length (parameter_types_of (reverse things)) - j ≡ 0 = omega (arith, length-take (length things - (length things - r)) (drop (length things - r) things), length-drop (length things - r) things) in
    rw none
