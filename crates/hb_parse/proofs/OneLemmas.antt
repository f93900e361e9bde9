-- Tokens of a text say one program or have one first fault, and never both.
use Rattle.std.proofs.Common.{◌≡◌, inl, inr, ℕ, List, sym, ◌∙◌, ap, ap₂, slice_get}
use Rattle.hb_lex.specs.declared.{spans.Token.Token}
use Rattle.hb_grammar.specs.Language.{Act, HasActions, IsProgramText, kinds_of}
use Rattle.hb_grammar.proofs.{OneLemmas.apart, OneLemmas.one-place, OneLemmas.one-wanted, ActionLemmas.one_actions, ActionLemmas.one_first_actions, ActionLemmas.derives-translates}
use Rattle.hb_build.specs.{Follow.follow, Said.Said}
use Rattle.hb_build.specs.declared.faults.ParseFail.{ParseFail}
use Rattle.hb_build.specs.declared.faults.ParseFail.TheVariants as fail
use Rattle.hb_build.specs.Acts.{Answer, Goes, Fails, Work, nothing}
use Rattle.hb_parse.specs.Text.{AreActions, IsFault, IsFound, IsMissed, Says, byte_of}

is_program : (tokens : List Token) (done : List Act) → HasActions (kinds_of tokens) done → IsProgramText (kinds_of tokens)
is_program tokens done h = (h.0, derives-translates h.0 _ 0 (kinds_of tokens) done h.1)

-- tokens have one list of actions
same-actions : (tokens : List Token) (a b : List Act) → AreActions tokens a → AreActions tokens b → a ≡ b
same-actions tokens a b (inl x) (inl y) = one_actions (kinds_of tokens) a b x y
same-actions tokens a b (inl x) (inr y) = absurd (apart (kinds_of tokens) y.0 y.1 (is_program tokens a x) y.2.missed)
same-actions tokens a b (inr x) (inl y) = absurd (apart (kinds_of tokens) x.0 x.1 (is_program tokens b y) x.2.missed)
same-actions tokens a b (inr x) (inr y) = one_first_actions (kinds_of tokens) x.0 y.0 x.1 y.1 a b x.2 y.2

-- and come to one answer
same-answer : (text : List ℕ) (tokens : List Token) (a b : List Act) (x y : Answer) → AreActions tokens a → AreActions tokens b → follow text tokens a nothing ≡ x → follow text tokens b nothing ≡ y → x ≡ y
same-answer text tokens a b x y h g e f = sym e ∙ ap (λ (d : List Act). follow text tokens d nothing) (same-actions tokens a b h g) ∙ f

pub one-said : (text : List ℕ) (tokens : List Token) (a b : Said) → Says text tokens a → Says text tokens b → a ≡ b
one-said text tokens a b x y =
    let same : Goes x.work ≡ Goes y.work = same-answer text tokens x.done y.done (Goes x.work) (Goes y.work) (inl x.actions) (inl y.actions) x.built y.built in
    let work : x.work ≡ y.work = cc in
    sym x.said_is ∙ ap (λ (w : Work). w.said) work ∙ y.said_is

-- actions that go on find no fault
goes-found : (text : List ℕ) (tokens : List Token) (done : List Act) (w : Work) (fault : ParseFail) → AreActions tokens done → follow text tokens done nothing ≡ Goes w → IsFound text tokens fault → ⊥
goes-found text tokens done w fault h e f =
    let same : Goes w ≡ Fails fault = same-answer text tokens done f.done (Goes w) (Fails fault) h f.actions e f.found in
    cc

pub said-apart : (text : List ℕ) (tokens : List Token) (said : Said) (fault : ParseFail) → Says text tokens said → IsFault text tokens fault → ⊥
said-apart text tokens said fault x (inl f) = goes-found text tokens x.done x.work fault (inl x.actions) x.built f
said-apart text tokens said fault x (inr m) = apart (kinds_of tokens) m.at m.wanted (is_program tokens x.done x.actions) m.actions.missed

missed-found : (text : List ℕ) (tokens : List Token) (e f : ParseFail) → IsMissed text tokens e → IsFound text tokens f → ⊥
missed-found text tokens e f m h = goes-found text tokens m.done m.work f (inr (m.at, m.wanted, m.actions)) m.built h

one-missed : (text : List ℕ) (tokens : List Token) (e f : ParseFail) → IsMissed text tokens e → IsMissed text tokens f → e ≡ f
one-missed text tokens e f x y =
    let place : x.at ≡ y.at = one-place (kinds_of tokens) x.at y.at x.wanted y.wanted x.actions.missed y.actions.missed in
    let wanted : x.wanted ≡ y.wanted = one-wanted (kinds_of tokens) x.at y.at x.wanted y.wanted x.actions.missed y.actions.missed in
    x.fault_is ∙ ap₂ (λ w n. fail.Expected w (byte_of text (slice_get tokens n))) wanted place ∙ sym y.fault_is

pub one-fault : (text : List ℕ) (tokens : List Token) (e f : ParseFail) → IsFault text tokens e → IsFault text tokens f → e ≡ f
one-fault text tokens e f (inl x) (inl y) =
    let same : Fails e ≡ Fails f = same-answer text tokens x.done y.done (Fails e) (Fails f) x.actions y.actions x.found y.found in
    cc
one-fault text tokens e f (inl x) (inr y) = absurd (missed-found text tokens f e y x)
one-fault text tokens e f (inr x) (inl y) = absurd (missed-found text tokens e f x y)
one-fault text tokens e f (inr x) (inr y) = one-missed text tokens e f x y
