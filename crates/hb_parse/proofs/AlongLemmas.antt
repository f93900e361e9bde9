-- All the way through a text the own tokens of nodes other than blocks are apart, and each node lies in a tree.
use Rattle.std.proofs.Common.{◌≡◌, ℕ, zero, suc, ◌+◌, ◌<◌, ◌≤◌, List, [], ◌∷◌, ◌++◌, Bool, true, false, cond, Option, Some, None, All, length, slice_get, refl, sym, ◌∙◌, ap, subst, inl, inr, arith, add-one}
use Rattle.std.proofs.{lemmas.Bool.cases_Bool, lemmas.Bool.false≢true, lemmas.Option.none-some}
use Rattle.hb_types.specs.declared.types.Ty.TheVariants as ty
use Rattle.hb_lex.specs.declared.{kinds.TokenKind.TokenKind, spans.Token.Token}
use Rattle.hb_lex.specs.Tokens.{AreInOrder, Stands}
use Rattle.hb_tree.specs.Tree.{Tree}
use Rattle.hb_grammar.specs.{Grammar.alternatives, Language.act as behind}
use Rattle.hb_grammar.specs.declared.{actions.Action.Action, symbols.Sort.Sort, symbols.Symbol.Symbol, symbols.Symbol.TheVariants.Token as T}
use Rattle.hb_grammar.specs.declared.{symbols.Symbol.TheVariants.Phrase as N, symbols.Symbol.TheVariants.Action as A}
use Rattle.hb_grammar.specs.declared.actions.Action.TheVariants as a
use Rattle.hb_grammar.specs.Language.{Act, Translates, IsOneOf, program}
use Rattle.hb_build.specs.{Pile.Slot, Fits.State, Fits.Fits, Fits.Stands as Matches}
use Rattle.hb_build.specs.declared.held.Spot.{Spot}
use Rattle.hb_build.specs.Acts.{Answer, Goes, Fails, Lost, Work, act, nothing}
use Rattle.hb_build.specs.Follow.{act_in, and_then, bytes_in, first_byte, follow, last_of, spot_of}
use Rattle.hb_build.proofs.FitLemmas.{fits-program, fits-token, fits-phrase, fits-goes}
use Rattle.hb_parse.proofs.{CourseLemmas.all-at, CourseLemmas.get-some, CourseLemmas.byte-within, ApartLemmas.IsSpot, OwnLemmas.AreApart, OwnLemmas.acts-apart}
use Rattle.hb_parse.proofs.{OwnLemmas.bound_after, ReachedLemmas.Reached, ReachedLemmas.acts-reached}
use Rattle.hb_parse.proofs.SpareLemmas.{uses, spares, setups, setups_of, spares-phrase, spares-used, spares-unused, setups-phrase}
use Rattle.hb_parse.proofs.HoldLemmas.{Holds, holds-fails_if, holds-known, holds-complete, on-operand, on-closed, on-own, on-declaring, on-name, on-target, on-called, on-class}
use Rattle.hb_parse.proofs.HoldLemmas.{on-type, on-block, on-body, on-script, on-method}

-- what holds where an answer goes on holds there
holds-goes : (P : Work → Type 0) (answer : Answer) (v : Work) → Holds P answer → answer ≡ Goes v → P v
holds-goes P answer v h e = subst (Holds P) e h

-- ── the setup ──

abbrev ended : Option Tree → ℕ
ended None = 0
ended (Some b) = 1

ended-few : (setup : Option Tree) → ended setup ≤ 1
ended-few None = omega arith
ended-few (Some b) = omega arith

none-ended : (setup : Option Tree) → ended setup ≡ 0 → setup ≡ None
none-ended None e = refl
none-ended (Some b) e = absurd (omega (arith, e))

-- only one action sets it
abbrev KeepsSetup : Action → Work → Work → Type 0
KeepsSetup a.EndSetup w v = Unit {0}
KeepsSetup _ w v = v.said.setup ≡ w.said.setup

abbrev Anything : List Slot → Type 0
Anything pile = Unit {0}

any-answer : (answer : Answer) → Holds (λ v. Unit {0}) answer
any-answer (Goes w) = tt
any-answer (Fails fault) = tt
any-answer Lost = tt

module _ (p : Spot) (bytes : List ℕ) (w : Work) where
  abbrev Same : Work → Type 0
  Same v = v.said.setup ≡ w.said.setup

  acts-setup : (done : Action) → Holds (KeepsSetup done w) (act done p bytes w)
  acts-setup a.EndSetup = any-answer (act a.EndSetup p bytes w)
  acts-setup (a.HoldType (ty.Class c)) = tt
  acts-setup _ = search (
    holds-fails_if,
    on-closed Same Anything,
    on-script Same Anything,
    on-block Same Anything,
    holds-complete,
    on-operand Same Anything,
    on-name Same Anything,
    holds-known,
    on-class Same Anything,
    on-type Same Anything,
    on-target Same Anything,
    on-own Same Anything,
    on-called Same Anything,
    on-body Same Anything,
    on-method Same Anything,
    on-declaring Same Anything,
  )

setups-after : (done : Action) (w v : Work) → KeepsSetup done w v → setups_of (A done) + ended w.said.setup ≤ 1 → ended v.said.setup ≤ setups_of (A done) + ended w.said.setup
setups-after a.EndSetup w v h few = omega (arith, ended-few v.said.setup)
setups-after _ w v h few = omega (arith, ap ended h)

-- ── the tokens in their order ──

-- the byte behind a token, and the front of the text where there is none
abbrev end_of : Option Token → ℕ
end_of None = 0
end_of (Some token) = token.to

two-in-order : (from : ℕ) (tokens : List Token) (n : ℕ) (t u : Token) → AreInOrder from tokens → slice_get tokens n ≡ Some t → slice_get tokens (suc n) ≡ Some u → t.to ≤ u.from
two-in-order from [] n t u ordered e f = absurd (none-some t e)
two-in-order from (x ∷ []) zero t u ordered e f = absurd (none-some u f)
two-in-order from (x ∷ y ∷ more) zero t u ordered e f =
    let first : x ≡ t = cc in
    let second : y ≡ u = cc in
    omega (arith, ordered.1.0, ap (λ (z : Token). z.to) first, ap (λ (z : Token). z.from) second)
two-in-order from (x ∷ tokens) (suc n) t u ordered e f = two-in-order x.to tokens n t u ordered.1 e f

module _ (text : List ℕ) (tokens : List Token) (ordered : AreInOrder 0 tokens) (standing : All (Stands text) tokens) where
  -- the token read next stands behind the last one
  abbrev IsNext : ℕ → ℕ → Type 0
  IsNext at next = (end_of (last_of tokens at) ≤ first_byte (last_of tokens next)) × (first_byte (last_of tokens next) < end_of (last_of tokens next))

  next-token : (at : ℕ) → at < length tokens → IsNext at (suc at)
  next-token at lt =
      let t : (t : Token) × (slice_get tokens at ≡ Some t) = get-some tokens at lt in
      let stands : Stands text t.0 = all-at (Stands text) tokens at t.0 standing t.1 in
      let first : first_byte (slice_get tokens at) ≡ t.0.from = ap first_byte t.1 in
      let end : end_of (slice_get tokens at) ≡ t.0.to = ap end_of t.1 in
      (omega (arith, first, before at lt t.0 t.1), omega (arith, first, end, stands.some))
    where
      before : (at : ℕ) → at < length tokens → (t : Token) → slice_get tokens at ≡ Some t → end_of (last_of tokens at) ≤ t.from
      before zero lt t e = omega arith
      before (suc n) lt t e =
          let s : (s : Token) × (slice_get tokens n ≡ Some s) = get-some tokens n (omega (arith, lt)) in
          omega (arith, ap end_of s.1, two-in-order 0 tokens n s.0 t ordered s.1 e)

  -- ── what holds on the way: so many tokens were read, and the symbols are to come ──

  pub record Along (stack : List Symbol) (at : ℕ) (w : Work) : Type 0 where
    pub state : State
    pub fits : Fits stack state
    pub matches : Matches state.tags w.pile
    pub few : setups stack + ended w.said.setup ≤ 1
    pub free : Bool
    pub spares : spares stack free ≡ true
    pub bound : ℕ
    pub apart : AreApart text bound w
    pub reached : Reached w
    pub read : bound ≤ end_of (last_of tokens at)
    pub unread : free ≡ true → (bound ≤ first_byte (last_of tokens at)) × (first_byte (last_of tokens at) < end_of (last_of tokens at))

  pub along-start : Along program 0 nothing
  along-start = record {
    state = record { last = None; tags = [] };
    fits = fits-program;
    matches = tt;
    few = omega arith;
    free = false;
    spares = refl;
    bound = 0;
    apart = (
      record {
        made = [];
        are_made = tt;
        kept = λ k e. absurd (none-some None e);
        once = λ a. omega arith;
        below = λ a le. omega arith;
      },
      tt,
    );
    reached = λ k within. absurd (omega arith);
    read = omega arith;
    unread = λ e. absurd (false≢true e);
  }

  along-token : (j : TokenKind) (stack : List Symbol) (at : ℕ) (w : Work) → at < length tokens → Along (T j ∷ stack) at w → Along stack (at + 1) w
  along-token j stack at w lt h =
      let next : IsNext at (at + 1) = subst (IsNext at) (sym (add-one at)) (next-token at lt) in
      record {
        state = record { last = Some j; tags = h.state.tags };
        fits = fits-token stack h.state j h.fits;
        matches = h.matches;
        few = omega (arith, h.few);
        free = true;
        spares = h.spares;
        bound = h.bound;
        apart = h.apart;
        reached = h.reached;
        read = omega (arith, h.read, next.0, next.1);
        unread = λ e. (omega (arith, h.read, next.0), next.1);
      }

  along-phrase : (sort : Sort) (phrase stack : List Symbol) (at : ℕ) (w : Work) → IsOneOf (alternatives sort) phrase → Along (N sort ∷ stack) at w → Along (phrase ++ stack) at w
  along-phrase sort phrase stack at w one h = record {
    state = h.state;
    fits = fits-phrase stack h.state sort phrase h.fits one;
    matches = h.matches;
    few = omega (arith, h.few, setups-phrase sort phrase stack one);
    free = h.free;
    spares = spares-phrase sort phrase stack h.free one h.spares;
    bound = h.bound;
    apart = h.apart;
    reached = h.reached;
    read = h.read;
    unread = h.unread;
  }

  along-action : (done : Action) (stack : List Symbol) (at : ℕ) (w v : Work) → at ≤ length tokens → Along (A done ∷ stack) at w
      → act done (spot_of text (last_of tokens at)) (bytes_in text (last_of tokens at)) w ≡ Goes v → Along stack at v
  along-action done stack at w v within h goes =
      let p = spot_of text (last_of tokens at) in
      let bytes = bytes_in text (last_of tokens at) in
      let is : IsSpot text p = (refl, byte-within text tokens at standing within) in
      let fit = fits-goes done stack h.state h.fits p bytes w h.matches v goes in
      let of_setup : KeepsSetup done w v = holds-goes (KeepsSetup done w) (act done p bytes w) v (acts-setup p bytes w done) goes in
      let one : setups_of (A done) + ended w.said.setup ≤ 1 = omega (arith, h.few) in
      let few : setups stack + ended v.said.setup ≤ 1 = omega (arith, h.few, setups-after done w v of_setup one) in
      let reached : Reached v = holds-goes Reached (act done p bytes w) v (acts-reached p bytes w h.reached done (λ some. none-ended w.said.setup (omega (arith, one, some)))) goes in
      let spared : uses done ≡ true → (h.free ≡ true) × (spares stack false ≡ true) = spares-used (uses done) h.free (spares stack false) (spares stack h.free) h.spares in
      let apart : AreApart text (bound_after done p h.bound) v =
      holds-goes (AreApart text (bound_after done p h.bound)) (act done p bytes w) v
      (acts-apart text h.bound p is bytes w h.apart done (λ e. (h.unread (spared e).0).0) (λ some. none-ended w.said.setup (omega (arith, one, some)))) goes in
      elim (cases_Bool (uses done)) as (λ _. Along stack at v) [
        | inl used ↦ record {
          state = fit.0;
          fits = fit.1;
          matches = fit.2;
          few = few;
          free = false;
          spares = (spared used).1;
          bound = p.at + 1;
          apart = subst (λ b. AreApart text (cond b (p.at + 1) h.bound) v) used apart;
          reached = reached;
          read = omega (arith, (h.unread (spared used).0).1);
          unread = λ e. absurd (false≢true e);
        }
        | inr unused ↦ record {
          state = fit.0;
          fits = fit.1;
          matches = fit.2;
          few = few;
          free = h.free;
          spares = spares-unused (uses done) h.free (spares stack false) (spares stack h.free) h.spares unused;
          bound = h.bound;
          apart = subst (λ b. AreApart text (cond b (p.at + 1) h.bound) v) unused apart;
          reached = reached;
          read = h.read;
          unread = h.unread;
        }
      ]

  -- ── the whole way ──

  then-goes : (answer : Answer) (go : Work → Answer) (v : Work) → and_then answer go ≡ Goes v → (u : Work) × (answer ≡ Goes u) × (go u ≡ Goes v)
  then-goes (Goes u) go v e = (u, refl, e)
  then-goes (Fails fault) go v e = absurd (cc)
  then-goes Lost go v e = absurd (cc)

  pub along-all : (n : ℕ) (stack : List Symbol) (at : ℕ) (rest : List TokenKind) (done : List Act) (w v : Work) → Translates n stack at rest done
      → at + length rest ≡ length tokens → follow text tokens done w ≡ Goes v → Along stack at w → Along [] (length tokens) v
  along-all zero stack at rest done w v d size goes h = absurd d
  along-all (suc n) [] at rest done w v d size goes h =
      let here : at ≡ length tokens = omega (arith, size, ap length d.0) in
      let same : Goes w ≡ Goes v = ap (λ x. follow text tokens x w) (sym d.1) ∙ goes in
      let work : w ≡ v = cc in
      subst (λ m. Along [] m v) here (subst (Along [] at) work h)
  along-all (suc n) (T j ∷ stack) at rest done w v d size goes h =
      let more : length rest ≡ suc (length d.0) = ap length d.1 in
      along-all n stack (at + 1) d.0 done w v d.2 (omega (arith, size, more)) goes (along-token j stack at w (omega (arith, size, more)) h)
  along-all (suc n) (N sort ∷ stack) at rest done w v d size goes h =
      along-all n (d.0 ++ stack) at rest done w v d.2 size goes (along-phrase sort d.0 stack at w d.1 h)
  along-all (suc n) (A x ∷ stack) at rest done w v d size goes h =
      let first = then-goes (act_in text tokens (behind x at) w) (follow text tokens d.0) v (ap (λ y. follow text tokens y w) (sym d.1) ∙ goes) in
      along-all n stack at rest d.0 first.0 v d.2 size first.2 (along-action x stack at w first.0 (omega (arith, size)) h first.1)
