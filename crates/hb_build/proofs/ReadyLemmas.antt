-- What holds all the way through a text does so at its start, and where a token is read, a phrase is replaced or an action is done.
use Rattle.std.proofs.Common.{◌≡◌, ℕ, ◌+◌, ◌≤◌, List, [], ◌∷◌, ◌++◌, Option, Some, None, length, refl, sym, subst, arith}
use Rattle.hb_lex.specs.declared.kinds.TokenKind.{TokenKind}
use Rattle.hb_lex.specs.declared.kinds.TokenKind.TheVariants as k
use Rattle.hb_grammar.specs.{Grammar.alternatives, Language.IsOneOf, Language.program}
use Rattle.hb_grammar.specs.declared.{actions.Action.Action, symbols.Sort.Sort, symbols.Symbol.Symbol, symbols.Symbol.TheVariants.Token as T}
use Rattle.hb_grammar.specs.declared.{symbols.Symbol.TheVariants.Phrase as N, symbols.Symbol.TheVariants.Action as A}
use Rattle.hb_draft.proofs.WordLists.{with_word-length}
use Rattle.hb_build.specs.{Needs.needs, Needs.HasToken, Pile.Slot, Ready.Ready, Ready.to_come}
use Rattle.hb_build.specs.declared.held.Spot.{Spot}
use Rattle.hb_build.specs.Acts.{Work, Goes, Lost, act}
use Rattle.hb_build.specs.Fits.{IsRead, unused, Stands}
use Rattle.hb_build.proofs.FitLemmas.{fits-program, fits-token, fits-phrase, fits-has_token, fits-found, fits-goes}
use Rattle.hb_build.proofs.NameLemmas.{named, names-after}

pub ready-start : (bytes : List ℕ) (w : Work) → w.pile ≡ [] → w.said.names ≡ [] → Ready program bytes 0 w
ready-start bytes w empty none = record {
  state = record { last = None; tags = [] };
  fits = fits-program;
  stands = subst (Stands []) (sym empty) tt;
  has_token = tt;
  few_names = subst (λ names. length names + 0 ≤ 0) (sym none) (omega arith);
}

one_at_most : (last : Option TokenKind) → to_come last ≤ 1
one_at_most None = omega arith
one_at_most (Some k.Name) = omega arith
one_at_most (Some _) = omega arith

-- a token at the front is read, which has other bytes
pub ready-token : (j : TokenKind) (stack : List Symbol) (bytes next : List ℕ) (read : ℕ) (w : Work)
    → Ready (T j ∷ stack) bytes read w → HasToken (Some j) next → Ready stack next (read + 1) w
ready-token j stack bytes next read w h is = record {
  state = record { last = Some j; tags = h.state.tags };
  fits = fits-token stack h.state j h.fits;
  stands = h.stands;
  has_token = is;
  few_names = omega (arith, h.few_names, one_at_most (Some j));
}

pub ready-phrase : (sort : Sort) (stack phrase : List Symbol) (bytes : List ℕ) (read : ℕ) (w : Work)
    → Ready (N sort ∷ stack) bytes read w → IsOneOf (alternatives sort) phrase → Ready (phrase ++ stack) bytes read w
ready-phrase sort stack phrase bytes read w h one = record {
  state = h.state;
  fits = fits-phrase stack h.state sort phrase h.fits one;
  stands = h.stands;
  has_token = h.has_token;
  few_names = h.few_names;
}

-- a name that is numbered is the token just read
used-up : (need last : Option TokenKind) (bytes : List ℕ) (names : List (List ℕ)) → IsRead need last
    → length (named need bytes names) + to_come (unused need last) ≤ length names + to_come last
used-up None last bytes names read = omega arith
used-up (Some k.Name) last bytes names read = subst (λ x. length (named (Some k.Name) bytes names) + 0 ≤ length names + to_come x) (sym read) (omega (arith, with_word-length names bytes))
used-up (Some _) last bytes names read = omega arith

-- the action at the front
module _ (done : Action) (stack : List Symbol) (p : Spot) (bytes : List ℕ) (read : ℕ) (w : Work) (h : Ready (A done ∷ stack) bytes read w) where
  pub ready-needed : HasToken (needs done) bytes
  ready-needed = fits-has_token done stack h.state h.fits bytes h.has_token

  pub ready-found : act done p bytes w ≡ Lost → ⊥
  ready-found = fits-found done stack h.state h.fits p bytes w h.stands

  pub ready-goes : (v : Work) → act done p bytes w ≡ Goes v → Ready stack bytes read v
  ready-goes v goes =
      let after = fits-goes done stack h.state h.fits p bytes w h.stands v goes in
      let few : length (named (needs done) bytes w.said.names) + to_come (unused (needs done) h.state.last) ≤ length w.said.names + to_come h.state.last
      = used-up (needs done) h.state.last bytes w.said.names h.fits.0 in
      let few_after : length v.said.names + to_come after.0.last ≤ length w.said.names + to_come h.state.last
      = subst (λ names. length names + to_come after.0.last ≤ length w.said.names + to_come h.state.last) (sym (names-after done p bytes w v goes))
      (subst (λ last. length (named (needs done) bytes w.said.names) + to_come last ≤ length w.said.names + to_come h.state.last) (sym after.3) few) in
      record {
        state = after.0;
        fits = after.1;
        stands = after.2;
        has_token = after.4 h.has_token;
        few_names = omega (arith, few_after, h.few_names);
      }

-- ── the end ──

empty : (pile : List Slot) → Stands [] pile → pile ≡ []
empty [] h = refl
empty (slot ∷ pile) h = absurd h

pub ready-names : (stack : List Symbol) (bytes : List ℕ) (read : ℕ) (w : Work) → Ready stack bytes read w → length w.said.names ≤ read
ready-names stack bytes read w h = omega (arith, h.few_names)
