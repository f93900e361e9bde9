-- Pieces that the grammar derives, with the deeds on the way; and that these are the deeds of the text with the pieces' tokens.
use Rattle.std.proofs.Common.{◌≡◌, ℕ, zero, suc, ◌+◌, List, [], ◌∷◌, ◌++◌, map, drop, slice_get, Bool, true, false, None, refl, sym, ◌∙◌, ap, subst, inl, inr, add-one, append_assoc}
use Rattle.hb_lex.specs.declared.{kinds.TokenKind.TokenKind, spans.Token.Token}
use Rattle.hb_lex.specs.Tokens.{bytes_of}
use Rattle.hb_tree.specs.Pieces.{Piece}
use Rattle.hb_grammar.specs.declared.{actions.Action.Action, symbols.Sort.Sort, symbols.Symbol.Symbol, symbols.Symbol.TheVariants.Token as T}
use Rattle.hb_grammar.specs.declared.{symbols.Symbol.TheVariants.Phrase as N, symbols.Symbol.TheVariants.Action as A}
use Rattle.hb_grammar.specs.Grammar.{alternatives}
use Rattle.hb_grammar.specs.Language.{Act, act, IsOneOf, Derives, Translates, kinds_of}
use Rattle.hb_canonical.specs.Deeds.{Deed, deed, plain, looked_at, deed_in, deeds_in}
use Rattle.hb_build.specs.{Needs.needs, Follow.bytes_in, Follow.last_of}

-- The symbols derive the pieces, behind one with these bytes, in at most n steps, and these are the deeds on the way.
abbrev pub Yields : ℕ → List Symbol → List ℕ → List Piece → List Deed → Type 0
Yields zero stack last ps ds = ⊥
Yields (suc n) [] last ps ds = (ps ≡ []) × (ds ≡ [])
Yields (suc n) (T j ∷ stack) last ps ds = (p : Piece) × (rest : List Piece) × (ps ≡ p ∷ rest) × (p.kind ≡ j) × Yields n stack p.bytes rest ds
Yields (suc n) (A a ∷ stack) last ps ds = (later : List Deed) × (ds ≡ deed a (looked_at (needs a) last) ∷ later) × Yields n stack last ps later
Yields (suc n) (N s ∷ stack) last ps ds = (phrase : List Symbol) × IsOneOf (alternatives s) phrase × Yields n (phrase ++ stack) last ps ds

-- The pieces are a sentence of the symbols, whatever stands before them, and these are the deeds on the way.
pub record Sentence (stack : List Symbol) (ps : List Piece) (ds : List Deed) : Type 0 where
  pub steps : ℕ
  pub yields : (last : List ℕ) → Yields steps stack last ps ds

-- ── steps ──

pub over : Sentence [] [] []
over = record { steps = 1; yields = λ last. (refl, refl) }

pub token : {j : TokenKind} {bytes : List ℕ} {before behind : Bool} {stack : List Symbol} {ps : List Piece} {ds : List Deed} → Sentence stack ps ds
    → Sentence (T j ∷ stack) (record { kind = j; bytes = bytes; before = before; behind = behind } ∷ ps) ds
token {j} {bytes} {before} {behind} {stack} {ps} {ds} h = record {
  steps = suc h.steps;
  yields = λ last. (record { kind = j; bytes = bytes; before = before; behind = behind }, ps, refl, refl, h.yields bytes);
}

-- an action that looks at no bytes
pub action : {a : Action} {stack : List Symbol} {ps : List Piece} {ds : List Deed} → needs a ≡ None → Sentence stack ps ds → Sentence (A a ∷ stack) ps (plain a ∷ ds)
action {a} {stack} {ps} {ds} none h = record { steps = suc h.steps; yields = λ last. (ds, ap (λ need. deed a (looked_at need last) ∷ ds) (sym none), h.yields last) }

-- a token, and an action that looks at it
pub looks : {j : TokenKind} {a : Action} {bytes : List ℕ} {before behind : Bool} {stack : List Symbol} {ps : List Piece} {ds : List Deed} → Sentence stack ps ds
    → Sentence (T j ∷ A a ∷ stack) (record { kind = j; bytes = bytes; before = before; behind = behind } ∷ ps) (deed a (looked_at (needs a) bytes) ∷ ds)
looks {j} {a} {bytes} {before} {behind} {stack} {ps} {ds} h = record {
  steps = suc (suc h.steps);
  yields = λ last. (record { kind = j; bytes = bytes; before = before; behind = behind }, ps, refl, refl, (ds, refl, h.yields bytes));
}

-- the alternative with a number, and nothing where there is none
abbrev pub at : List (List Symbol) → ℕ → List Symbol
at [] i = []
at (phrase ∷ phrases) zero = phrase
at (phrase ∷ phrases) (suc i) = at phrases i

abbrev pub is_there : List (List Symbol) → ℕ → Bool
is_there [] i = false
is_there (phrase ∷ phrases) zero = true
is_there (phrase ∷ phrases) (suc i) = is_there phrases i

not_there : false ≡ true → ⊥
not_there e = cc

at_is_one : (phrases : List (List Symbol)) (i : ℕ) → is_there phrases i ≡ true → IsOneOf phrases (at phrases i)
at_is_one [] i inside = absurd (not_there inside)
at_is_one (phrase ∷ phrases) zero inside = inl refl
at_is_one (phrase ∷ phrases) (suc i) inside = inr (at_is_one phrases i inside)

pub choose : (s : Sort) (i : ℕ) → is_there (alternatives s) i ≡ true → {stack : List Symbol} {ps : List Piece} {ds : List Deed} → Sentence (at (alternatives s) i ++ stack) ps ds → Sentence (N s ∷ stack) ps ds
choose s i inside h = record { steps = suc h.steps; yields = λ last. (at (alternatives s) i, at_is_one (alternatives s) i inside, h.yields last) }

-- pieces with others behind, and deeds likewise
pub split : (ps qs behind : List Piece) {stack : List Symbol} {ds : List Deed} → Sentence stack (ps ++ (qs ++ behind)) ds → Sentence stack ((ps ++ qs) ++ behind) ds
split ps qs behind {stack} {ds} h = subst (λ (x : List Piece). Sentence stack x ds) (sym (append_assoc ps qs behind)) h

pub join : (ds es later : List Deed) {stack : List Symbol} {ps : List Piece} → Sentence stack ps (ds ++ (es ++ later)) → Sentence stack ps ((ds ++ es) ++ later)
join ds es later {stack} {ps} h = subst (λ (x : List Deed). Sentence stack ps x) (sym (append_assoc ds es later)) h

-- ── what a sentence comes to ──

abbrev pub piece_kinds : List Piece → List TokenKind
piece_kinds ps = map (λ piece. piece.kind) ps

abbrev pub piece_bytes : List Piece → List (List ℕ)
piece_bytes ps = map (λ piece. piece.bytes) ps

pub derives : (n : ℕ) (stack : List Symbol) (last : List ℕ) (ps : List Piece) (ds : List Deed) → Yields n stack last ps ds → Derives n stack (piece_kinds ps)
derives zero stack last ps ds h = absurd h
derives (suc n) [] last ps ds h = ap piece_kinds h.0
derives (suc n) (T j ∷ stack) last ps ds h = (piece_kinds h.1, ap piece_kinds h.2 ∙ ap (λ i. i ∷ piece_kinds h.1) h.3, derives n stack h.0.bytes h.1 ds h.4)
derives (suc n) (A a ∷ stack) last ps ds h = derives n stack last ps h.0 h.2
derives (suc n) (N s ∷ stack) last ps ds h = (h.0, h.1, derives n (h.0 ++ stack) last ps ds h.2)

module _ (text : List ℕ) where
  -- the next token is the next piece
  next-piece : (tokens : List Token) (at : ℕ) (p : Piece) (rest : List Piece) → drop at (kinds_of tokens) ≡ piece_kinds (p ∷ rest) → drop at (map (bytes_of text) tokens) ≡ piece_bytes (p ∷ rest)
      → (bytes_in text (slice_get tokens at) ≡ p.bytes) × (drop (suc at) (kinds_of tokens) ≡ piece_kinds rest) × (drop (suc at) (map (bytes_of text) tokens) ≡ piece_bytes rest)
  next-piece [] zero p rest k b = absurd (cc k)
  next-piece [] (suc at) p rest k b = absurd (cc k)
  next-piece (t ∷ tokens) zero p rest k b = (cc b, cc k, cc b)
  next-piece (t ∷ tokens) (suc at) p rest k b = next-piece tokens at p rest k b

  module _ (tokens : List Token) where
    -- where the tokens are the pieces, the deeds are those of actions of the tokens
    pub acts : (n : ℕ) (stack : List Symbol) (at : ℕ) (ps : List Piece) (ds : List Deed) → Yields n stack (bytes_in text (last_of tokens at)) ps ds
        → drop at (kinds_of tokens) ≡ piece_kinds ps → drop at (map (bytes_of text) tokens) ≡ piece_bytes ps
        → (done : List Act) × Translates n stack at (piece_kinds ps) done × (deeds_in text tokens done ≡ ds)
    acts zero stack at ps ds h k b = absurd h
    acts (suc n) [] at ps ds h k b = ([], (ap piece_kinds h.0, refl), sym h.1)
    acts (suc n) (T j ∷ stack) at ps ds h k b =
        let p : Piece = h.0 in
        let rest : List Piece = h.1 in
        let next = next-piece tokens at p rest (k ∙ ap piece_kinds h.2) (b ∙ ap piece_bytes h.2) in
        let one : suc at ≡ at + 1 = sym (add-one at) in
        let last : p.bytes ≡ bytes_in text (last_of tokens (at + 1)) = sym next.0 ∙ ap (λ m. bytes_in text (last_of tokens m)) one in
        let r = acts n stack (at + 1) rest ds (subst (λ (bytes : List ℕ). Yields n stack bytes rest ds) last h.4)
        (subst (λ (m : ℕ). drop m (kinds_of tokens) ≡ piece_kinds rest) one next.1)
        (subst (λ (m : ℕ). drop m (map (bytes_of text) tokens) ≡ piece_bytes rest) one next.2) in
        (r.0, (piece_kinds rest, ap piece_kinds h.2 ∙ ap (λ i. i ∷ piece_kinds rest) h.3, r.1), r.2)
    acts (suc n) (A a ∷ stack) at ps ds h k b =
        let r = acts n stack at ps h.0 h.2 k b in
        (act a at ∷ r.0, (r.0, refl, r.1), ap (λ more. deed_in text tokens (act a at) ∷ more) r.2 ∙ sym h.1)
    acts (suc n) (N s ∷ stack) at ps ds h k b =
        let r = acts n (h.0 ++ stack) at ps ds h.2 k b in
        (r.0, (h.0, h.1, r.1), r.2)
