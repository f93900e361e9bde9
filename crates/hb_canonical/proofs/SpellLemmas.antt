-- Pieces that are tokens and do not join are the tokens of what they spell.
use Rattle.std.proofs.Common.{◌≡◌, ◌⊎◌, ℕ, suc, ◌+◌, ◌-◌, List, [], ◌∷◌, ◌++◌, length, map, take, drop, Bool, true, false, Option, Some, None, Ok, refl, sym, ◌∙◌, ap, ap₂, subst, inl, inr, arith}
use Rattle.std.specs.Prelude.{MatchBool, ◌&&◌, if◌then◌else◌}
use Rattle.std.proofs.{lemmas.Bool.both_ways, lemmas.List.drop-drop, Math.Seq.take-append_seam, Math.Seq.drop-append_seam}
use Rattle.hb_lex.proofs.{Forms.empty_none}
use Rattle.hb_lex.specs.declared.{kinds.TokenKind.TokenKind, spans.Token.Token}
use Rattle.hb_lex.specs.declared.kinds.TokenKind.TheVariants as k
use Rattle.hb_lex.specs.{Bytes.is_blank, Bytes.is_hash, Bytes.is_line_feed, Tokens.bytes_of, Tokens.kind_of, Tokens.excess, Text.Lexes, Text.separates, Text.token_at}
use Rattle.hb_tree.specs.Pieces.{Piece, line_end, spell, spell_behind}
use Rattle.hb_canonical.specs.Canonical.{HasPieces}
use Rattle.hb_canonical.proofs.JoinLemmas.{stops, begins, next}
use Rattle.hb_lex.proofs.{Runs.on_true, Runs.on_false, Standing.behind}

-- the bytes of a piece are a token of its kind, and one that is not too large
pub record IsToken (p : Piece) : Type 0 where
  pub token : kind_of p.bytes ≡ Some p.kind
  pub small : (at : ℕ) → excess p.kind at p.bytes ≡ None

-- a token, or a line feed behind a token that it separates
abbrev pub IsPiece : Option TokenKind → Piece → Type 0
IsPiece before p = IsToken p ⊎ ((p ≡ line_end) × (separates before ≡ true))

-- Behind a token, each of the pieces is one, and what is spelled behind it does not join it.
abbrev pub IsWell : Option TokenKind → List Piece → Type 0
IsWell before [] = Unit {0}
IsWell before (p ∷ ps) = IsPiece before p × (stops p.kind (spell_behind p.behind ps) ≡ true) × IsWell (Some p.kind) ps

-- what is read of a text at a place of the whole: the tokens that pieces say
record Reads (whole : List ℕ) (at : ℕ) (before : Option TokenKind) (text : List ℕ) (ps : List Piece) : Type 0 where
  steps : ℕ
  tokens : List Token
  lexes : Lexes steps at before text (Ok tokens)
  kinds : map (λ token. token.kind) tokens ≡ map (λ piece. piece.kind) ps
  bytes : map (bytes_of whole) tokens ≡ map (λ piece. piece.bytes) ps

-- ── one step ──

-- with a token in front
with_token : (whole : List ℕ) (at n : ℕ) (before : Option TokenKind) (text rest : List ℕ) (p : Piece) (ps : List Piece) → text ≡ drop at whole → take n text ≡ p.bytes
    → (r : Reads whole (at + n) (Some p.kind) rest ps) → Lexes (suc r.steps) at before text (Ok (token_at p.kind at n ∷ r.tokens)) → Reads whole at before text (p ∷ ps)
with_token whole at n before text rest p ps e bytes r lexes =
    let len : at + n - at ≡ n = omega arith in
    let here : bytes_of whole (token_at p.kind at n) ≡ p.bytes = ap (λ m. take m (drop at whole)) len ∙ ap (take n) (sym e) ∙ bytes in
    record {
      steps = suc r.steps;
      tokens = token_at p.kind at n ∷ r.tokens;
      lexes = lexes;
      kinds = ap (λ xs. p.kind ∷ xs) r.kinds;
      bytes = ap₂ (λ x xs. x ∷ xs) here r.bytes;
    }

-- a space in front
with_space : (b : Bool) (whole : List ℕ) (at : ℕ) (before : Option TokenKind) (front rest : List ℕ) (ps : List Piece) → ((if b then 32 ∷ [] else []) ++ front) ++ rest ≡ drop at whole
    → ((here : ℕ) → front ++ rest ≡ drop here whole → Reads whole here before (front ++ rest) ps) → Reads whole at before (((if b then 32 ∷ [] else []) ++ front) ++ rest) ps
with_space false whole at before front rest ps e f = f at e
with_space true whole at before front rest ps e f =
    let r : Reads whole (at + 1) before (front ++ rest) ps = f (at + 1) (behind whole at 1 (32 ∷ (front ++ rest)) e) in
    record { steps = suc r.steps; tokens = r.tokens; lexes = r.lexes; kinds = r.kinds; bytes = r.bytes }

-- a token of its kind in front
module _ (whole : List ℕ) (at : ℕ) (before : Option TokenKind) (p : Piece) (ps : List Piece) (rest : List ℕ) where
  token_front : (b : ℕ) (bs : List ℕ) → p.bytes ≡ b ∷ bs → IsToken p → stops p.kind rest ≡ true → b ∷ (bs ++ rest) ≡ drop at whole → (r : Reads whole (at + length (b ∷ bs)) (Some p.kind) rest ps)
      → Reads whole at before (b ∷ (bs ++ rest)) (p ∷ ps)
  token_front b bs e is stop place r =
      let n : ℕ = length (b ∷ bs) in
      let token : kind_of (b ∷ bs) ≡ Some p.kind = ap kind_of (sym e) ∙ is.token in
      let first : (is_blank b ≡ false) × ((is_hash b ≡ false) × (is_line_feed b ≡ false)) = begins p.kind b bs token in
      let bytes : take n (b ∷ (bs ++ rest)) ≡ b ∷ bs = take-append_seam (b ∷ bs) rest in
      let small : excess p.kind at (take n (b ∷ (bs ++ rest))) ≡ None = ap (excess p.kind at) (bytes ∙ sym e) ∙ is.small at in
      let P = λ (s : List ℕ). Lexes r.steps (at + n) (Some p.kind) s (Ok r.tokens) in
      let more : Lexes r.steps (at + n) (Some p.kind) (drop n (b ∷ (bs ++ rest))) (Ok r.tokens) = subst P (sym (drop-append_seam (b ∷ bs) rest)) r.lexes in
      let lexes : Lexes (suc r.steps) at before (b ∷ (bs ++ rest)) (Ok (token_at p.kind at n ∷ r.tokens)) =
      on_false (is_blank b) _ _ first.0 (on_false (is_hash b) _ _ first.1.0 (on_false (is_line_feed b) _ _ first.1.1
      (Ok (p.kind, n), (next p.kind b bs rest token stop, small), (Ok r.tokens, more, refl)))) in
      with_token whole at n before (b ∷ (bs ++ rest)) rest p ps place (bytes ∙ sym e) r lexes

  token_reads : (bytes : List ℕ) → p.bytes ≡ bytes → IsToken p → stops p.kind rest ≡ true → bytes ++ rest ≡ drop at whole
      → ((here : ℕ) → rest ≡ drop here whole → Reads whole here (Some p.kind) rest ps) → Reads whole at before (bytes ++ rest) (p ∷ ps)
  token_reads [] e is stop place f = let none : None ≡ Some p.kind = sym empty_none ∙ ap kind_of (sym e) ∙ is.token in absurd (cc none)
  token_reads (b ∷ bs) e is stop place f =
      let n : ℕ = length (b ∷ bs) in
      token_front b bs e is stop place (f (at + n) (sym (drop-append_seam (b ∷ bs) rest) ∙ behind whole at n (b ∷ (bs ++ rest)) place))

-- a line feed in front
feed_reads : (whole : List ℕ) (at : ℕ) (before : Option TokenKind) (ps : List Piece) (rest : List ℕ) → separates before ≡ true → 10 ∷ rest ≡ drop at whole
    → ((here : ℕ) → rest ≡ drop here whole → Reads whole here (Some k.Separator) rest ps) → Reads whole at before (10 ∷ rest) (line_end ∷ ps)
feed_reads whole at before ps rest splits place f =
    let r : Reads whole (at + 1) (Some k.Separator) rest ps = f (at + 1) (behind whole at 1 (10 ∷ rest) place) in
    let lexes : Lexes (suc r.steps) at before (10 ∷ rest) (Ok (token_at k.Separator at 1 ∷ r.tokens)) = on_true (separates before) _ _ splits (Ok r.tokens, r.lexes, refl) in
    with_token whole at 1 before (10 ∷ rest) rest line_end ps place refl r lexes

-- ── all pieces ──

reads : (whole : List ℕ) (at : ℕ) (spaced : Bool) (before : Option TokenKind) (ps : List Piece) → spell_behind spaced ps ≡ drop at whole → IsWell before ps → Reads whole at before (spell_behind spaced ps) ps
reads whole at spaced before [] e well = record { steps = 1; tokens = []; lexes = refl; kinds = refl; bytes = refl }
reads whole at spaced before (p ∷ ps) e (inl is, stop, well) =
    with_space (spaced && p.before) whole at before p.bytes (spell_behind p.behind ps) (p ∷ ps) e
    (λ here place. token_reads whole here before p ps (spell_behind p.behind ps) p.bytes refl is stop place
    (λ later place. reads whole later p.behind (Some p.kind) ps place well))
reads whole at spaced before (p ∷ ps) e (inr (is, splits), stop, well) =
    let Place = λ (q : Piece). spell_behind spaced (q ∷ ps) ≡ drop at whole in
    let Well = λ (q : Piece). IsWell (Some q.kind) ps in
    let Read = λ (q : Piece). Reads whole at before (spell_behind spaced (q ∷ ps)) (q ∷ ps) in
    let place : spell_behind spaced (line_end ∷ ps) ≡ drop at whole = subst Place is e in
    let more : IsWell (Some k.Separator) ps = subst Well is well in
    subst Read (sym is) (with_space (spaced && false) whole at before (10 ∷ []) (spell_behind false ps) (line_end ∷ ps) place
    (λ here place. feed_reads whole here before ps (spell_behind false ps) splits place
    (λ later place. reads whole later false (Some k.Separator) ps place more)))

-- Pieces that are well are the tokens of what they spell.
pub has_pieces : (ps : List Piece) → IsWell None ps → HasPieces (spell ps) ps
has_pieces ps well =
    let r : Reads (spell ps) 0 None (spell ps) ps = reads (spell ps) 0 false None ps refl well in
    record { tokens = r.tokens; tokens_are = (r.steps, r.lexes); kinds = r.kinds; bytes = r.bytes }
