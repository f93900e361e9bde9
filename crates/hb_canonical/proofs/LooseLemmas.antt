-- Pieces round which a space stands, but for marks that join nothing.
use Rattle.std.proofs.Common.{◌≡◌, ℕ, ◌<◌, List, [], ◌∷◌, ◌++◌, length, get_or, Bool, true, false, Option, Some, None, refl, sym, ◌∙◌, ap, inl, inr, arith}
use Rattle.std.specs.Prelude.{◌&&◌, ◌||◌, nat_eq, if◌then◌else◌}
use Rattle.std.specs.List.{list_all, list_any, AllByRecursion}
use Rattle.std.proofs.lemmas.Bool.{and_parts, or_cases, both_ways, eqb-true}
use Rattle.hb_lex.specs.{Spelling.spelling, Tokens.kind_of, Tokens.excess, Text.separates}
use Rattle.hb_lex.specs.declared.kinds.TokenKind.{TokenKind}
use Rattle.hb_lex.specs.declared.kinds.TokenKind.TheVariants as k
use Rattle.hb_lex.proofs.Forms.{empty_none, kind_of_spelling}
use Rattle.hb_tree.specs.Pieces.{Piece, mark, joined_paren, line_end, spell_behind}
use Rattle.hb_canonical.proofs.{JoinLemmas.stops_at, JoinLemmas.stops, SpellLemmas.IsToken, SpellLemmas.IsPiece, SpellLemmas.IsWell}

-- the marks that join nothing behind them
abbrev joins_none : TokenKind → Bool
joins_none k.OpenParen = true
joins_none k.Dot = true
joins_none k.Separator = true
joins_none _ = false

-- the bytes that join nothing before them: the space, the line feed, `(`, `)`, `,`, `.` and `;`
abbrev apart : List ℕ
apart = 32 ∷ 10 ∷ 40 ∷ 41 ∷ 44 ∷ 46 ∷ 59 ∷ []

abbrev is_apart : ℕ → Bool
is_apart c = list_any (nat_eq c) apart

-- where no space may stand, the piece joins nothing
abbrev pub is_loose : Piece → Bool
is_loose p = (p.behind || joins_none p.kind) && (p.before || is_apart (get_or p.bytes 0 0))

-- ── what joins nothing ──

none_stops : (kind : TokenKind) (text : List ℕ) → joins_none kind ≡ true → stops kind text ≡ true
none_stops kind [] h = refl
none_stops k.OpenParen (c ∷ text) h = refl
none_stops k.Dot (c ∷ text) h = refl
none_stops k.Separator (c ∷ text) h = refl
none_stops _ (c ∷ text) h = absurd (both_ways false refl h)

apart_stop : (kind : TokenKind) → list_all (stops_at kind) apart ≡ true
apart_stop k.Name = refl
apart_stop _ = refl

any_all : (test : ℕ → Bool) (c : ℕ) (xs : List ℕ) → list_any (nat_eq c) xs ≡ true → list_all test xs ≡ true → test c ≡ true
any_all test c [] h all = absurd (both_ways false refl h)
any_all test c (x ∷ xs) h all = elim (or_cases (nat_eq c x) (list_any (nat_eq c) xs) h) [
  | inl is ↦ ap test (eqb-true c x is) ∙ (and_parts (test x) (list_all test xs) all).0
  | inr more ↦ any_all test c xs more (and_parts (test x) (list_all test xs) all).1
]

stops_apart : (kind : TokenKind) (c : ℕ) → is_apart c ≡ true → stops_at kind c ≡ true
stops_apart kind c h = any_all (stops_at kind) c apart h (apart_stop kind)

-- ── pieces that are read ──

-- the pieces are tokens, or line feeds behind tokens that they separate, and are loose
abbrev pub IsRead : Option TokenKind → List Piece → Type 0
IsRead before [] = Unit {0}
IsRead before (p ∷ ps) = IsPiece before p × (is_loose p ≡ true) × IsRead (Some p.kind) ps

piece_some : (before : Option TokenKind) (p : Piece) → IsPiece before p → 0 < length p.bytes
piece_some before p (inl is) = token_some p.bytes is.token
  where
    token_some : (bytes : List ℕ) → kind_of bytes ≡ Some p.kind → 0 < length bytes
    token_some [] h = let none : None ≡ Some p.kind = sym empty_none ∙ h in absurd (cc none)
    token_some (b ∷ bs) h = omega arith
piece_some before p (inr (is, splits)) = let bytes : p.bytes ≡ 10 ∷ [] = ap (λ q. q.bytes) is in omega (arith, ap length bytes)

stops_front : (kind : TokenKind) (b : Bool) (bytes rest : List ℕ) → 0 < length bytes → (b || is_apart (get_or bytes 0 0)) ≡ true → stops kind (((if b then 32 ∷ [] else []) ++ bytes) ++ rest) ≡ true
stops_front kind true bytes rest some h = stops_apart kind 32 refl
stops_front kind false [] rest some h = absurd (omega arith)
stops_front kind false (c ∷ cs) rest some h = stops_apart kind c h

stops_behind : (kind : TokenKind) (behind : Bool) (before : Option TokenKind) (ps : List Piece) → (behind || joins_none kind) ≡ true → IsRead before ps → stops kind (spell_behind behind ps) ≡ true
stops_behind kind behind before [] h read = refl
stops_behind kind false before (q ∷ ps) h read = none_stops kind (spell_behind false (q ∷ ps)) h
stops_behind kind true before (q ∷ ps) h (is, loose, read) =
    stops_front kind q.before q.bytes (spell_behind q.behind ps) (piece_some before q is) (and_parts (q.behind || joins_none q.kind) _ loose).1

-- such pieces do not join
pub well : (before : Option TokenKind) (ps : List Piece) → IsRead before ps → IsWell before ps
well before [] read = tt
well before (p ∷ ps) (is, loose, read) = (is, stops_behind p.kind p.behind (Some p.kind) ps (and_parts (p.behind || joins_none p.kind) _ loose).0 read, well (Some p.kind) ps read)

-- ── pieces of an expression ──

pub record IsPlain (p : Piece) : Type 0 where
  pub token : IsToken p
  pub loose : is_loose p ≡ true

abbrev pub ArePlain : List Piece → Type 0
ArePlain ps = AllByRecursion IsPlain ps

pub plain_mark : (kind : TokenKind) → 0 < length (spelling kind) → IsPlain (mark kind)
plain_mark kind some = record { token = record { token = kind_of_spelling kind some; small = λ at. small kind at some }; loose = loose kind }
  where
    small : (kind : TokenKind) (at : ℕ) → 0 < length (spelling kind) → excess kind at (spelling kind) ≡ None
    small k.Name at h = absurd (omega arith)
    small k.ClassName at h = absurd (omega arith)
    small k.Number at h = absurd (omega arith)
    small k.Text at h = absurd (omega arith)
    small _ at h = refl

    loose : (kind : TokenKind) → is_loose (mark kind) ≡ true
    loose k.Name = refl
    loose _ = refl

pub plain_paren : IsPlain joined_paren
plain_paren = record { token = record { token = kind_of_spelling k.OpenParen (omega arith); small = λ at. refl }; loose = refl }

-- the last token of pieces, or the one before them
abbrev pub last_kind : Option TokenKind → List Piece → Option TokenKind
last_kind before [] = before
last_kind before (p ∷ ps) = last_kind (Some p.kind) ps

-- a line feed behind the pieces separates
abbrev pub Ends : List Piece → Type 0
Ends ps = (before : Option TokenKind) → separates (last_kind before ps) ≡ true

pub ends_append : (ps qs : List Piece) → Ends qs → Ends (ps ++ qs)
ends_append [] qs h before = h before
ends_append (p ∷ ps) qs h before = ends_append ps qs h (Some p.kind)

-- ── lines ──

-- the pieces are read behind any token
abbrev pub AreLines : List Piece → Type 0
AreLines ps = (before : Option TokenKind) → IsRead before ps

pub lines_append : (ps qs : List Piece) → AreLines ps → AreLines qs → AreLines (ps ++ qs)
lines_append ps qs h g before = go before ps (h before)
  where
    go : (before : Option TokenKind) (ps : List Piece) → IsRead before ps → IsRead before (ps ++ qs)
    go before [] read = g before
    go before (p ∷ ps) (is, loose, read) = (is, loose, go (Some p.kind) ps read)

pub is_line : (ps : List Piece) → ArePlain ps → Ends ps → AreLines (ps ++ line_end ∷ [])
is_line ps plain ends before = go before ps plain (ends before)
  where
    go : (before : Option TokenKind) (ps : List Piece) → ArePlain ps → separates (last_kind before ps) ≡ true → IsRead before (ps ++ line_end ∷ [])
    go before [] plain splits = (inr (refl, splits), refl, tt)
    go before (p ∷ ps) plain splits = (inl plain.0.token, plain.0.loose, go (Some p.kind) ps plain.1 splits)
