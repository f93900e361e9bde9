-- Tokens as they are written, and the spaces between them.
use Rattle.std.specs.Prelude.{ℕ, List, [], ◌∷◌, ◌++◌, Bool, true, false, ◌&&◌, if◌then◌else◌}
use Rattle.hb_lex.specs.declared.kinds.TokenKind.{TokenKind}
use Rattle.hb_lex.specs.declared.kinds.TokenKind.TheVariants as k
use Rattle.hb_lex.specs.Spelling.{spelling}

-- a token, its bytes, and whether a space may stand before and behind it
pub record Piece : Type 0 where
  pub kind : TokenKind
  pub bytes : List ℕ
  pub before : Bool
  pub behind : Bool

abbrev pub may_follow_space : TokenKind → Bool
may_follow_space k.CloseParen = false
may_follow_space k.Comma = false
may_follow_space k.Dot = false
may_follow_space k.Separator = false
may_follow_space _ = true

abbrev pub may_precede_space : TokenKind → Bool
may_precede_space k.OpenParen = false
may_precede_space k.Dot = false
may_precede_space _ = true

-- a keyword, a type word, a mark or `;`
abbrev pub mark : TokenKind → Piece
mark kind = record { kind = kind; bytes = spelling kind; before = may_follow_space kind; behind = may_precede_space kind }

-- the `(` of arguments, of parameters and of `str`
abbrev pub joined_paren : Piece
joined_paren = record (mark k.OpenParen) { before = false }

-- a line feed
abbrev pub line_end : Piece
line_end = record { kind = k.Separator; bytes = 10 ∷ []; before = false; behind = false }

-- a name, the name of a class, a number or a text
abbrev pub word : TokenKind → List ℕ → Piece
word kind bytes = record { kind = kind; bytes = bytes; before = true; behind = true }

-- the bytes of pieces, behind one that may precede a space or may not
abbrev pub spell_behind : Bool → List Piece → List ℕ
spell_behind spaced [] = []
spell_behind spaced (p ∷ ps) = (if spaced && p.before then 32 ∷ [] else []) ++ p.bytes ++ spell_behind p.behind ps

abbrev pub spell : List Piece → List ℕ
spell ps = spell_behind false ps
