-- What bytes are a token.
use Rattle.std.specs.Prelude.{◌≡◌, ◌≤◌, ◌<◌, ℕ, List, [], ◌∷◌, length, take, slice_range, Bool, false, ◌&&◌, nat_lt, Option, Some, None, if◌then◌else◌, ◌⊎◌}
use Rattle.std.specs.{Option.option_or, List.list_all}
use Rattle.hb_lex.specs.declared.{kinds.TokenKind.TokenKind, faults.LexFail.LexFail, spans.Token.Token}
use Rattle.hb_lex.specs.declared.kinds.TokenKind.TheVariants as k
use Rattle.hb_lex.specs.declared.faults.LexFail.TheVariants as fail
use Rattle.hb_lex.specs.{Bytes.is_small, Bytes.is_capital, Bytes.is_word_byte, Spelling.fixed, Sizes.longest_name, Sizes.longest_text, Sizes.greatest_number}
use Rattle.hb_lex.specs.Literal.{is_number, is_text, value_of_number, value_of_text}

-- a first byte of this sort, then letters, digits and `_`
abbrev pub is_word : (ℕ → Bool) → List ℕ → Bool
is_word is_first [] = false
is_word is_first (b ∷ bytes) = is_first b && list_all is_word_byte bytes

-- the kind of a token that may be written in many ways
abbrev pub formed : List ℕ → Option TokenKind
formed bytes =
    if is_word is_small bytes then Some k.Name
    else if is_word is_capital bytes then Some k.ClassName
    else if is_number bytes then Some k.Number
    else if is_text bytes then Some k.Text
    else None

-- the kind of token that these bytes are, where they are one
unfoldable pub kind_of : List ℕ → Option TokenKind
kind_of bytes = option_or (fixed bytes) (formed bytes)

-- the first n bytes are a token of this kind, and no longer front of the text is a token
pub record IsNext (text : List ℕ) (kind : TokenKind) (n : ℕ) : Type 0 where
  pub within : n ≤ length text
  pub token : kind_of (take n text) ≡ Some kind
  pub longest : (m : ℕ) → n < m → m ≤ length text → kind_of (take m text) ≡ None

-- no token begins the text
abbrev pub BeginsNone : List ℕ → Type 0
BeginsNone text = (m : ℕ) → m ≤ length text → kind_of (take m text) ≡ None

-- the fault of a whole token at `at` that is too large
abbrev pub excess : TokenKind → ℕ → List ℕ → Option LexFail
excess k.Name at bytes = if nat_lt longest_name (length bytes) then Some (fail.LongName at) else None
excess k.ClassName at bytes = if nat_lt longest_name (length bytes) then Some (fail.LongName at) else None
excess k.Number at bytes = if nat_lt greatest_number (value_of_number bytes) then Some (fail.BigNumber at) else None
excess k.Text at bytes = if nat_lt longest_text (length (value_of_text bytes)) then Some (fail.LongLiteral at) else None
excess _ at bytes = None

-- the bytes of a token
abbrev pub bytes_of : List ℕ → Token → List ℕ
bytes_of text token = slice_range text token.from token.to

-- a token's bytes stand in the text and are one of its kind, within the limits
pub record Stands (text : List ℕ) (token : Token) : Type 0 where
  pub some : token.from < token.to
  pub within : token.to ≤ length text
  pub kind : (kind_of (bytes_of text token) ≡ Some token.kind) ⊎ ((bytes_of text token ≡ 10 ∷ []) × (token.kind ≡ k.Separator))
  pub small : excess token.kind token.from (bytes_of text token) ≡ None

-- each token begins where the one before ends, or later
abbrev pub AreInOrder : ℕ → List Token → Type 0
AreInOrder at [] = Unit {0}
AreInOrder at (token ∷ tokens) = (at ≤ token.from) × AreInOrder token.to tokens
