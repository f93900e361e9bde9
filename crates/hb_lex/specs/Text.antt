-- The tokens of a text, or its first fault.
use Rattle.std.specs.Prelude.{◌≡◌, ◌⊎◌, ℕ, zero, suc, ◌+◌, List, [], ◌∷◌, length, take, drop, take_while, Bool, true, false, not, Option, Some, None, Result, Ok, Err, MatchResult, MatchBool, if◌then◌else◌}
use Rattle.hb_lex.specs.declared.{kinds.TokenKind.TokenKind, faults.LexFail.LexFail, spans.Token.Token}
use Rattle.hb_lex.specs.declared.kinds.TokenKind.TheVariants as k
use Rattle.hb_lex.specs.declared.faults.LexFail.TheVariants as fail
use Rattle.hb_lex.specs.Bytes.{is_blank, is_hash, is_line_feed, is_quote}
use Rattle.hb_lex.specs.{Literal.text_fault, Tokens.IsNext, Tokens.BeginsNone, Tokens.excess}

-- a line feed behind this token is a separator
abbrev pub separates : Option TokenKind → Bool
separates None = false
separates (Some k.Separator) = false
separates (Some k.OpenParen) = false
separates (Some k.Comma) = false
separates (Some k.Colon) = false
separates (Some k.Dot) = false
separates (Some k.Assign) = false
separates (Some k.Equals) = false
separates (Some k.Less) = false
separates (Some k.Plus) = false
separates (Some k.Minus) = false
separates (Some k.Times) = false
separates (Some k.Concat) = false
separates (Some k.Arrow) = false
separates (Some k.KwNot) = false
separates (Some k.KwPrint) = false
separates (Some _) = true

-- a `#` and what stands behind it, up to the next line feed or the end
abbrev pub comment_len : List ℕ → ℕ
comment_len text = length (take_while (λ b. not (is_line_feed b)) text)

abbrev pub token_at : TokenKind → ℕ → ℕ → Token
token_at kind at n = record { kind = kind; from = at; to = at + n }

-- the tokens of a text, or its first fault
abbrev pub Answer : Type 0
Answer = Result (List Token) LexFail

abbrev pub after : Token → Answer → Answer
after token (Ok tokens) = Ok (token ∷ tokens)
after token (Err fault) = Err fault

-- a token, and then what the text behind it has
abbrev pub Follows : Token → (Answer → Type 0) → Answer → Type 0
Follows token Behind answer = (more : Answer) × Behind more × (answer ≡ after token more)

-- the fault of a text that no token begins
abbrev pub front_fault : ℕ → List ℕ → Option LexFail
front_fault at [] = None
front_fault at (b ∷ text) = if is_quote b then text_fault at false (at + 1) text else Some (fail.BadByte at)

-- What stands at the front of a text: a token of a kind and a number of bytes, or a fault.
abbrev pub Front : Type 0
Front = Result (TokenKind × ℕ) LexFail

abbrev pub IsFront : ℕ → List ℕ → Front → Type 0
IsFront at text (Ok found) = IsNext text found.0 found.1 × (excess found.0 at (take found.1 text) ≡ None)
IsFront at text (Err fault) =
    ((kind : TokenKind) × (n : ℕ) × IsNext text kind n × (excess kind at (take n text) ≡ Some fault))
    ⊎ (BeginsNone text × (front_fault at text ≡ Some fault))

-- A token in front, and then what the text behind it has, or a fault in front.
abbrev pub AtFront : ℕ → List ℕ → (ℕ → TokenKind → Answer → Type 0) → Answer → Type 0
AtFront at text Behind answer =
    (front : Front) × IsFront at text front
    × MatchResult front (λ found. Follows (token_at found.0 at found.1) (Behind found.1 found.0) answer) (λ fault. answer ≡ Err fault)

-- what holds at a blank, at a comment, at a line feed and at any other byte
abbrev pub ByFirst : ℕ → Type 0 → Type 0 → Type 0 → Type 0 → Type 0
ByFirst b Blank Comment LineFeed Other =
    MatchBool (is_blank b) Blank (MatchBool (is_hash b) Comment (MatchBool (is_line_feed b) LineFeed Other))

-- The text behind `at` has this answer, where `before` is the token before it. The first number counts steps.
abbrev pub Lexes : ℕ → ℕ → Option TokenKind → List ℕ → Answer → Type 0
Lexes zero at before text answer = ⊥
Lexes (suc n) at before [] answer = answer ≡ Ok []
Lexes (suc n) at before (b ∷ text) answer =
    let m = comment_len (b ∷ text) in
    ByFirst b
    (Lexes n (at + 1) before text answer)
    (Lexes n (at + m) before (drop m (b ∷ text)) answer)
    (MatchBool (separates before)
    (Follows (token_at k.Separator at 1) (Lexes n (at + 1) (Some k.Separator) text) answer)
    (Lexes n (at + 1) before text answer))
    (AtFront at (b ∷ text) (λ size kind. Lexes n (at + size) (Some kind) (drop size (b ∷ text))) answer)

-- these are the tokens of the text
abbrev pub HasTokens : List ℕ → List Token → Type 0
HasTokens text tokens = (n : ℕ) × Lexes n 0 None text (Ok tokens)

-- the text has no tokens, and this is its first fault
abbrev pub HasFault : List ℕ → LexFail → Type 0
HasFault text fault = (n : ℕ) × Lexes n 0 None text (Err fault)
