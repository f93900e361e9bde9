-- The tokens of a text, as pieces say them.
use Rattle.std.specs.Prelude.{◌≡◌, ℕ, List, map}
use Rattle.hb_lex.specs.{Text.HasTokens, Tokens.bytes_of}
use Rattle.hb_lex.specs.declared.spans.Token.{Token}
use Rattle.hb_tree.specs.Pieces.{Piece}

-- the text's tokens have the kinds and the bytes of these pieces, one by one
pub record HasPieces (text : List ℕ) (pieces : List Piece) : Type 0 where
  pub tokens : List Token
  pub tokens_are : HasTokens text tokens
  pub kinds : map (λ token. token.kind) tokens ≡ map (λ piece. piece.kind) pieces
  pub bytes : map (bytes_of text) tokens ≡ map (λ piece. piece.bytes) pieces
