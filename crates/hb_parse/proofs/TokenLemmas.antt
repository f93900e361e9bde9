-- What is known of the tokens of a text.
use Rattle.std.proofs.Common.{◌≡◌, ◌⊎◌, inl, inr, Bool, ℕ, List, [], ◌∷◌, Some, None, true, false, if◌then◌else◌, refl}
use Rattle.hb_lex.specs.declared.{kinds.TokenKind.TokenKind, faults.LexFail.LexFail, spans.Token.Token}
use Rattle.hb_lex.specs.declared.kinds.TokenKind.TheVariants as k
use Rattle.hb_lex.specs.Tokens.{Stands, bytes_of, excess, kind_of}
use Rattle.hb_build.specs.Needs.{HasToken}
use Rattle.hb_build.proofs.NodeLemmas.{some_not_none}

-- whether a token is too large does not hang on its place
passes : (many : Bool) (a b : LexFail) → (if many then Some a else None) ≡ None → (if many then Some b else None) ≡ None
passes true a b e = absurd (some_not_none e)
passes false a b e = refl

excess-any : (kind : TokenKind) (a b : ℕ) (bytes : List ℕ) → excess kind a bytes ≡ None → excess kind b bytes ≡ None
excess-any k.Name a b bytes e = passes _ _ _ e
excess-any k.ClassName a b bytes e = passes _ _ _ e
excess-any k.Number a b bytes e = passes _ _ _ e
excess-any k.Text a b bytes e = passes _ _ _ e
excess-any _ _ _ _ _ = refl

-- no separator is another kind
has-kind : (kind : TokenKind) (bytes : List ℕ) → (kind_of bytes ≡ Some kind) ⊎ ((bytes ≡ 10 ∷ []) × (kind ≡ k.Separator)) → excess kind 0 bytes ≡ None → HasToken (Some kind) bytes
has-kind k.Separator bytes h e = tt
has-kind _ bytes (inr h) e = absurd (cc (h.1))
has-kind _ _ (inl h) e = record { kind_is = h; small = e }

pub token-has : (text : List ℕ) (token : Token) → Stands text token → HasToken (Some token.kind) (bytes_of text token)
token-has text token stands = has-kind token.kind (bytes_of text token) stands.kind (excess-any token.kind token.from 0 (bytes_of text token) stands.small)
