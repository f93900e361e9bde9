-- What kind of token an action stands behind, where it looks at the token's bytes.
use Rattle.std.specs.Prelude.{◌≡◌, ℕ, List, Option, Some, None}
use Rattle.hb_lex.specs.declared.kinds.TokenKind.{TokenKind}
use Rattle.hb_lex.specs.declared.kinds.TokenKind.TheVariants as k
use Rattle.hb_lex.specs.Tokens.{excess, kind_of}
use Rattle.hb_grammar.specs.declared.actions.Action.{Action}
use Rattle.hb_grammar.specs.declared.actions.Action.TheVariants as a

abbrev pub needs : Action → Option TokenKind
needs a.DeclareClass = Some k.ClassName
needs a.HoldClass = Some k.ClassName
needs a.HoldClassType = Some k.ClassName
needs a.BeginScript = Some k.Name
needs a.HoldName = Some k.Name
needs a.HoldCall = Some k.Name
needs a.NameMethod = Some k.Name
needs a.HoldParameter = Some k.Name
needs a.PutNumber = Some k.Number
needs a.PutText = Some k.Text
needs _ = None

-- the bytes are a token of this kind, and it is not too large
pub record IsOfKind (kind : TokenKind) (bytes : List ℕ) : Type 0 where
  pub kind_is : kind_of bytes ≡ Some kind
  pub small : excess kind 0 bytes ≡ None

-- the bytes are such a token, where one is needed; a separator may be a line feed
abbrev pub HasToken : Option TokenKind → List ℕ → Type 0
HasToken None bytes = Unit {0}
HasToken (Some k.Separator) bytes = Unit {0}
HasToken (Some kind) bytes = IsOfKind kind bytes
