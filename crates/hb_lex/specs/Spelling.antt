-- The tokens that are written in one way alone.
use Rattle.std.specs.Prelude.{ℕ, List, [], ◌∷◌, ◌++◌, codes, bytes_eq, find, Option}
use Rattle.hb_lex.specs.declared.kinds.TokenKind.{TokenKind}
use Rattle.hb_lex.specs.declared.kinds.TokenKind.TheVariants as k

-- how a keyword, a type word or a mark is written
abbrev pub spelling : TokenKind → List ℕ
spelling k.KwClass = codes "class"
spelling k.KwSetup = codes "setup"
spelling k.KwScript = codes "script"
spelling k.KwType = codes "type"
spelling k.KwTypeAsk = codes "type?"
spelling k.KwDef = codes "def"
spelling k.KwEnd = codes "end"
spelling k.KwIf = codes "if"
spelling k.KwThen = codes "then"
spelling k.KwElse = codes "else"
spelling k.KwWhile = codes "while"
spelling k.KwDo = codes "do"
spelling k.KwNil = codes "nil"
spelling k.KwTrue = codes "true"
spelling k.KwFalse = codes "false"
spelling k.KwSelf = codes "self"
spelling k.KwNew = codes "new"
spelling k.KwNot = codes "not"
spelling k.KwPrint = codes "print"
spelling k.KwStr = codes "str"
spelling k.TyNil = codes "Nil"
spelling k.TyBool = codes "Bool"
spelling k.TyInt = codes "Int"
spelling k.TyStr = codes "Str"
spelling k.TyAny = codes "Any"
spelling k.OpenParen = codes "("
spelling k.CloseParen = codes ")"
spelling k.Comma = codes ","
spelling k.Colon = codes ":"
spelling k.Dot = codes "."
spelling k.Assign = codes "="
spelling k.Equals = codes "=="
spelling k.Less = codes "<"
spelling k.Plus = codes "+"
spelling k.Minus = codes "-"
spelling k.Times = codes "*"
spelling k.Concat = codes "++"
spelling k.Arrow = codes "->"
spelling k.Separator = codes ";"
spelling _ = []

-- keywords and type words
unfoldable pub words : List TokenKind
words =
    k.KwClass ∷ k.KwSetup ∷ k.KwScript ∷ k.KwType ∷ k.KwDef ∷ k.KwEnd ∷ k.KwIf ∷ k.KwThen ∷
    k.KwElse ∷ k.KwWhile ∷ k.KwDo ∷ k.KwNil ∷ k.KwTrue ∷ k.KwFalse ∷ k.KwSelf ∷ k.KwNew ∷
    k.KwNot ∷ k.KwPrint ∷ k.KwStr ∷ k.TyNil ∷ k.TyBool ∷ k.TyInt ∷ k.TyStr ∷ k.TyAny ∷ []

-- marks and the separator that is no line feed, longer ones first
unfoldable pub marks : List TokenKind
marks =
    k.Equals ∷ k.Concat ∷ k.Arrow ∷ k.OpenParen ∷ k.CloseParen ∷ k.Comma ∷ k.Colon ∷ k.Dot ∷
    k.Assign ∷ k.Less ∷ k.Plus ∷ k.Minus ∷ k.Times ∷ k.Separator ∷ []

-- the kind among these that is written so
abbrev pub spelled : List TokenKind → List ℕ → Option TokenKind
spelled kinds bytes = find (λ kind. bytes_eq (spelling kind) bytes) kinds

-- the kind of a token that is written in one way alone
abbrev pub fixed : List ℕ → Option TokenKind
fixed bytes = spelled (k.KwTypeAsk ∷ words ++ marks) bytes
