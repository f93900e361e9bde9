-- The canonical text of a program.
use Rattle.std.specs.Prelude.{ℕ, ◌+◌, List, [], ◌∷◌, ◌++◌, map, Bool, nat_eq, nat_lt, if◌then◌else◌, codes, slice_get, Option, Some, None}
use Rattle.std.specs.{Option.option_map, Option.unwrap_or, List.flat_map, Fmt.signed_decimal}
use Rattle.hb_lex.specs.declared.kinds.TokenKind.{TokenKind}
use Rattle.hb_lex.specs.declared.kinds.TokenKind.TheVariants as k
use Rattle.hb_types.specs.declared.{ids.NameId.NameId, ids.NodeId.NodeId, types.Ty.Ty, types.MethodTy.MethodTy}
use Rattle.hb_types.specs.declared.types.Ty.TheVariants as ty
use Rattle.hb_types.specs.Types.{params_of as param_types_of}
use Rattle.hb_tree.specs.{Table.Table, Nodes.params_of, TreeAt.tree_at}
use Rattle.hb_tree.specs.declared.{node.Op.Op, parts.Body.Body}
use Rattle.hb_tree.specs.declared.node.Op.TheVariants as op
use Rattle.hb_tree.specs.Tree.{Tree, TNil, TTrue, TFalse, TSelf, TInt, TText, TVar, TNew, TAssign, TPrint, TToStr, TNot, TBinary, TIf, TWhile, TCall, TDef, TDefComputed}
use Rattle.hb_tree.specs.Tree.{TDeclare, TDeclareComputed, TBlock, Forest, NoTree, Trees}
use Rattle.hb_tree.specs.Pieces.{Piece, mark, joined_paren, line_end, word, spell}

-- the bytes that stand for one of a text's
abbrev pub escape : ℕ → List ℕ
escape b =
    if nat_eq b 34 then codes "\\\""
    else if nat_eq b 92 then codes "\\\\"
    else if nat_eq b 10 then codes "\\n"
    else if nat_eq b 9 then codes "\\t"
    else b ∷ []

abbrev pub quoted : List ℕ → List ℕ
quoted bytes = codes "\"" ++ flat_map escape bytes ++ codes "\""

-- the word or text with a number, and nothing where there is none
abbrev pub bytes_at : List (List ℕ) → ℕ → List ℕ
bytes_at words i = unwrap_or (slice_get words i) []

abbrev pub name_piece : Table → ℕ → Piece
name_piece t x = word k.Name (bytes_at t.names x)

abbrev pub class_piece : Table → ℕ → Piece
class_piece t c = word k.ClassName (bytes_at t.classes c)

abbrev pub op_kind : Op → TokenKind
op_kind op.Add = k.Plus
op_kind op.Sub = k.Minus
op_kind op.Mul = k.Times
op_kind op.Concat = k.Concat
op_kind op.Less = k.Less
op_kind op.Equal = k.Equals

-- How tightly an expression holds together: 1 for a comparison, 2 for a sum, 3 for a product, 4 for a `not`,
-- 5 for what stands alone, and 0 for an assignment, a `print` and a declaration, which are operands in parentheses only.
abbrev pub op_level : Op → ℕ
op_level op.Add = 2
op_level op.Sub = 2
op_level op.Mul = 3
op_level op.Concat = 2
op_level op.Less = 1
op_level op.Equal = 1

abbrev pub level : Tree → ℕ
level (TAssign id x e) = 0
level (TPrint id e) = 0
level (TDeclare id c m s q) = 0
level (TDeclareComputed id c e s q) = 0
level (TBinary id op a b) = op_level op
level (TNot id e) = 4
level _ = 5

-- the least level of an operand without parentheses: sums and products group to the left, comparisons do not group
abbrev pub least_left : Op → ℕ
least_left op.Less = 2
least_left op.Equal = 2
least_left op = op_level op

abbrev pub least_right : Op → ℕ
least_right op = op_level op + 1

-- these pieces of an expression, in parentheses where it is below the level
abbrev pub wrap : ℕ → Tree → List Piece → List Piece
wrap least e ps = if nat_lt (level e) least then (mark k.OpenParen ∷ (ps ++ mark k.CloseParen ∷ [])) else ps

-- one behind another, with a piece between each two
abbrev pub separated : Piece → List (List Piece) → List Piece
separated sep [] = []
separated sep (ps ∷ pss) = ps ++ flat_map (λ qs. sep ∷ qs) pss

-- `A.m`
abbrev pub named : Table → ℕ → ℕ → List Piece
named t c m = class_piece t c ∷ mark k.Dot ∷ name_piece t m ∷ []

-- `A.(e)`, with the pieces of `e`
abbrev pub computed : Table → ℕ → List Piece → List Piece
computed t c ps = class_piece t c ∷ mark k.Dot ∷ mark k.OpenParen ∷ (ps ++ mark k.CloseParen ∷ [])

abbrev pub type_piece : Table → Ty → Piece
type_piece t ty.Nil = mark k.TyNil
type_piece t ty.Bool = mark k.TyBool
type_piece t ty.Int = mark k.TyInt
type_piece t ty.Str = mark k.TyStr
type_piece t ty.Any = mark k.TyAny
type_piece t (ty.Class c) = class_piece t c.0

-- `: (T, T) -> T`
abbrev pub signature_of : Table → Option MethodTy → List Piece
signature_of t None = []
signature_of t (Some m) =
    mark k.Colon ∷ mark k.OpenParen ∷ separated (mark k.Comma) (map (λ y. type_piece t y ∷ []) (param_types_of m))
    ++ mark k.CloseParen ∷ mark k.Arrow ∷ type_piece t m.result ∷ []

abbrev pub signature : Table → ℕ → List Piece
signature t site = signature_of t (option_map (λ y. y.0) (slice_get t.types site))

-- `(x, y)`
abbrev pub parameters_of : Table → Option Body → List Piece
parameters_of t None = []
parameters_of t (Some b) =
    joined_paren ∷ separated (mark k.Comma) (map (λ x. name_piece t x ∷ []) (params_of b)) ++ mark k.CloseParen ∷ []

abbrev pub parameters : Table → ℕ → List Piece
parameters t site = parameters_of t (slice_get t.bodies site)

-- a call without arguments has no parentheses
abbrev pub arguments : List (List Piece) → List Piece
arguments [] = []
arguments pss = joined_paren ∷ (separated (mark k.Comma) pss ++ mark k.CloseParen ∷ [])

-- an empty block has no `else`
abbrev pub otherwise : Tree → List Piece → List Piece
otherwise (TBlock id NoTree) ps = []
otherwise block ps = mark k.KwElse ∷ ps

abbrev pub declares : Bool → TokenKind
declares asks = if asks then k.KwTypeAsk else k.KwType

-- the pieces of an expression or a block, without parentheses round it
abbrev mutual
  pub own : Table → Tree → List Piece
  own t (TNil id) = mark k.KwNil ∷ []
  own t (TTrue id) = mark k.KwTrue ∷ []
  own t (TFalse id) = mark k.KwFalse ∷ []
  own t (TSelf id) = mark k.KwSelf ∷ []
  own t (TInt id n) = word k.Number (signed_decimal n) ∷ []
  own t (TText id x) = word k.Text (quoted (bytes_at t.texts x)) ∷ []
  own t (TVar id x) = name_piece t x ∷ []
  own t (TNew id c) = class_piece t c ∷ mark k.Dot ∷ mark k.KwNew ∷ []
  own t (TAssign id x e) = name_piece t x ∷ mark k.Assign ∷ own t e
  own t (TPrint id e) = mark k.KwPrint ∷ own t e
  own t (TToStr id e) = mark k.KwStr ∷ joined_paren ∷ (own t e ++ mark k.CloseParen ∷ [])
  own t (TNot id e) = mark k.KwNot ∷ wrap 4 e (own t e)
  own t (TBinary id op a b) = wrap (least_left op) a (own t a) ++ mark (op_kind op) ∷ wrap (least_right op) b (own t b)
  own t (TIf id c a b) =
      mark k.KwIf ∷ own t c ++ mark k.KwThen ∷ own t a ++ otherwise b (own t b) ++ mark k.KwEnd ∷ []
  own t (TWhile id c b) = mark k.KwWhile ∷ own t c ++ mark k.KwDo ∷ own t b ++ mark k.KwEnd ∷ []
  own t (TCall id r m args) = wrap 5 r (own t r) ++ mark k.Dot ∷ name_piece t m ∷ arguments (each t args)
  own t (TDef id c m s b) = mark k.KwDef ∷ named t c m ++ parameters t s ++ own t b ++ mark k.KwEnd ∷ []
  own t (TDefComputed id c e s b) =
      mark k.KwDef ∷ computed t c (own t e) ++ parameters t s ++ own t b ++ mark k.KwEnd ∷ []
  own t (TDeclare id c m s q) = mark (declares q) ∷ named t c m ++ signature t s
  own t (TDeclareComputed id c e s q) = mark (declares q) ∷ computed t c (own t e) ++ signature t s
  own t (TBlock id es) = separated (mark k.Separator) (each t es)

  pub each : Table → Forest → List (List Piece)
  each t NoTree = []
  each t (Trees e es) = own t e ∷ each t es

abbrev pub line : List Piece → List Piece
line ps = ps ++ line_end ∷ []

-- the items of the setup's or of a script's block, each on a line, and the `end`
abbrev pub lines_of : Table → Tree → List Piece
lines_of t (TBlock id es) = flat_map line (each t es) ++ line (mark k.KwEnd ∷ [])
lines_of t _ = []

abbrev pub class_line : List ℕ → List Piece
class_line name = line (mark k.KwClass ∷ word k.ClassName name ∷ [])

abbrev pub setup_lines : Table → Option NodeId → List Piece
setup_lines t None = []
setup_lines t (Some block) = line (mark k.KwSetup ∷ []) ++ lines_of t (tree_at t block.0)

abbrev pub script_lines : Table → NameId × NodeId → List Piece
script_lines t script = line (mark k.KwScript ∷ name_piece t script.0.0 ∷ []) ++ lines_of t (tree_at t script.1.0)

-- the pieces of a program
abbrev pub pieces_of : Table → List Piece
pieces_of t = flat_map class_line t.classes ++ setup_lines t t.setup ++ flat_map (script_lines t) t.scripts

-- its canonical text
abbrev pub canon : Table → List ℕ
canon t = spell (pieces_of t)
