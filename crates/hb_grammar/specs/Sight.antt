-- A run over tokens with one token of sight. It speaks of the steps of a course; `Language` says what the grammar means.
use Rattle.std.specs.Prelude.{◌≡◌, ℕ, zero, suc, ◌+◌, List, [], ◌∷◌, ◌++◌, Bool, true, false, ◌&&◌, ◌||◌, length, nat_eq, Option, Some, None, if◌then◌else◌}
use Rattle.hb_lex.specs.declared.kinds.TokenKind.{TokenKind}
use Rattle.hb_lex.specs.declared.kinds.TokenKind.TheVariants as k
use Rattle.hb_grammar.specs.{Grammar.alternatives, Language.Act, Language.act}
use Rattle.hb_grammar.specs.declared.{symbols.Sort.Sort, symbols.Symbol.Symbol, symbols.Symbol.TheVariants.Token as T, symbols.Symbol.TheVariants.Phrase as N}
use Rattle.hb_grammar.specs.declared.{symbols.Symbol.TheVariants.Action as A, wanted.Wanted.Wanted}
use Rattle.hb_grammar.specs.declared.symbols.Sort.TheVariants as g
use Rattle.hb_grammar.specs.declared.wanted.Wanted.TheVariants as want

-- kinds by numbers, so that they can be compared by computing
abbrev pub code : TokenKind → ℕ
code k.KwClass = 0
code k.KwSetup = 1
code k.KwScript = 2
code k.KwType = 3
code k.KwTypeAsk = 4
code k.KwDef = 5
code k.KwEnd = 6
code k.KwIf = 7
code k.KwThen = 8
code k.KwElse = 9
code k.KwWhile = 10
code k.KwDo = 11
code k.KwNil = 12
code k.KwTrue = 13
code k.KwFalse = 14
code k.KwSelf = 15
code k.KwNew = 16
code k.KwNot = 17
code k.KwPrint = 18
code k.KwStr = 19
code k.TyNil = 20
code k.TyBool = 21
code k.TyInt = 22
code k.TyStr = 23
code k.TyAny = 24
code k.OpenParen = 25
code k.CloseParen = 26
code k.Comma = 27
code k.Colon = 28
code k.Dot = 29
code k.Assign = 30
code k.Equals = 31
code k.Less = 32
code k.Plus = 33
code k.Minus = 34
code k.Times = 35
code k.Concat = 36
code k.Arrow = 37
code k.Name = 38
code k.ClassName = 39
code k.Number = 40
code k.Text = 41
code k.Separator = 42

abbrev pub kind_eq : TokenKind → TokenKind → Bool
kind_eq a b = nat_eq (code a) (code b)

abbrev pub front : List TokenKind → Option TokenKind
front [] = None
front (t ∷ ts) = Some t

abbrev pub is_kind : Option TokenKind → TokenKind → Bool
is_kind None j = false
is_kind (Some t) j = kind_eq t j

abbrev pub among : List TokenKind → Option TokenKind → Bool
among [] sight = false
among (j ∷ ks) sight = is_kind sight j || among ks sight

-- the sorts that may be empty
abbrev pub may_be_empty : Sort → Bool
may_be_empty g.Program = true
may_be_empty g.Classes = true
may_be_empty g.Scripts = true
may_be_empty g.Block = true
may_be_empty g.Items = true
may_be_empty g.MoreItems = true
may_be_empty g.Expression = false
may_be_empty g.AfterName = true
may_be_empty g.OtherUnary = false
may_be_empty g.Method = false
may_be_empty g.MethodName = false
may_be_empty g.Signature = false
may_be_empty g.Types = true
may_be_empty g.MoreTypes = true
may_be_empty g.TypeWord = false
may_be_empty g.MoreComparison = true
may_be_empty g.Sum = false
may_be_empty g.MoreSum = true
may_be_empty g.Product = false
may_be_empty g.MoreProduct = true
may_be_empty g.Unary = false
may_be_empty g.Postfix = false
may_be_empty g.MorePostfix = true
may_be_empty g.Arguments = true
may_be_empty g.ArgumentList = true
may_be_empty g.MoreArguments = true
may_be_empty g.Primary = false
may_be_empty g.Value = false
may_be_empty g.ElsePart = false
may_be_empty g.Parameters = true
may_be_empty g.MoreParameters = true

-- the tokens that a value begins with, but for a name; that an operand begins with; and that an expression does
abbrev pub value_starts : List TokenKind
value_starts = k.KwDef ∷ k.KwIf ∷ k.KwWhile ∷ k.KwNil ∷ k.KwTrue ∷ k.KwFalse ∷ k.KwSelf ∷ k.KwStr ∷ k.OpenParen ∷ k.ClassName ∷ k.Number ∷ k.Text ∷ []

abbrev pub operand_starts : List TokenKind
operand_starts = k.Name ∷ value_starts

abbrev pub expression_starts : List TokenKind
expression_starts = k.KwPrint ∷ k.KwType ∷ k.KwTypeAsk ∷ k.KwNot ∷ operand_starts

-- the tokens that a sort may begin with
abbrev pub starts : Sort → List TokenKind
starts g.Program = k.KwClass ∷ k.KwSetup ∷ k.KwScript ∷ k.Separator ∷ []
starts g.Classes = k.KwClass ∷ k.KwSetup ∷ k.KwScript ∷ k.Separator ∷ []
starts g.Scripts = k.KwScript ∷ k.Separator ∷ []
starts g.Block = k.Separator ∷ expression_starts
starts g.Items = k.Separator ∷ expression_starts
starts g.MoreItems = k.Separator ∷ []
starts g.Expression = expression_starts
starts g.AfterName = k.Dot ∷ k.Assign ∷ k.Equals ∷ k.Less ∷ k.Plus ∷ k.Minus ∷ k.Times ∷ k.Concat ∷ []
starts g.OtherUnary = k.KwNot ∷ value_starts
starts g.Method = k.ClassName ∷ []
starts g.MethodName = k.OpenParen ∷ k.Name ∷ []
starts g.Signature = k.OpenParen ∷ []
starts g.Types = k.TyNil ∷ k.TyBool ∷ k.TyInt ∷ k.TyStr ∷ k.TyAny ∷ k.ClassName ∷ []
starts g.MoreTypes = k.Comma ∷ []
starts g.TypeWord = k.TyNil ∷ k.TyBool ∷ k.TyInt ∷ k.TyStr ∷ k.TyAny ∷ k.ClassName ∷ []
starts g.MoreComparison = k.Equals ∷ k.Less ∷ []
starts g.Sum = k.KwNot ∷ operand_starts
starts g.MoreSum = k.Plus ∷ k.Minus ∷ k.Concat ∷ []
starts g.Product = k.KwNot ∷ operand_starts
starts g.MoreProduct = k.Times ∷ []
starts g.Unary = k.KwNot ∷ operand_starts
starts g.Postfix = operand_starts
starts g.MorePostfix = k.Dot ∷ []
starts g.Arguments = k.OpenParen ∷ []
starts g.ArgumentList = expression_starts
starts g.MoreArguments = k.Comma ∷ []
starts g.Primary = operand_starts
starts g.Value = value_starts
starts g.ElsePart = k.KwElse ∷ k.KwEnd ∷ []
starts g.Parameters = k.Name ∷ []
starts g.MoreParameters = k.Comma ∷ []

-- whether the symbols may begin with this token, where `rest` says whether what stands behind them may
abbrev pub may_begin : List Symbol → Bool → Option TokenKind → Bool
may_begin [] rest sight = rest
may_begin (T j ∷ stack) rest sight = is_kind sight j
may_begin (A a ∷ stack) rest sight = may_begin stack rest sight
may_begin (N s ∷ stack) rest sight = among (starts s) sight || (may_be_empty s && may_begin stack rest sight)

-- the first alternative that may begin with the token, or the last one
abbrev pub choice : List (List Symbol) → Option TokenKind → List Symbol
choice [] sight = []
choice (phrase ∷ []) sight = phrase
choice (phrase ∷ other ∷ more) sight = if may_begin phrase false sight then phrase else choice (other ∷ more) sight

-- how a token that is missing is named, where it stands for something that is wanted
abbrev pub wanted_for : TokenKind → Wanted
wanted_for k.KwClass = want.Item
wanted_for k.KwSetup = want.Item
wanted_for k.KwScript = want.Item
wanted_for k.KwType = want.Item
wanted_for k.KwTypeAsk = want.Item
wanted_for k.KwDef = want.Item
wanted_for k.KwEnd = want.End
wanted_for k.KwIf = want.Item
wanted_for k.KwThen = want.Then
wanted_for k.KwElse = want.Item
wanted_for k.KwWhile = want.Item
wanted_for k.KwDo = want.Do
wanted_for k.KwNil = want.Item
wanted_for k.KwTrue = want.Item
wanted_for k.KwFalse = want.Item
wanted_for k.KwSelf = want.Item
wanted_for k.KwNew = want.New
wanted_for k.KwNot = want.Item
wanted_for k.KwPrint = want.Item
wanted_for k.KwStr = want.Item
wanted_for k.TyNil = want.TypeWord
wanted_for k.TyBool = want.Item
wanted_for k.TyInt = want.Item
wanted_for k.TyStr = want.Item
wanted_for k.TyAny = want.Item
wanted_for k.OpenParen = want.Open
wanted_for k.CloseParen = want.Close
wanted_for k.Comma = want.Item
wanted_for k.Colon = want.Colon
wanted_for k.Dot = want.Dot
wanted_for k.Assign = want.Item
wanted_for k.Equals = want.Item
wanted_for k.Less = want.Item
wanted_for k.Plus = want.Item
wanted_for k.Minus = want.Item
wanted_for k.Times = want.Item
wanted_for k.Concat = want.Item
wanted_for k.Arrow = want.Arrow
wanted_for k.Name = want.Name
wanted_for k.ClassName = want.ClassName
wanted_for k.Number = want.Expression
wanted_for k.Text = want.Item
wanted_for k.Separator = want.Item

pub data Outcome : Type 0 where
  Unfinished : Outcome
  Done : Outcome
  Missed : Wanted → ℕ → Outcome

-- how the run ends: with the number of tokens that are left where it ends early. Actions do not change it
unfoldable pub run : ℕ → List Symbol → List TokenKind → Outcome
run zero stack tokens = Unfinished
run (suc n) [] [] = Done
run (suc n) [] (t ∷ ts) = Missed want.Item (length (t ∷ ts))
run (suc n) (T j ∷ stack) [] = Missed (wanted_for j) 0
run (suc n) (T j ∷ stack) (t ∷ ts) = if kind_eq t j then run n stack ts else Missed (wanted_for j) (length (t ∷ ts))
run (suc n) (A a ∷ stack) tokens = run n stack tokens
run (suc n) (N s ∷ stack) tokens = run n (choice (alternatives s) (front tokens) ++ stack) tokens

-- the run over the tokens with these symbols ahead ends so
pub record Runs (stack : List Symbol) (tokens : List TokenKind) (o : Outcome) : Type 0 where
  pub steps : ℕ
  pub ends : run steps stack tokens ≡ o

-- the actions on the way of the run, where `at` tokens were read before
unfoldable pub acts : ℕ → List Symbol → ℕ → List TokenKind → List Act
acts zero stack at tokens = []
acts (suc n) [] at tokens = []
acts (suc n) (T j ∷ stack) at [] = []
acts (suc n) (T j ∷ stack) at (t ∷ ts) = if kind_eq t j then acts n stack (at + 1) ts else []
acts (suc n) (A a ∷ stack) at tokens = act a at ∷ acts n stack at tokens
acts (suc n) (N s ∷ stack) at tokens = acts n (choice (alternatives s) (front tokens) ++ stack) at tokens

-- the run over the tokens with these symbols ahead does these actions and ends so
pub record Does (stack : List Symbol) (at : ℕ) (tokens : List TokenKind) (done : List Act) (o : Outcome) : Type 0 where
  pub steps : ℕ
  pub ends : run steps stack tokens ≡ o
  pub acts : acts steps stack at tokens ≡ done
