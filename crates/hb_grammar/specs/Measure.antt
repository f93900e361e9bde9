-- What is left to do of a run over tokens: each turn leaves less.
use Rattle.std.specs.Prelude.{ℕ, ◌+◌, ◌*◌, ◌-◌, List, [], ◌∷◌, Bool, false, Option, length, if◌then◌else◌}
use Rattle.hb_lex.specs.declared.kinds.TokenKind.{TokenKind}
use Rattle.hb_grammar.specs.{Sight.is_kind, Sight.front, Course.Course, Course.left}
use Rattle.hb_grammar.specs.declared.{symbols.Sort.Sort, symbols.Symbol.Symbol, symbols.Symbol.TheVariants.Token as T, symbols.Symbol.TheVariants.Phrase as N}
use Rattle.hb_grammar.specs.declared.{symbols.Symbol.TheVariants.Action as A}
use Rattle.hb_grammar.specs.declared.symbols.Sort.TheVariants as g

-- how many turns a phrase may take, at most, before it reads a token
abbrev pub weight : Sort → ℕ
weight g.Program = 2
weight g.Classes = 1
weight g.Scripts = 1
weight g.Block = 14
weight g.Items = 12
weight g.MoreItems = 1
weight g.Expression = 9
weight g.AfterName = 6
weight g.OtherUnary = 5
weight g.Method = 7
weight g.MethodName = 3
weight g.Signature = 15
weight g.Types = 6
weight g.MoreTypes = 1
weight g.TypeWord = 3
weight g.MoreComparison = 1
weight g.Sum = 11
weight g.MoreSum = 1
weight g.Product = 9
weight g.MoreProduct = 1
weight g.Unary = 7
weight g.Postfix = 6
weight g.MorePostfix = 1
weight g.Arguments = 1
weight g.ArgumentList = 12
weight g.MoreArguments = 1
weight g.Primary = 4
weight g.Value = 3
weight g.ElsePart = 5
weight g.Parameters = 1
weight g.MoreParameters = 1

abbrev pub weights : List Symbol → ℕ
weights [] = 0
weights (T j ∷ stack) = 1 + weights stack
weights (A a ∷ stack) = 1 + weights stack
weights (N s ∷ stack) = weight s + weights stack

-- the first symbol is the token in sight
abbrev pub is_next : List Symbol → Option TokenKind → Bool
is_next [] sight = false
is_next (T j ∷ stack) sight = is_kind sight j
is_next (A a ∷ stack) sight = false
is_next (N s ∷ stack) sight = false

-- what is left to do of a run
unfoldable pub potential : List Symbol → List TokenKind → ℕ
potential stack tokens = if is_next stack (front tokens) then 40 * (length tokens - 1) + weights stack else 40 * length tokens + weights stack

-- what is left to do of a course
abbrev pub size : Course → ℕ
size c = potential c.ahead (left c)
