-- What holds of the grammar's table at each token, by computing.
use Rattle.std.proofs.Common.{◌≡◌, List, [], ◌∷◌, Bool, true, false, not, ◌&&◌, ◌||◌, Option, Some, None, refl, if◌then◌else◌}
use Rattle.std.specs.List.{list_all}
use Rattle.hb_lex.specs.declared.kinds.TokenKind.{TokenKind}
use Rattle.hb_lex.specs.declared.kinds.TokenKind.TheVariants as k
use Rattle.hb_grammar.specs.declared.{symbols.Sort.Sort, symbols.Symbol.Symbol, symbols.Symbol.TheVariants.Token as T, symbols.Symbol.TheVariants.Phrase as N}
use Rattle.hb_grammar.specs.declared.{symbols.Symbol.TheVariants.Action as A}
use Rattle.hb_grammar.specs.declared.symbols.Sort.TheVariants as g
use Rattle.hb_grammar.specs.Grammar.{alternatives}
use Rattle.hb_grammar.specs.Sight.{among, starts, may_begin, may_be_empty}

-- the tokens that may follow an expression, an operand of a sum, one of a product, one of a call
abbrev pub behind_expression : List TokenKind
behind_expression = k.KwEnd ∷ k.KwThen ∷ k.KwElse ∷ k.KwDo ∷ k.CloseParen ∷ k.Comma ∷ k.Separator ∷ []

abbrev pub behind_sum : List TokenKind
behind_sum = k.Less ∷ k.Equals ∷ behind_expression

abbrev pub behind_product : List TokenKind
behind_product = k.Plus ∷ k.Minus ∷ k.Concat ∷ behind_sum

abbrev pub behind_unary : List TokenKind
behind_unary = k.Times ∷ behind_product

abbrev pub behind_primary : List TokenKind
behind_primary = k.Dot ∷ behind_unary

-- the tokens that may follow a sort
abbrev pub followers : Sort → List TokenKind
followers g.Program = []
followers g.Classes = []
followers g.Scripts = []
followers g.Block = k.KwEnd ∷ k.KwElse ∷ []
followers g.Items = k.KwEnd ∷ k.KwElse ∷ []
followers g.MoreItems = k.KwEnd ∷ k.KwElse ∷ []
followers g.OtherUnary = behind_unary
followers g.Method = k.OpenParen ∷ k.Colon ∷ []
followers g.MethodName = k.OpenParen ∷ k.Colon ∷ []
followers g.Types = k.CloseParen ∷ []
followers g.MoreTypes = k.CloseParen ∷ []
followers g.MoreSum = behind_sum
followers g.Product = behind_product
followers g.MoreProduct = behind_product
followers g.Unary = behind_unary
followers g.Postfix = behind_unary
followers g.MorePostfix = behind_unary
followers g.Arguments = behind_primary
followers g.ArgumentList = k.CloseParen ∷ []
followers g.MoreArguments = k.CloseParen ∷ []
followers g.Primary = behind_primary
followers g.Value = behind_primary
followers g.ElsePart = behind_primary
followers g.Parameters = k.CloseParen ∷ []
followers g.MoreParameters = k.CloseParen ∷ []
followers _ = behind_expression

-- whether the token, or the end, may follow a sort
abbrev pub may_follow : Sort → Option TokenKind → Bool
may_follow g.Program None = true
may_follow g.Classes None = true
may_follow g.Scripts None = true
may_follow s sight = among (followers s) sight

abbrev pub implies : Bool → Bool → Bool
implies a b = not a || b

-- an alternative begins only as its sort may
abbrev pub is_start : Sort → Option TokenKind → List Symbol → Bool
is_start sort sight phrase = implies (may_begin phrase false sight) (among (starts sort) sight) && implies (may_begin phrase true sight) (among (starts sort) sight || may_be_empty sort)

-- at most one alternative may stand before this token, and it is the one that is chosen
abbrev pub none_begins : List (List Symbol) → Bool → Option TokenKind → Bool
none_begins [] follow sight = true
none_begins (phrase ∷ more) follow sight = not (may_begin phrase follow sight) && none_begins more follow sight

abbrev pub is_clear : List (List Symbol) → Bool → Option TokenKind → Bool
is_clear [] follow sight = true
is_clear (phrase ∷ []) follow sight = true
is_clear (phrase ∷ other ∷ more) follow sight = if may_begin phrase false sight then none_begins (other ∷ more) follow sight else (not (may_begin phrase follow sight) && is_clear (other ∷ more) follow sight)

-- each sort in an alternative is followed only by what may follow it
abbrev pub is_followed : List Symbol → Bool → Option TokenKind → Bool
is_followed [] follow sight = true
is_followed (T j ∷ stack) follow sight = is_followed stack follow sight
is_followed (A a ∷ stack) follow sight = is_followed stack follow sight
is_followed (N sort ∷ stack) follow sight = implies (may_begin stack follow sight) (may_follow sort sight) && is_followed stack follow sight

abbrev pub is_right : Option TokenKind → Sort → Bool
is_right sight sort =
    list_all (is_start sort sight) (alternatives sort)
    && is_clear (alternatives sort) (may_follow sort sight) sight
    && list_all (λ phrase. is_followed phrase (may_follow sort sight) sight) (alternatives sort)

abbrev pub sorts : List Sort
sorts = g.Program ∷ g.Classes ∷ g.Scripts ∷ g.Block ∷ g.Items ∷ g.MoreItems ∷ g.Expression ∷ g.AfterName ∷ g.OtherUnary ∷ g.Method ∷ g.MethodName ∷ g.Signature ∷ g.Types ∷ g.MoreTypes ∷
    g.TypeWord ∷ g.MoreComparison ∷ g.Sum ∷ g.MoreSum ∷ g.Product ∷ g.MoreProduct ∷ g.Unary ∷ g.Postfix ∷ g.MorePostfix ∷ g.Arguments ∷ g.ArgumentList ∷ g.MoreArguments ∷ g.Primary ∷ g.Value ∷
    g.ElsePart ∷ g.Parameters ∷ g.MoreParameters ∷ []

pub all_right : (sight : Option TokenKind) → list_all (is_right sight) sorts ≡ true
all_right (Some k.KwClass) = refl
all_right _ = refl
