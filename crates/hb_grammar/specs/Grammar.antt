-- The grammar of the language, by kinds of tokens: each sort of phrase has its alternatives.
--
-- A sort whose name begins with `More` is what may go on behind a phrase. A name at the front of an expression is
-- a sort of its own, `AfterName`, so that one token tells the alternatives apart. An action stands where it is done:
-- behind the token that it is about, or where a node is complete.
use Rattle.std.specs.Prelude.{List, [], ◌∷◌, true, false}
use Rattle.hb_lex.specs.declared.kinds.TokenKind.TheVariants as k
use Rattle.hb_tree.specs.declared.node.Op.TheVariants as op
use Rattle.hb_types.specs.declared.types.Ty.TheVariants as ty
use Rattle.hb_grammar.specs.declared.actions.Action.TheVariants as a
use Rattle.hb_grammar.specs.declared.{symbols.Sort.Sort, symbols.Symbol.Symbol, symbols.Symbol.TheVariants.Token as T, symbols.Symbol.TheVariants.Phrase as N}
use Rattle.hb_grammar.specs.declared.{symbols.Symbol.TheVariants.Action as A}
use Rattle.hb_grammar.specs.declared.symbols.Sort.TheVariants as g

abbrev pub alternatives : Sort → List (List Symbol)
alternatives g.Program = (N g.Classes ∷ []) ∷ []
alternatives g.Classes =
    (T k.Separator ∷ N g.Classes ∷ [])
    ∷ (T k.KwClass ∷ T k.ClassName ∷ A a.DeclareClass ∷ N g.Classes ∷ [])
    ∷ (T k.KwSetup ∷ A a.BeginSetup ∷ N g.Block ∷ T k.KwEnd ∷ A a.EndBlock ∷ A a.EndSetup ∷ N g.Scripts ∷ [])
    ∷ (T k.KwScript ∷ T k.Name ∷ A a.BeginScript ∷ N g.Block ∷ T k.KwEnd ∷ A a.EndBlock ∷ A a.EndScript ∷ N g.Scripts ∷ [])
    ∷ [] ∷ []
alternatives g.Scripts =
    (T k.Separator ∷ N g.Scripts ∷ [])
    ∷ (T k.KwScript ∷ T k.Name ∷ A a.BeginScript ∷ N g.Block ∷ T k.KwEnd ∷ A a.EndBlock ∷ A a.EndScript ∷ N g.Scripts ∷ [])
    ∷ [] ∷ []
alternatives g.Block = (A a.BeginBlock ∷ N g.Items ∷ []) ∷ []
alternatives g.Items =
    (T k.Separator ∷ N g.Items ∷ [])
    ∷ (N g.Expression ∷ A a.AddItem ∷ N g.MoreItems ∷ [])
    ∷ [] ∷ []
alternatives g.MoreItems = (T k.Separator ∷ N g.Items ∷ []) ∷ [] ∷ []
alternatives g.Expression =
    (T k.Name ∷ A a.HoldName ∷ N g.AfterName ∷ [])
    ∷ (T k.KwPrint ∷ A a.OpenWord ∷ N g.Expression ∷ A a.PutPrint ∷ [])
    ∷ (T k.KwType ∷ A a.HoldDeclare ∷ N g.Method ∷ T k.Colon ∷ N g.Signature ∷ A (a.PutDeclare false) ∷ [])
    ∷ (T k.KwTypeAsk ∷ A a.HoldDeclare ∷ N g.Method ∷ T k.Colon ∷ N g.Signature ∷ A (a.PutDeclare true) ∷ [])
    ∷ (N g.OtherUnary ∷ N g.MoreProduct ∷ N g.MoreSum ∷ N g.MoreComparison ∷ []) ∷ []
alternatives g.AfterName =
    (T k.Assign ∷ A a.OpenAssign ∷ N g.Expression ∷ A a.PutAssign ∷ [])
    ∷ (A a.PutVariable ∷ N g.MorePostfix ∷ N g.MoreProduct ∷ N g.MoreSum ∷ N g.MoreComparison ∷ []) ∷ []
alternatives g.OtherUnary =
    (T k.KwNot ∷ A a.OpenWord ∷ N g.Unary ∷ A a.PutNot ∷ [])
    ∷ (N g.Value ∷ N g.MorePostfix ∷ []) ∷ []
alternatives g.Method = (T k.ClassName ∷ A a.HoldClass ∷ T k.Dot ∷ N g.MethodName ∷ []) ∷ []
alternatives g.MethodName =
    (T k.OpenParen ∷ A a.Open ∷ N g.Expression ∷ T k.CloseParen ∷ A a.Close ∷ A a.ComputeMethod ∷ [])
    ∷ (T k.Name ∷ A a.NameMethod ∷ []) ∷ []
alternatives g.Signature =
    (T k.OpenParen ∷ A a.Open ∷ N g.Types ∷ T k.CloseParen ∷ A a.Close ∷ T k.Arrow ∷ N g.TypeWord ∷ []) ∷ []
alternatives g.Types = (N g.TypeWord ∷ A a.AddParameterType ∷ N g.MoreTypes ∷ []) ∷ [] ∷ []
alternatives g.MoreTypes = (T k.Comma ∷ N g.TypeWord ∷ A a.AddParameterType ∷ N g.MoreTypes ∷ []) ∷ [] ∷ []
alternatives g.TypeWord =
    (T k.ClassName ∷ A a.HoldClassType ∷ [])
    ∷ (T k.TyBool ∷ A (a.HoldType ty.Bool) ∷ [])
    ∷ (T k.TyInt ∷ A (a.HoldType ty.Int) ∷ [])
    ∷ (T k.TyStr ∷ A (a.HoldType ty.Str) ∷ [])
    ∷ (T k.TyAny ∷ A (a.HoldType ty.Any) ∷ [])
    ∷ (T k.TyNil ∷ A (a.HoldType ty.Nil) ∷ []) ∷ []
alternatives g.MoreComparison =
    (T k.Less ∷ A a.HoldOperator ∷ N g.Sum ∷ A (a.PutBinary op.Less) ∷ [])
    ∷ (T k.Equals ∷ A a.HoldOperator ∷ N g.Sum ∷ A (a.PutBinary op.Equal) ∷ [])
    ∷ [] ∷ []
alternatives g.Sum = (N g.Product ∷ N g.MoreSum ∷ []) ∷ []
alternatives g.MoreSum =
    (T k.Plus ∷ A a.HoldOperator ∷ N g.Product ∷ A (a.PutBinary op.Add) ∷ N g.MoreSum ∷ [])
    ∷ (T k.Minus ∷ A a.HoldOperator ∷ N g.Product ∷ A (a.PutBinary op.Sub) ∷ N g.MoreSum ∷ [])
    ∷ (T k.Concat ∷ A a.HoldOperator ∷ N g.Product ∷ A (a.PutBinary op.Concat) ∷ N g.MoreSum ∷ [])
    ∷ [] ∷ []
alternatives g.Product = (N g.Unary ∷ N g.MoreProduct ∷ []) ∷ []
alternatives g.MoreProduct =
    (T k.Times ∷ A a.HoldOperator ∷ N g.Unary ∷ A (a.PutBinary op.Mul) ∷ N g.MoreProduct ∷ [])
    ∷ [] ∷ []
alternatives g.Unary = (T k.KwNot ∷ A a.OpenWord ∷ N g.Unary ∷ A a.PutNot ∷ []) ∷ (N g.Postfix ∷ []) ∷ []
alternatives g.Postfix = (N g.Primary ∷ N g.MorePostfix ∷ []) ∷ []
alternatives g.MorePostfix =
    (T k.Dot ∷ T k.Name ∷ A a.HoldCall ∷ N g.Arguments ∷ A a.PutCall ∷ N g.MorePostfix ∷ [])
    ∷ [] ∷ []
alternatives g.Arguments =
    (T k.OpenParen ∷ A a.Open ∷ N g.ArgumentList ∷ T k.CloseParen ∷ A a.Close ∷ [])
    ∷ [] ∷ []
alternatives g.ArgumentList = (N g.Expression ∷ A a.AddArgument ∷ N g.MoreArguments ∷ []) ∷ [] ∷ []
alternatives g.MoreArguments =
    (T k.Comma ∷ N g.Expression ∷ A a.AddArgument ∷ N g.MoreArguments ∷ [])
    ∷ [] ∷ []
alternatives g.Primary = (T k.Name ∷ A a.HoldName ∷ A a.PutVariable ∷ []) ∷ (N g.Value ∷ []) ∷ []
alternatives g.Value =
    (T k.Text ∷ A a.PutText ∷ [])
    ∷ (T k.KwNil ∷ A a.PutNil ∷ [])
    ∷ (T k.KwTrue ∷ A (a.PutBoolean true) ∷ [])
    ∷ (T k.KwFalse ∷ A (a.PutBoolean false) ∷ [])
    ∷ (T k.KwSelf ∷ A a.PutSelf ∷ [])
    ∷ (T k.ClassName ∷ A a.HoldClass ∷ T k.Dot ∷ T k.KwNew ∷ A a.PutNew ∷ [])
    ∷ (T k.OpenParen ∷ A a.Open ∷ N g.Expression ∷ T k.CloseParen ∷ A a.Close ∷ [])
    ∷ (T k.KwStr ∷ A a.HoldStr ∷ T k.OpenParen ∷ A a.Open ∷ N g.Expression ∷ T k.CloseParen ∷ A a.Close ∷ A a.PutStr ∷ [])
    ∷ (T k.KwIf ∷ A a.OpenWord ∷ N g.Expression ∷ T k.KwThen ∷ N g.Block ∷ N g.ElsePart ∷ A a.PutIf ∷ [])
    ∷ (T k.KwWhile ∷ A a.OpenWord ∷ N g.Expression ∷ T k.KwDo ∷ N g.Block ∷ T k.KwEnd ∷ A a.EndBlock ∷ A a.PutWhile ∷ [])
    ∷ (T k.KwDef ∷ A a.OpenWord ∷ N g.Method ∷ T k.OpenParen ∷ A a.Open ∷ N g.Parameters ∷ T k.CloseParen ∷ A a.Close ∷ A a.BeginBody ∷ N g.Block ∷ T k.KwEnd ∷ A a.EndBlock ∷ A a.PutDef ∷ [])
    ∷ (T k.Number ∷ A a.PutNumber ∷ []) ∷ []
alternatives g.ElsePart =
    (T k.KwElse ∷ A a.EndBlock ∷ N g.Block ∷ T k.KwEnd ∷ A a.EndBlock ∷ [])
    ∷ (T k.KwEnd ∷ A a.EndBlock ∷ A a.BeginBlock ∷ A a.EndBlock ∷ []) ∷ []
alternatives g.Parameters = (T k.Name ∷ A a.HoldParameter ∷ N g.MoreParameters ∷ []) ∷ [] ∷ []
alternatives g.MoreParameters =
    (T k.Comma ∷ T k.Name ∷ A a.HoldParameter ∷ N g.MoreParameters ∷ [])
    ∷ [] ∷ []
