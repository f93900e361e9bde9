-- What lies on the pile where a symbol of the grammar stands, and what it leaves there.
use Rattle.std.specs.Prelude.{List, [], ◌∷◌}
use Rattle.hb_types.specs.declared.types.Ty.TheVariants as ty
use Rattle.hb_grammar.specs.declared.{actions.Action.Action, symbols.Sort.Sort}
use Rattle.hb_grammar.specs.declared.actions.Action.TheVariants as a
use Rattle.hb_grammar.specs.declared.symbols.Sort.TheVariants as g

-- A pile is seen as a list of tags, the last first.
pub data Tag : Type 0 where
  Operand : Tag
  Closed : Tag
  Own : Tag
  Declaring : Tag
  Word : Tag
  Target : Tag
  OfClass : Tag
  OfType : Tag
  -- a block that began, and the items that it has so far
  Items : Tag
  -- a call to come, and the arguments that it has so far
  Arguments : Tag
  -- a method, and the parameters or their types that it has so far
  Method : Tag
  Body : Tag
  Setup : Tag
  Script : Tag
  -- what no pile has
  Never : Tag

-- a method that is to be defined, and one that is to be declared
abbrev pub defined : List Tag
defined = Method ∷ Own ∷ []

abbrev pub declared : List Tag
declared = Method ∷ Declaring ∷ []

-- ── phrases ──

-- the tags that a phrase takes from the top
abbrev pub taken_by : Sort → List Tag
taken_by g.Items = Items ∷ []
taken_by g.MoreItems = Items ∷ []
taken_by g.AfterName = Word ∷ []
taken_by g.MethodName = OfClass ∷ []
taken_by g.Signature = declared
taken_by g.Types = declared
taken_by g.MoreTypes = declared
taken_by g.MoreComparison = Operand ∷ []
taken_by g.MoreSum = Operand ∷ []
taken_by g.MoreProduct = Operand ∷ []
taken_by g.MorePostfix = Operand ∷ []
taken_by g.Arguments = Arguments ∷ []
taken_by g.ArgumentList = Arguments ∷ []
taken_by g.MoreArguments = Arguments ∷ []
taken_by g.ElsePart = Items ∷ []
taken_by g.Parameters = defined
taken_by g.MoreParameters = defined
taken_by _ = []

-- the tags that it leaves in their place
abbrev pub left_by : Sort → List Tag
left_by g.Program = []
left_by g.Classes = []
left_by g.Scripts = []
left_by g.Block = Items ∷ []
left_by g.Items = Items ∷ []
left_by g.MoreItems = Items ∷ []
left_by g.Method = Method ∷ []
left_by g.MethodName = Method ∷ []
left_by g.Signature = OfType ∷ declared
left_by g.Types = declared
left_by g.MoreTypes = declared
left_by g.TypeWord = OfType ∷ []
left_by g.Arguments = Arguments ∷ []
left_by g.ArgumentList = Arguments ∷ []
left_by g.MoreArguments = Arguments ∷ []
left_by g.ElsePart = Closed ∷ Closed ∷ []
left_by g.Parameters = defined
left_by g.MoreParameters = defined
left_by _ = Operand ∷ []

-- ── actions ──

-- the tags that an action takes from the top
abbrev pub takes : Action → List Tag
takes a.EndSetup = Closed ∷ Setup ∷ []
takes a.EndScript = Closed ∷ Script ∷ []
takes a.EndBlock = Items ∷ []
takes a.AddItem = Operand ∷ Items ∷ []
takes a.OpenAssign = Word ∷ []
takes a.NameMethod = OfClass ∷ []
takes a.ComputeMethod = Operand ∷ OfClass ∷ []
takes a.HoldParameter = defined
takes a.AddParameterType = OfType ∷ declared
takes a.AddArgument = Operand ∷ Arguments ∷ []
takes a.PutVariable = Word ∷ []
takes a.PutNew = OfClass ∷ []
takes a.PutAssign = Operand ∷ Target ∷ []
takes a.PutPrint = Operand ∷ Own ∷ []
takes a.PutStr = Operand ∷ Own ∷ []
takes a.PutNot = Operand ∷ Own ∷ []
takes (a.PutBinary op) = Operand ∷ Own ∷ Operand ∷ []
takes a.PutIf = Closed ∷ Closed ∷ Operand ∷ Own ∷ []
takes a.PutWhile = Closed ∷ Operand ∷ Own ∷ []
takes a.PutCall = Arguments ∷ Operand ∷ []
takes a.PutDef = Closed ∷ Body ∷ defined
takes (a.PutDeclare asks) = OfType ∷ declared
takes (a.HoldType (ty.Class c)) = Never ∷ []
takes _ = []

-- the tags that it leaves in their place
abbrev pub leaves : Action → List Tag
leaves a.DeclareClass = []
leaves a.BeginSetup = Setup ∷ []
leaves a.EndSetup = []
leaves a.BeginScript = Script ∷ []
leaves a.EndScript = []
leaves a.BeginBlock = Items ∷ []
leaves a.EndBlock = Closed ∷ []
leaves a.AddItem = Items ∷ []
leaves a.Open = []
leaves a.Close = []
leaves a.OpenWord = Own ∷ []
leaves a.OpenAssign = Target ∷ []
leaves a.HoldOperator = Own ∷ []
leaves a.HoldStr = Own ∷ []
leaves a.HoldDeclare = Declaring ∷ []
leaves a.HoldName = Word ∷ []
leaves a.HoldCall = Arguments ∷ []
leaves a.HoldClass = OfClass ∷ []
leaves a.NameMethod = Method ∷ []
leaves a.ComputeMethod = Method ∷ []
leaves a.HoldParameter = defined
leaves a.BeginBody = Body ∷ []
leaves (a.HoldType y) = OfType ∷ []
leaves a.HoldClassType = OfType ∷ []
leaves a.AddParameterType = declared
leaves a.AddArgument = Arguments ∷ []
leaves _ = Operand ∷ []
