-- What is done for a text, action by action, and what is done for the canonical text of what is said.
use Rattle.std.specs.Prelude.{ℕ, pos, ◌+◌, ◌-◌, max, List, [], ◌∷◌, ◌++◌, map, Bool, true, false, nat_lt, if◌then◌else◌, slice_get, Option, Some, None}
use Rattle.std.specs.{List.flat_map, Fmt.signed_decimal}
use Rattle.hb_lex.specs.declared.{kinds.TokenKind.TokenKind, spans.Token.Token}
use Rattle.hb_lex.specs.declared.kinds.TokenKind.TheVariants as k
use Rattle.hb_lex.specs.Literal.{value_of_number, value_of_text}
use Rattle.hb_types.specs.declared.{types.Ty.Ty, types.MethodTy.MethodTy}
use Rattle.hb_types.specs.declared.types.Ty.TheVariants as ty
use Rattle.hb_types.specs.Types.{params_of as param_types_of}
use Rattle.hb_tree.specs.Tree.{Tree, TNil, TTrue, TFalse, TSelf, TInt, TText, TVar, TNew, TAssign, TPrint, TToStr, TNot, TBinary, TIf, TWhile, TCall, TDef, TDefComputed}
use Rattle.hb_tree.specs.Tree.{TDeclare, TDeclareComputed, TBlock, Forest, NoTree, Trees}
use Rattle.hb_tree.specs.Canon.{bytes_at, quoted, level, least_left, least_right}
use Rattle.hb_draft.specs.Made.{Given}
use Rattle.hb_grammar.specs.declared.actions.Action.{Action}
use Rattle.hb_grammar.specs.declared.actions.Action.TheVariants as a
use Rattle.hb_grammar.specs.Language.{Act}
use Rattle.hb_build.specs.{Follow.bytes_in, Follow.last_of, Needs.needs, Said.Said}

-- an action, and the bytes that it looks at: those of the token behind which it stands, or none
pub record Deed : Type 0 where
  pub action : Action
  pub bytes : List ℕ

abbrev pub deed : Action → List ℕ → Deed
deed action bytes = record { action = action; bytes = bytes }

-- an action that looks at no bytes
abbrev pub plain : Action → Deed
plain action = deed action []

-- ── the deeds of a text ──

-- What is looked at of the bytes of a token, where one of this kind is needed. Numbers and texts of one value are one.
abbrev pub looked_at : Option TokenKind → List ℕ → List ℕ
looked_at None bytes = []
looked_at (Some k.Number) bytes = signed_decimal (pos (value_of_number bytes))
looked_at (Some k.Text) bytes = quoted (value_of_text bytes)
looked_at (Some _) bytes = bytes

-- an action of a text, as a deed
abbrev pub deed_in : List ℕ → List Token → Act → Deed
deed_in text tokens x = deed x.action (looked_at (needs x.action) (bytes_in text (last_of tokens x.at)))

abbrev pub deeds_in : List ℕ → List Token → List Act → List Deed
deeds_in text tokens done = map (deed_in text tokens) done

-- ── the deeds of the canonical text ──

-- a part of an expression, in parentheses where it is below the level
abbrev pub wrap : ℕ → Tree → List Deed → List Deed
wrap least e ds = if nat_lt (level e) least then (plain a.Open ∷ (ds ++ plain a.Close ∷ [])) else ds

abbrev pub name : Said → Action → ℕ → Deed
name s action x = deed action (bytes_at s.names x)

abbrev pub class : Said → Action → ℕ → Deed
class s action c = deed action (bytes_at s.classes c)

-- `A.m`, and `A.(e)` with the deeds of `e`
abbrev pub named : Said → ℕ → ℕ → List Deed
named s c m = class s a.HoldClass c ∷ name s a.NameMethod m ∷ []

abbrev pub computed : Said → ℕ → List Deed → List Deed
computed s c ds = class s a.HoldClass c ∷ plain a.Open ∷ (ds ++ plain a.Close ∷ plain a.ComputeMethod ∷ [])

abbrev pub type_deed : Said → Ty → Deed
type_deed s (ty.Class c) = class s a.HoldClassType c.0
type_deed s y = plain (a.HoldType y)

-- `(T, T) -> T`
abbrev pub signature_of : Said → Option (MethodTy × ℕ) → List Deed
signature_of s None = []
signature_of s (Some y) =
    plain a.Open ∷ (flat_map (λ p. type_deed s p ∷ plain a.AddParameterType ∷ []) (param_types_of y.0) ++ plain a.Close ∷ type_deed s y.0.result ∷ [])

abbrev pub signature : Said → ℕ → List Deed
signature s site = signature_of s (slice_get s.types site)

-- `(x, y)`
abbrev pub parameters_of : Said → Option Given → List Deed
parameters_of s None = []
parameters_of s (Some b) = plain a.Open ∷ (map (name s a.HoldParameter) b.params ++ plain a.Close ∷ [])

abbrev pub parameters : Said → ℕ → List Deed
parameters s site = parameters_of s (slice_get s.bodies site)

-- a call without arguments has no parentheses
abbrev pub arguments : Forest → List Deed → List Deed
arguments NoTree ds = []
arguments (Trees e es) ds = plain a.Open ∷ (ds ++ plain a.Close ∷ [])

abbrev pub boolean : Bool → Deed
boolean b = plain (a.PutBoolean b)

-- the deeds of an expression or a block, without parentheses round it
abbrev mutual
  pub own : Said → Tree → List Deed
  own s (TNil id) = plain a.PutNil ∷ []
  own s (TTrue id) = boolean true ∷ []
  own s (TFalse id) = boolean false ∷ []
  own s (TSelf id) = plain a.PutSelf ∷ []
  own s (TInt id n) = deed a.PutNumber (signed_decimal n) ∷ []
  own s (TText id x) = deed a.PutText (quoted (bytes_at s.texts x)) ∷ []
  own s (TVar id x) = name s a.HoldName x ∷ plain a.PutVariable ∷ []
  own s (TNew id c) = class s a.HoldClass c ∷ plain a.PutNew ∷ []
  own s (TAssign id x e) = name s a.HoldName x ∷ plain a.OpenAssign ∷ (own s e ++ plain a.PutAssign ∷ [])
  own s (TPrint id e) = plain a.OpenWord ∷ (own s e ++ plain a.PutPrint ∷ [])
  own s (TToStr id e) = plain a.HoldStr ∷ plain a.Open ∷ (own s e ++ plain a.Close ∷ plain a.PutStr ∷ [])
  own s (TNot id e) = plain a.OpenWord ∷ (wrap 4 e (own s e) ++ plain a.PutNot ∷ [])
  own s (TBinary id op l r) =
      wrap (least_left op) l (own s l) ++ plain a.HoldOperator ∷ (wrap (least_right op) r (own s r) ++ plain (a.PutBinary op) ∷ [])
  own s (TIf id c l r) = plain a.OpenWord ∷ (own s c ++ own s l ++ own s r ++ plain a.PutIf ∷ [])
  own s (TWhile id c b) = plain a.OpenWord ∷ (own s c ++ own s b ++ plain a.PutWhile ∷ [])
  own s (TCall id r m args) =
      wrap 5 r (own s r) ++ name s a.HoldCall m ∷ (arguments args (each s a.AddArgument args) ++ plain a.PutCall ∷ [])
  own s (TDef id c m site b) =
      plain a.OpenWord ∷ (named s c m ++ parameters s site ++ plain a.BeginBody ∷ (own s b ++ plain a.PutDef ∷ []))
  own s (TDefComputed id c e site b) =
      plain a.OpenWord ∷ (computed s c (own s e) ++ parameters s site ++ plain a.BeginBody ∷ (own s b ++ plain a.PutDef ∷ []))
  own s (TDeclare id c m site asks) = plain a.HoldDeclare ∷ (named s c m ++ signature s site ++ plain (a.PutDeclare asks) ∷ [])
  own s (TDeclareComputed id c e site asks) =
      plain a.HoldDeclare ∷ (computed s c (own s e) ++ signature s site ++ plain (a.PutDeclare asks) ∷ [])
  own s (TBlock id es) = plain a.BeginBlock ∷ (each s a.AddItem es ++ plain a.EndBlock ∷ [])

  -- each of them is an item of a block or an argument of a call, as the action says
  pub each : Said → Action → Forest → List Deed
  each s joins NoTree = []
  each s joins (Trees e es) = own s e ++ plain joins ∷ each s joins es

abbrev pub class_deeds : List (List ℕ) → List Deed
class_deeds classes = map (deed a.DeclareClass) classes

abbrev pub setup_deeds : Said → Option Tree → List Deed
setup_deeds s None = []
setup_deeds s (Some b) = plain a.BeginSetup ∷ (own s b ++ plain a.EndSetup ∷ [])

abbrev pub script_deeds : Said → ℕ × Tree → List Deed
script_deeds s script = name s a.BeginScript script.0 ∷ (own s script.1 ++ plain a.EndScript ∷ [])

-- the deeds of all that is said
abbrev pub deeds_of : Said → List Deed
deeds_of s = class_deeds s.classes ++ setup_deeds s s.setup ++ flat_map (script_deeds s) s.scripts

-- ── parentheses ──

abbrev pub is_parenthesis : Action → Bool
is_parenthesis a.Open = true
is_parenthesis a.Close = true
is_parenthesis _ = false

-- without parentheses
abbrev pub bare : List Deed → List Deed
bare [] = []
bare (d ∷ ds) = if is_parenthesis d.action then bare ds else d ∷ bare ds

-- ── constructs ──

-- how many constructs are open behind an action, where so many were before it
abbrev pub depth_after : Action → ℕ → ℕ
depth_after a.Open depth = depth + 1
depth_after a.OpenWord depth = depth + 1
depth_after a.OpenAssign depth = depth + 1
depth_after a.Close depth = depth - 1
depth_after a.PutAssign depth = depth - 1
depth_after a.PutPrint depth = depth - 1
depth_after a.PutNot depth = depth - 1
depth_after a.PutIf depth = depth - 1
depth_after a.PutWhile depth = depth - 1
depth_after a.PutDef depth = depth - 1
depth_after _ depth = depth

-- the greatest number of open constructs on the way, from so many
abbrev pub deepest : List Deed → ℕ → ℕ
deepest [] depth = depth
deepest (d ∷ ds) depth = max depth (deepest ds (depth_after d.action depth))
