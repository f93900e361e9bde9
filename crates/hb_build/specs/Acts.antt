-- What each action of the grammar does: the program so far and the pile after it, or the fault.
use Rattle.std.specs.Prelude.{ℕ, zero, suc, pos, ◌+◌, ◌-◌, List, [], ◌∷◌, ◌++◌, Bool, true, false, length, nat_eq, nat_le, nat_lt, if◌then◌else◌, Option, Some, None, position, bytes_eq}
use Rattle.std.specs.List.{list_any}
use Rattle.hb_lex.specs.Literal.{value_of_number, value_of_text}
use Rattle.hb_types.specs.declared.{types.Ty.Ty, types.MethodTy.MethodTy, types.TheConstants.PARAMS_MAX}
use Rattle.hb_types.specs.declared.types.Ty.TheVariants as ty
use Rattle.hb_tree.specs.declared.limits.TheConstants.{CLASSES_MAX, SCRIPTS_MAX, NODES_MAX, TYPES_MAX, HEIGHT_MAX, CONSTRUCTS_MAX}
use Rattle.hb_tree.specs.Tree.{Tree, TNil, TTrue, TFalse, TSelf, TInt, TText, TVar, TNew, TAssign, TPrint, TToStr, TNot, TBinary, TIf, TWhile, TCall, TDef, TDefComputed, TDeclare, TDeclareComputed, TBlock, id_of}
use Rattle.hb_tree.specs.Counts.{height}
use Rattle.hb_grammar.specs.declared.actions.Action.{Action}
use Rattle.hb_grammar.specs.declared.actions.Action.TheVariants as a
use Rattle.hb_build.specs.declared.{held.Spot.Spot, faults.ParseFail.ParseFail}
use Rattle.hb_build.specs.declared.faults.ParseFail.TheVariants as fail
use Rattle.hb_build.specs.declared.faults.Limit.TheVariants as limit
use Rattle.hb_build.specs.Said.{Said}
use Rattle.hb_build.specs.Pile.{Slot, Operand, Closed, Item, Argument, Own, Declaring, Word, Target, Called, OfClass, Named, Computed, Parameter, OfType, ParameterType, Block}
use Rattle.hb_build.specs.Pile.{Body, Setup, Script, items_on, below_items, arguments_on, below_arguments, parameters_on, below_parameters, types_on, below_types, is_full}
use Rattle.hb_build.specs.Pile.{has_too_many_nodes, has_too_many_calls, has_too_many_variables, declaring}
use Rattle.hb_draft.specs.{Words.with_word, Unfinished.forest_of, Made.word_number}

-- the program so far, the pile, and how many constructs are open
pub record Work : Type 0 where
  pub said : Said
  pub pile : List Slot
  pub depth : ℕ

-- before the first action
abbrev pub nothing : Work
nothing = record { said = record { classes = []; names = []; texts = []; places = []; bodies = []; types = []; setup = None; scripts = [] }; pile = []; depth = 0 }

-- An action goes on, or finds a fault. No text leads to an action that does not fit the pile: it is lost there.
pub data Answer : Type 0 where
  Goes : Work → Answer
  Fails : ParseFail → Answer
  Lost : Answer

-- ── what lies on top ──

abbrev pub with_operand : List Slot → (Tree → List Slot → Answer) → Answer
with_operand (Operand e ∷ pile) go = go e pile
with_operand _ go = Lost

abbrev pub with_closed : List Slot → (Tree → List Slot → Answer) → Answer
with_closed (Closed b ∷ pile) go = go b pile
with_closed _ go = Lost

abbrev pub with_own : List Slot → (Spot → List Slot → Answer) → Answer
with_own (Own p ∷ pile) go = go p pile
with_own _ go = Lost

abbrev pub with_declaring : List Slot → (Spot → List Slot → Answer) → Answer
with_declaring (Declaring p ∷ pile) go = go p pile
with_declaring _ go = Lost

abbrev pub with_name : List Slot → (ℕ → Spot → List Slot → Answer) → Answer
with_name (Word x p ∷ pile) go = go x p pile
with_name _ go = Lost

abbrev pub with_target : List Slot → (ℕ → Spot → List Slot → Answer) → Answer
with_target (Target x p ∷ pile) go = go x p pile
with_target _ go = Lost

abbrev pub with_called : List Slot → (ℕ → Spot → List Slot → Answer) → Answer
with_called (Called m p ∷ pile) go = go m p pile
with_called _ go = Lost

abbrev pub with_class : List Slot → (ℕ → Spot → List Slot → Answer) → Answer
with_class (OfClass c p ∷ pile) go = go c p pile
with_class _ go = Lost

abbrev pub with_type : List Slot → (Ty → List Slot → Answer) → Answer
with_type (OfType y ∷ pile) go = go y pile
with_type _ go = Lost

abbrev pub with_block : List Slot → (List Slot → Answer) → Answer
with_block (Block ∷ pile) go = go pile
with_block _ go = Lost

abbrev pub with_body : List Slot → (List Slot → Answer) → Answer
with_body (Body ∷ pile) go = go pile
with_body _ go = Lost

abbrev pub with_setup : List Slot → (List Slot → Answer) → Answer
with_setup (Setup ∷ pile) go = go pile
with_setup _ go = Lost

abbrev pub with_script : List Slot → (ℕ → List Slot → Answer) → Answer
with_script (Script x ∷ pile) go = go x pile
with_script _ go = Lost

-- a method with a name, or with an expression that computes it
abbrev pub with_method : List Slot → (ℕ → ℕ → List Slot → Answer) → (ℕ → Tree → List Slot → Answer) → Answer
with_method (Named c m ∷ pile) plain computed = plain c m pile
with_method (Computed c e ∷ pile) plain computed = computed c e pile
with_method _ plain computed = Lost

-- ── words ──

-- the class with this name, which some `class` before declares
abbrev pub with_known : Option ℕ → Spot → (ℕ → Answer) → Answer
with_known None p go = Fails (fail.UnknownClass p.at)
with_known (Some c) p go = go c

abbrev pub class_of : List ℕ → Work → Option ℕ
class_of name w = position (bytes_eq name) w.said.classes

-- a type that is a word, and not the name of a class
abbrev pub if_word : Ty → Answer → Answer
if_word (ty.Class c) answer = Lost
if_word _ answer = answer

-- a name is numbered by its first occurrence
abbrev pub number : List ℕ → Work → ℕ
number name w = word_number w.said.names name

abbrev pub numbered : List ℕ → Work → Work
numbered name w = record w { said = record w.said { names = with_word w.said.names name } }

-- ── steps ──

abbrev pub push : Slot → Work → Work
push slot w = record w { pile = slot ∷ w.pile }

abbrev pub fails_if : Bool → ParseFail → Answer → Answer
fails_if passed fault answer = if passed then Fails fault else answer

-- an expression begins at this token, and is no argument too many
abbrev pub begins : Spot → Work → Answer → Answer
begins p w answer = fails_if (is_full w.pile) (fail.TooMany limit.Arguments p.at) answer

-- a construct opens at this token
abbrev pub opens : Spot → Work → Answer → Answer
opens p w answer = fails_if (nat_le CONSTRUCTS_MAX w.depth) (fail.TooDeep p.at) answer

abbrev pub opened : Work → Work
opened w = record w { depth = w.depth + 1 }

abbrev pub closed : Work → Work
closed w = record w { depth = w.depth - 1 }

-- the fault of a complete node of this height, where there are so many nodes before it, and the body has too many with it
abbrev pub passed : ℕ → ℕ → Bool → ℕ → Option ParseFail
passed height nodes too_many at =
    if nat_lt HEIGHT_MAX height then Some (fail.TooDeep at)
    else if nat_le NODES_MAX nodes then Some (fail.TooMany limit.Nodes at)
    else if too_many then Some (fail.TooMany limit.Body at)
    else None

abbrev pub unless : Option ParseFail → Answer → Answer
unless None answer = answer
unless (Some fault) answer = Fails fault

-- The next node, with its own token at p, is complete; it lies in this slot over the pile.
abbrev pub complete : Spot → (ℕ → Tree) → (Tree → Slot) → List Slot → Work → Answer
complete p make slot pile w =
    let node = make (length w.said.places) in
    unless (passed (height node) (length w.said.places) (has_too_many_nodes (slot node ∷ pile)) p.at)
    (Goes (record w { said = record w.said { places = w.said.places ++ (p.line, p.column) ∷ [] }; pile = slot node ∷ pile }))

-- a leaf at this token
abbrev pub leaf : Spot → (ℕ → Tree) → Work → Answer
leaf p make w = begins p w (complete p make Operand w.pile w)

-- ── methods ──

-- the type of a method, filled with nil past its parameters
abbrev pub filled : ℕ → List Ty → List Ty
filled zero types = []
filled (suc n) [] = ty.Nil ∷ filled n []
filled (suc n) (y ∷ types) = y ∷ filled n types

abbrev pub method_ty : List Ty → Ty → MethodTy
method_ty types result = record { count = length types; params = filled PARAMS_MAX types; result = result }

-- the definition that is the next node gives its method a body
abbrev pub giving : List ℕ → Tree → Work → Work
giving params block w = record w { said = record w.said { bodies = w.said.bodies ++ record { def = length w.said.places; block = id_of block; params = params } ∷ [] } }

-- the declaration that is the next node gives its method a type
abbrev pub typing : MethodTy → Work → Work
typing type w = record w { said = record w.said { types = w.said.types ++ (type, length w.said.places) ∷ [] } }

-- the definition of the method that lies on the pile
abbrev pub define : List ℕ → Tree → List Slot → Work → Answer
define params block pile w = with_method pile
    (λ c m pile. with_own pile (λ p pile. complete p (λ id. TDef id c m (length w.said.bodies) block) Operand pile (giving params block w)))
    (λ c e pile. with_own pile (λ p pile. complete p (λ id. TDefComputed id c e (length w.said.bodies) block) Operand pile (giving params block w)))

-- the declaration of the method that lies on the pile
abbrev pub declare : MethodTy → Bool → List Slot → Work → Answer
declare type asks pile w = with_method pile
    (λ c m pile. with_declaring pile (λ p pile. complete p (λ id. TDeclare id c m (length w.said.types) asks) Operand pile (typing type w)))
    (λ c e pile. with_declaring pile (λ p pile. complete p (λ id. TDeclareComputed id c e (length w.said.types) asks) Operand pile (typing type w)))

abbrev pub boolean : Bool → ℕ → Tree
boolean true id = TTrue id
boolean false id = TFalse id

-- ── the actions ──

-- An action behind a token that stands at p and has these bytes. `p` and `bytes` are the last token's.
abbrev pub act : Action → Spot → List ℕ → Work → Answer
act a.DeclareClass p bytes w =
    fails_if (list_any (bytes_eq bytes) w.said.classes) (fail.TwiceClass p.at)
    (fails_if (nat_le CLASSES_MAX (length w.said.classes)) (fail.TooMany limit.Classes p.at)
    (Goes (record w { said = record w.said { classes = w.said.classes ++ bytes ∷ [] } })))
act a.BeginSetup p bytes w = Goes (push Setup w)
act a.EndSetup p bytes w = with_closed w.pile (λ b pile. with_setup pile (λ pile.
    Goes (record w { said = record w.said { setup = Some b }; pile = pile })))
act a.BeginScript p bytes w =
    fails_if (list_any (λ s. nat_eq (number bytes w) s.0) w.said.scripts) (fail.TwiceScript p.at)
    (fails_if (nat_le SCRIPTS_MAX (length w.said.scripts)) (fail.TooMany limit.Scripts p.at)
    (Goes (push (Script (number bytes w)) (numbered bytes w))))
-- of a text no script is one too many here: where one begins, the step before finds it
act a.EndScript p bytes w = with_closed w.pile (λ b pile. with_script pile (λ x pile.
    fails_if (nat_le SCRIPTS_MAX (length w.said.scripts)) (fail.TooMany limit.Scripts p.at)
    (Goes (record w { said = record w.said { scripts = w.said.scripts ++ (x, b) ∷ [] }; pile = pile }))))
act a.BeginBlock p bytes w = Goes (push Block w)
act a.EndBlock p bytes w = with_block (below_items w.pile) (λ pile. complete p (λ id. TBlock id (forest_of (items_on w.pile))) Closed pile w)
act a.AddItem p bytes w = with_operand w.pile (λ e pile. Goes (record w { pile = Item e ∷ pile }))
act a.Open p bytes w = opens p w (begins p w (Goes (opened w)))
act a.Close p bytes w = Goes (closed w)
act a.OpenWord p bytes w = opens p w (begins p w (Goes (opened (push (Own p) w))))
act a.OpenAssign p bytes w = with_name w.pile (λ x q pile. opens p w
    (fails_if (has_too_many_variables (Target x p ∷ pile)) (fail.TooMany limit.Variables p.at)
    (Goes (opened (record w { pile = Target x p ∷ pile })))))
act a.HoldOperator p bytes w = Goes (push (Own p) w)
act a.HoldStr p bytes w = begins p w (Goes (push (Own p) w))
act a.HoldDeclare p bytes w =
    fails_if (nat_le TYPES_MAX (length w.said.types + declaring w.pile)) (fail.TooMany limit.Types p.at)
    (begins p w (Goes (push (Declaring p) w)))
act a.HoldName p bytes w = begins p w (Goes (push (Word (number bytes w) p) (numbered bytes w)))
act a.HoldCall p bytes w =
    fails_if (has_too_many_calls (Called (number bytes w) p ∷ w.pile)) (fail.TooMany limit.Calls p.at)
    (Goes (push (Called (number bytes w) p) (numbered bytes w)))
act a.HoldClass p bytes w = with_known (class_of bytes w) p (λ c. begins p w (Goes (push (OfClass c p) w)))
act a.NameMethod p bytes w = with_class w.pile (λ c q pile. Goes (record (numbered bytes w) { pile = Named c (number bytes w) ∷ pile }))
act a.ComputeMethod p bytes w = with_operand w.pile (λ e pile. with_class pile (λ c q pile. Goes (record w { pile = Computed c e ∷ pile })))
act a.HoldParameter p bytes w =
    fails_if (list_any (nat_eq (number bytes w)) (parameters_on w.pile)) (fail.TwiceParam p.at)
    (fails_if (nat_le PARAMS_MAX (length (parameters_on w.pile))) (fail.TooMany limit.Parameters p.at)
    (Goes (push (Parameter (number bytes w)) (numbered bytes w))))
act a.BeginBody p bytes w = Goes (push Body w)
act (a.HoldType y) p bytes w = if_word y (Goes (push (OfType y) w))
act a.HoldClassType p bytes w = with_known (class_of bytes w) p (λ c. Goes (push (OfType (ty.Class (record { 0 = c }))) w))
act a.AddParameterType p bytes w = with_type w.pile (λ y pile.
    fails_if (nat_le PARAMS_MAX (length (types_on pile))) (fail.TooMany limit.Parameters p.at)
    (Goes (record w { pile = ParameterType y ∷ pile })))
-- of a text no argument is one too many here: where one begins, the step before finds it
act a.AddArgument p bytes w = with_operand w.pile (λ e pile.
    fails_if (is_full pile) (fail.TooMany limit.Arguments p.at)
    (Goes (record w { pile = Argument e ∷ pile })))
act a.PutNil p bytes w = leaf p TNil w
act (a.PutBoolean b) p bytes w = leaf p (boolean b) w
act a.PutSelf p bytes w = leaf p TSelf w
act a.PutNumber p bytes w = leaf p (λ id. TInt id (pos (value_of_number bytes))) w
act a.PutText p bytes w =
    leaf p (λ id. TText id (word_number w.said.texts (value_of_text bytes)))
    (record w { said = record w.said { texts = with_word w.said.texts (value_of_text bytes) } })
act a.PutVariable p bytes w = with_name w.pile (λ x q pile. complete q (λ id. TVar id x) Operand pile w)
act a.PutNew p bytes w = with_class w.pile (λ c q pile. complete q (λ id. TNew id c) Operand pile w)
act a.PutAssign p bytes w = with_operand w.pile (λ e pile. with_target pile (λ x q pile. complete q (λ id. TAssign id x e) Operand pile (closed w)))
act a.PutPrint p bytes w = with_operand w.pile (λ e pile. with_own pile (λ q pile. complete q (λ id. TPrint id e) Operand pile (closed w)))
act a.PutStr p bytes w = with_operand w.pile (λ e pile. with_own pile (λ q pile. complete q (λ id. TToStr id e) Operand pile w))
act a.PutNot p bytes w = with_operand w.pile (λ e pile. with_own pile (λ q pile. complete q (λ id. TNot id e) Operand pile (closed w)))
act (a.PutBinary op) p bytes w = with_operand w.pile (λ e2 pile. with_own pile (λ q pile. with_operand pile (λ e1 pile.
    complete q (λ id. TBinary id op e1 e2) Operand pile w)))
act a.PutIf p bytes w = with_closed w.pile (λ b2 pile. with_closed pile (λ b1 pile. with_operand pile (λ c pile. with_own pile (λ q pile.
    complete q (λ id. TIf id c b1 b2) Operand pile (closed w)))))
act a.PutWhile p bytes w = with_closed w.pile (λ b pile. with_operand pile (λ c pile. with_own pile (λ q pile.
    complete q (λ id. TWhile id c b) Operand pile (closed w))))
act a.PutCall p bytes w = with_called (below_arguments w.pile) (λ m q pile. with_operand pile (λ r pile.
    complete q (λ id. TCall id r m (forest_of (arguments_on w.pile))) Operand pile w))
act a.PutDef p bytes w = with_closed w.pile (λ b pile. with_body pile (λ pile.
    define (parameters_on pile) b (below_parameters pile) (closed w)))
act (a.PutDeclare asks) p bytes w = with_type w.pile (λ y pile. declare (method_ty (types_on pile) y) asks (below_types pile) w)
