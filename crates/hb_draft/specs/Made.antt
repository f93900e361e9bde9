-- What a program under construction says, and what each step adds to it.
use Rattle.std.specs.Prelude.{ℕ, Bool, true, false, List, [], ◌∷◌, ◌++◌, map, length, Option, Some, None, bytes_eq}
use Rattle.std.specs.List.{position_or_len}
use Rattle.hb_types.specs.declared.{ids.NodeId.NodeId, types.MethodTy.MethodTy}
use Rattle.hb_tree.specs.declared.{node.Placed.Placed, parts.Body.Body}
use Rattle.hb_tree.specs.Tree.{Tree, TTrue, TFalse, TText, TDef, TDefComputed, TDeclare, TDeclareComputed, id_of}
use Rattle.hb_tree.specs.Nodes.{params_of}
use Rattle.hb_draft.specs.Unfinished.{Unfinished, setup_in, scripts_in, in_hand, leaf_over, unary_over}
use Rattle.hb_draft.specs.Words.{with_word}

-- what a definition gives to its method: the numbers of the definition and of its block, and the names of the parameters
pub record Given : Type 0 where
  pub def : ℕ
  pub block : ℕ
  pub params : List ℕ

-- What a program under construction says: its words, the places of its nodes, what definitions and declarations give, the setup, the
-- scripts, and the trees in hand, the last one first.
pub record Made : Type 0 where
  pub classes : List (List ℕ)
  pub names : List (List ℕ)
  pub texts : List (List ℕ)
  pub places : List (ℕ × ℕ)
  pub bodies : List Given
  pub types : List (MethodTy × ℕ)
  pub setup : Option Tree
  pub scripts : List (ℕ × Tree)
  pub hand : List Tree

abbrev pub place_of : Placed → ℕ × ℕ
place_of p = (p.line, p.column)

abbrev pub type_of : MethodTy × NodeId → MethodTy × ℕ
type_of y = (y.0, y.1.0)

abbrev pub given_by : Body → Given
given_by b = record { def = b.def.0; block = b.block.0; params = params_of b }

abbrev pub made_of : Unfinished → Made
made_of d = record {
  classes = d.table.classes;
  names = d.table.names;
  texts = d.table.texts;
  places = map place_of d.table.nodes;
  bodies = map given_by d.table.bodies;
  types = map type_of d.table.types;
  setup = setup_in d.table;
  scripts = scripts_in d.table;
  hand = in_hand d;
}

-- nothing was declared or built yet
abbrev pub made_nothing : Made
made_nothing = record { classes = []; names = []; texts = []; places = []; bodies = []; types = []; setup = None; scripts = []; hand = [] }

-- the place of a word in the list, or the list's length where it is none of them
abbrev pub word_number : List (List ℕ) → List ℕ → ℕ
word_number words word = position_or_len (bytes_eq word) words

-- the tree of `true` or of `false`
abbrev pub boolean_tree : Bool → ℕ → Tree
boolean_tree true id = TTrue id
boolean_tree false id = TFalse id

-- one class more
abbrev pub with_class : Made → List ℕ → Made
with_class m class = record m { classes = m.classes ++ class ∷ [] }

-- a name, which goes last where it is new
abbrev pub with_name : Made → List ℕ → Made
with_name m name = record m { names = with_word m.names name }

-- the next node: its number is how many there were, and it takes its parts from the hand
abbrev pub with_node : Made → ℕ × ℕ → (ℕ → List Tree → List Tree) → Made
with_node m place over = record m { places = m.places ++ place ∷ []; hand = over (length m.places) m.hand }

-- the next node, a text's: the text goes last where it is new
abbrev pub with_text : Made → ℕ × ℕ → List ℕ → Made
with_text m place value = with_node (record m { texts = with_word m.texts value }) place (leaf_over (λ id. TText id (word_number m.texts value)))

-- the number of the last one in hand
abbrev pub id_on_top : List Tree → ℕ
id_on_top [] = 0
id_on_top (b ∷ rest) = id_of b

-- the next node is a definition, whose block is the last one in hand
abbrev pub with_body : Made → List ℕ → Made
with_body m params = record m { bodies = m.bodies ++ record { def = length m.places; block = id_on_top m.hand; params = params } ∷ [] }

-- the next node is a declaration of this type
abbrev pub with_type : Made → MethodTy → Made
with_type m ty = record m { types = m.types ++ (ty, length m.places) ∷ [] }

-- the next node, a definition's, with its body
abbrev pub with_def : Made → ℕ × ℕ → ℕ → ℕ → List ℕ → Made
with_def m place class name params = with_node (with_body m params) place (unary_over (λ id b. TDef id class name (length m.bodies) b))

-- the hand after a definition with a computed name was made: the block lay over the name's expression
abbrev pub def_computed_over : ℕ → ℕ → ℕ → List Tree → List Tree
def_computed_over class site id (b ∷ e ∷ rest) = TDefComputed id class e site b ∷ rest
def_computed_over class site id _ = []

-- the same with a computed name
abbrev pub with_computed_def : Made → ℕ × ℕ → ℕ → List ℕ → Made
with_computed_def m place class params = with_node (with_body m params) place (def_computed_over class (length m.bodies))

-- the next node, a declaration's, with its type
abbrev pub with_declare : Made → ℕ × ℕ → ℕ → ℕ → MethodTy → Bool → Made
with_declare m place class name ty asks = with_node (with_type m ty) place (leaf_over (λ id. TDeclare id class name (length m.types) asks))

-- the same with a computed name, whose expression is the last one in hand
abbrev pub with_computed_declare : Made → ℕ × ℕ → ℕ → MethodTy → Bool → Made
with_computed_declare m place class ty asks = with_node (with_type m ty) place (unary_over (λ id e. TDeclareComputed id class e (length m.types) asks))

abbrev pub setup_from : Made → List Tree → Made
setup_from m [] = m
setup_from m (b ∷ rest) = record m { setup = Some b; hand = rest }

-- the last one in hand becomes the setup's block
abbrev pub with_setup : Made → Made
with_setup m = setup_from m m.hand

abbrev pub script_from : Made → ℕ → List Tree → Made
script_from m name [] = m
script_from m name (b ∷ rest) = record m { scripts = m.scripts ++ (name, b) ∷ []; hand = rest }

-- the last one in hand becomes a script's block
abbrev pub with_script : Made → ℕ → Made
with_script m name = script_from m name m.hand
