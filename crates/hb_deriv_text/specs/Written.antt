-- Which derivations have texts, and what their texts are read as.
use Rattle.std.specs.Prelude.{◌≡◌, ◌<◌, ◌^◌, ℕ, List, All, map, slice_get}
use Rattle.std.specs.Option.{unwrap_or}
use Rattle.hb_tree.specs.declared.node.Placed.{Placed}
use Rattle.hb_tree.specs.Table.{Table}
use Rattle.hb_tree.specs.Nodes.{node_at, place_at}
use Rattle.hb_tree.specs.Program.{IsExprNode}
use Rattle.hb_deriv.specs.declared.raw.Used.{Used}
use Rattle.hb_deriv.specs.declared.raw.Step.{Step}
use Rattle.hb_deriv.specs.Derivation.{Content, step}
use Rattle.hb_deriv_text.specs.Text.{Fits, place, place_of_def, place_of_type, text_of}
use Rattle.hb_deriv_text.specs.Reading.{body_there, type_there, expr_there}

-- each line and column is below 2 ^ 32, as those of a program's nodes are
abbrev pub HasSmallPlaces : Table → Type 0
HasSmallPlaces t = All (λ (n : Placed). (n.line < 2 ^ 32) × (n.column < 2 ^ 32)) t.nodes

-- expressions have different places
abbrev pub HasPlacesApart : Table → Type 0
HasPlacesApart t = (i j : ℕ) → IsExprNode (node_at t i) → IsExprNode (node_at t j) → place_at t i ≡ place_at t j → i ≡ j

-- the step is one of an expression
abbrev pub IsOfExpression : Table → Step → Type 0
IsOfExpression t s = IsExprNode (node_at t s.node.0)

-- a derivation that the format can say: all that it names is the program's, and its steps are those of expressions
pub record IsSayable (t : Table) (d : Content) : Type 0 where
  pub fits : Fits t d
  pub steps : All (IsOfExpression t) d.steps

-- these bytes are the text of a derivation
pub record IsText (t : Table) (bytes : List ℕ) : Type 0 where
  pub content : Content
  pub sayable : IsSayable t content
  pub written : text_of t content ≡ bytes

-- the first body that is defined, the first type that is declared and the first expression that stands where this one is
abbrev pub first_body : Table → ℕ → ℕ
first_body t site = unwrap_or (body_there t (place_of_def t (slice_get t.bodies site))) 0

abbrev pub first_type : Table → ℕ → ℕ
first_type t site = unwrap_or (type_there t (place_of_type t (slice_get t.types site))) 0

abbrev pub first_expr : Table → ℕ → ℕ
first_expr t id = unwrap_or (expr_there t (place t id)) 0

abbrev pub first_use : Table → Used → Used
first_use t u = record { class = u.class; name = u.name; site = record { 0 = first_type t u.site.0 } }

abbrev pub first_step : Table → Step → Step
first_step t s = step (first_expr t s.node.0) s.ty

-- a derivation with what stands first at each of its places
abbrev pub first_of : Table → Content → Content
first_of t d = record {
  class = d.class;
  body = first_body t d.body;
  declared = first_type t d.declared;
  uses = map (first_use t) d.uses;
  steps = map (first_step t) d.steps;
}
