-- The pile of what was read and is not yet used, the last on top.
use Rattle.std.specs.Prelude.{ℕ, ◌+◌, List, [], ◌∷◌, ◌++◌, Bool, true, false, nat_eq, nat_le, nat_lt, ◌&&◌, length}
use Rattle.std.specs.Set.{distinct_count}
use Rattle.hb_types.specs.declared.types.Ty.{Ty}
use Rattle.hb_tree.specs.declared.limits.TheConstants.{NODES_IN_BODY_MAX, CALLS_IN_BODY_MAX, VARIABLES_MAX, ARGUMENTS_MAX}
use Rattle.hb_tree.specs.{Tree.Tree, Counts.nodes_in, Counts.calls_in, Counts.names_assigned_in}
use Rattle.hb_build.specs.declared.{held.Spot.Spot, held.Held.Held}
use Rattle.hb_build.specs.declared.held.Held.TheVariants as held

pub data Slot : Type 0 where
  -- an expression, and a complete block
  Operand : Tree → Slot
  Closed : Tree → Slot
  -- expressions that are items of the block that began below, or arguments of the call below
  Item : Tree → Slot
  Argument : Tree → Slot
  -- the own token of a node to come, and of a declaration to come
  Own : Spot → Slot
  Declaring : Spot → Slot
  -- a name at the start of an operand
  Word : ℕ → Spot → Slot
  -- the variable of an assignment to come, and its `=`
  Target : ℕ → Spot → Slot
  -- the method of a call to come, over the receiver
  Called : ℕ → Spot → Slot
  OfClass : ℕ → Spot → Slot
  -- the method that is defined or declared: its class, and its name or the expression that computes it
  Named : ℕ → ℕ → Slot
  Computed : ℕ → Tree → Slot
  Parameter : ℕ → Slot
  OfType : Ty → Slot
  ParameterType : Ty → Slot
  -- here a block, a body, the setup or a script of this name begins
  Block : Slot
  Body : Slot
  Setup : Slot
  Script : ℕ → Slot

-- ── lists that lie on top, in the order of the text, and what lies below them ──

abbrev pub items_on : List Slot → List Tree
items_on (Item e ∷ pile) = items_on pile ++ e ∷ []
items_on _ = []

abbrev pub below_items : List Slot → List Slot
below_items (Item e ∷ pile) = below_items pile
below_items pile = pile

abbrev pub arguments_on : List Slot → List Tree
arguments_on (Argument e ∷ pile) = arguments_on pile ++ e ∷ []
arguments_on _ = []

abbrev pub below_arguments : List Slot → List Slot
below_arguments (Argument e ∷ pile) = below_arguments pile
below_arguments pile = pile

abbrev pub parameters_on : List Slot → List ℕ
parameters_on (Parameter x ∷ pile) = parameters_on pile ++ x ∷ []
parameters_on _ = []

abbrev pub below_parameters : List Slot → List Slot
below_parameters (Parameter x ∷ pile) = below_parameters pile
below_parameters pile = pile

abbrev pub types_on : List Slot → List Ty
types_on (ParameterType y ∷ pile) = types_on pile ++ y ∷ []
types_on _ = []

abbrev pub below_types : List Slot → List Slot
below_types (ParameterType y ∷ pile) = below_types pile
below_types pile = pile

-- the arguments of the call below are as many as it may have
abbrev pub is_full : List Slot → Bool
is_full pile = nat_le ARGUMENTS_MAX (length (arguments_on pile))

-- ── counts ──

-- whether this is inside of a body
abbrev pub in_body : List Slot → Bool
in_body [] = false
in_body (Body ∷ pile) = true
in_body (Setup ∷ pile) = false
in_body (Script x ∷ pile) = false
in_body (_ ∷ pile) = in_body pile

-- the nodes of the innermost body so far, or of the setup or script
abbrev pub nodes_since : List Slot → ℕ
nodes_since [] = 0
nodes_since (Body ∷ pile) = 0
nodes_since (Setup ∷ pile) = 0
nodes_since (Script x ∷ pile) = 0
nodes_since (Operand e ∷ pile) = nodes_since pile + nodes_in e
nodes_since (Closed b ∷ pile) = nodes_since pile + nodes_in b
nodes_since (Item e ∷ pile) = nodes_since pile + nodes_in e
nodes_since (Argument e ∷ pile) = nodes_since pile + nodes_in e
nodes_since (Computed c e ∷ pile) = nodes_since pile + nodes_in e
nodes_since (_ ∷ pile) = nodes_since pile

-- its calls, of which those to come count too
abbrev pub calls_since : List Slot → ℕ
calls_since [] = 0
calls_since (Body ∷ pile) = 0
calls_since (Setup ∷ pile) = 0
calls_since (Script x ∷ pile) = 0
calls_since (Operand e ∷ pile) = calls_since pile + calls_in e
calls_since (Closed b ∷ pile) = calls_since pile + calls_in b
calls_since (Item e ∷ pile) = calls_since pile + calls_in e
calls_since (Argument e ∷ pile) = calls_since pile + calls_in e
calls_since (Computed c e ∷ pile) = calls_since pile + calls_in e
calls_since (Called m p ∷ pile) = calls_since pile + 1
calls_since (_ ∷ pile) = calls_since pile

-- the names of its parameters and of its assignments, likewise
abbrev pub names_since : List Slot → List ℕ
names_since [] = []
names_since (Body ∷ pile) = parameters_on pile
names_since (Setup ∷ pile) = []
names_since (Script x ∷ pile) = []
names_since (Operand e ∷ pile) = names_since pile ++ names_assigned_in e
names_since (Closed b ∷ pile) = names_since pile ++ names_assigned_in b
names_since (Item e ∷ pile) = names_since pile ++ names_assigned_in e
names_since (Argument e ∷ pile) = names_since pile ++ names_assigned_in e
names_since (Computed c e ∷ pile) = names_since pile ++ names_assigned_in e
names_since (Target x p ∷ pile) = names_since pile ++ x ∷ []
names_since (_ ∷ pile) = names_since pile

-- how many declarations are to come
abbrev pub declaring : List Slot → ℕ
declaring [] = 0
declaring (Declaring p ∷ pile) = declaring pile + 1
declaring (_ ∷ pile) = declaring pile

-- ── limits that are passed ──

abbrev pub has_too_many_nodes : List Slot → Bool
has_too_many_nodes pile = in_body pile && nat_lt NODES_IN_BODY_MAX (nodes_since pile)

abbrev pub has_too_many_calls : List Slot → Bool
has_too_many_calls pile = in_body pile && nat_lt CALLS_IN_BODY_MAX (calls_since pile)

abbrev pub has_too_many_variables : List Slot → Bool
has_too_many_variables pile = nat_lt VARIABLES_MAX (distinct_count nat_eq (names_since pile))

-- ── a pile with its trees in hand ──

-- The pile of these things, the last first, whose trees lie in hand in the same order.
abbrev pub piled : List Held → List Tree → List Slot
piled [] hand = []
piled (held.Operand ∷ things) (e ∷ hand) = Operand e ∷ piled things hand
piled (held.Closed ∷ things) (b ∷ hand) = Closed b ∷ piled things hand
piled (held.Item ∷ things) (e ∷ hand) = Item e ∷ piled things hand
piled (held.Argument ∷ things) (e ∷ hand) = Argument e ∷ piled things hand
piled (held.Computed c ∷ things) (e ∷ hand) = Computed c.0 e ∷ piled things hand
piled (held.Operand ∷ things) [] = []
piled (held.Closed ∷ things) [] = []
piled (held.Item ∷ things) [] = []
piled (held.Argument ∷ things) [] = []
piled (held.Computed c ∷ things) [] = []
piled (held.Own p ∷ things) hand = Own p ∷ piled things hand
piled (held.Declaring p ∷ things) hand = Declaring p ∷ piled things hand
piled (held.Word x p ∷ things) hand = Word x.0 p ∷ piled things hand
piled (held.Target x p ∷ things) hand = Target x.0 p ∷ piled things hand
piled (held.Called m p ∷ things) hand = Called m.0 p ∷ piled things hand
piled (held.Class c p ∷ things) hand = OfClass c.0 p ∷ piled things hand
piled (held.Named c m ∷ things) hand = Named c.0 m.0 ∷ piled things hand
piled (held.Parameter x ∷ things) hand = Parameter x.0 ∷ piled things hand
piled (held.Type y ∷ things) hand = OfType y ∷ piled things hand
piled (held.ParameterType y ∷ things) hand = ParameterType y ∷ piled things hand
piled (held.Block ∷ things) hand = Block ∷ piled things hand
piled (held.Body ∷ things) hand = Body ∷ piled things hand
piled (held.Setup ∷ things) hand = Setup ∷ piled things hand
piled (held.Script x ∷ things) hand = Script x.0 ∷ piled things hand
