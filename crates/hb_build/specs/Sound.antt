-- What a builder keeps from action to action, and what it stands for.
use Rattle.std.specs.Prelude.{◌≡◌, ℕ, ◌+◌, ◌<◌, ◌≤◌, List, [], ◌∷◌, ◌++◌, Bool, true, false, length, map, nat_eq, reverse, if◌then◌else◌}
use Rattle.std.specs.{List.IsDistinct, Set.is_member, List.list_any}
use Rattle.hb_types.specs.declared.{ids.NameId.NameId, types.TheConstants.PARAMS_MAX, types.Ty.Ty}
use Rattle.hb_types.specs.declared.types.Ty.TheVariants as ty
use Rattle.hb_tree.specs.declared.limits.TheConstants.{NODES_IN_BODY_MAX, CALLS_IN_BODY_MAX, VARIABLES_MAX, ARGUMENTS_MAX, TYPES_MAX}
use Rattle.hb_tree.specs.Tree.{IsExpr, IsBlock}
use Rattle.hb_build.specs.{Said.said_of, Acts.Work}
use Rattle.hb_build.specs.declared.{held.Held.Held, builder.Builder.Builder, builder.Scope.Scope}
use Rattle.hb_build.specs.declared.held.Held.TheVariants as held
use Rattle.hb_build.specs.Pile.{Slot, Operand, Closed, Item, Argument, Word, Target, Called, OfClass, Named, Computed, Parameter, OfType, ParameterType, Body, Setup, Script}
use Rattle.hb_build.specs.Pile.{arguments_on, parameters_on, types_on, in_body, nodes_since, calls_since, names_since, declaring, piled}
use Rattle.hb_draft.specs.{Unfinished.in_hand, Unfinished.scripts_in, Made.made_of}

-- what is not yet used, the last first
abbrev pub things_of : Builder → List Held
things_of b = reverse b.held.items

abbrev pub pile_of : Builder → List Slot
pile_of b = piled (things_of b) (in_hand b.draft)

-- what the builder stands for
abbrev pub work_of : Builder → Work
work_of b = record { said = said_of (made_of b.draft); pile = pile_of b; depth = b.depth }

-- how many of these things have a tree in hand
abbrev pub trees_in : List Held → ℕ
trees_in [] = 0
trees_in (held.Operand ∷ things) = 1 + trees_in things
trees_in (held.Closed ∷ things) = 1 + trees_in things
trees_in (held.Item ∷ things) = 1 + trees_in things
trees_in (held.Argument ∷ things) = 1 + trees_in things
trees_in (held.Computed c ∷ things) = 1 + trees_in things
trees_in (_ ∷ things) = trees_in things

abbrev pub IsTy : ℕ → Ty → Type 0
IsTy classes (ty.Class c) = c.0 < classes
IsTy classes _ = Unit {0}

-- each slot is of its sort, its names and classes are numbered, and no list passes its limit
abbrev pub IsGood : ℕ → ℕ → List Slot → Type 0
IsGood names classes [] = Unit {0}
IsGood names classes (Operand e ∷ pile) = IsExpr e × IsGood names classes pile
IsGood names classes (Closed b ∷ pile) = IsBlock b × IsGood names classes pile
IsGood names classes (Item e ∷ pile) = IsExpr e × IsGood names classes pile
IsGood names classes (Argument e ∷ pile) = IsExpr e × (length (arguments_on pile) < ARGUMENTS_MAX) × IsGood names classes pile
IsGood names classes (Word x p ∷ pile) = (x < names) × IsGood names classes pile
IsGood names classes (Target x p ∷ pile) = (x < names) × IsGood names classes pile
IsGood names classes (Called m p ∷ pile) = (m < names) × IsGood names classes pile
IsGood names classes (OfClass c p ∷ pile) = (c < classes) × IsGood names classes pile
IsGood names classes (Named c m ∷ pile) = (c < classes) × (m < names) × IsGood names classes pile
IsGood names classes (Computed c e ∷ pile) = (c < classes) × IsExpr e × IsGood names classes pile
IsGood names classes (Parameter x ∷ pile) = (x < names) × (list_any (nat_eq x) (parameters_on pile) ≡ false) × (length (parameters_on pile) < PARAMS_MAX) × IsGood names classes pile
IsGood names classes (OfType y ∷ pile) = IsTy classes y × IsGood names classes pile
IsGood names classes (ParameterType y ∷ pile) = IsTy classes y × (length (types_on pile) < PARAMS_MAX) × IsGood names classes pile
IsGood names classes (Script x ∷ pile) = (x < names) × IsGood names classes pile
IsGood names classes (_ ∷ pile) = IsGood names classes pile

-- ── scopes ──

-- the pile below the mark at which the innermost scope begins
abbrev pub outside : List Slot → List Slot
outside [] = []
outside (Body ∷ pile) = pile
outside (Setup ∷ pile) = pile
outside (Script x ∷ pile) = pile
outside (_ ∷ pile) = outside pile

-- how many scopes begin in the pile
abbrev pub marks : List Slot → ℕ
marks [] = 0
marks (Body ∷ pile) = 1 + marks pile
marks (Setup ∷ pile) = 1 + marks pile
marks (Script x ∷ pile) = 1 + marks pile
marks (_ ∷ pile) = marks pile

abbrev pub numbers : List NameId → List ℕ
numbers xs = map (λ x. x.0) xs

-- the scope counts the innermost scope of the pile, within the limits
pub record IsCount (s : Scope) (pile : List Slot) : Type 0 where
  pub body : s.is_body ≡ in_body pile
  pub nodes : in_body pile ≡ true → s.nodes ≡ nodes_since pile
  pub calls : in_body pile ≡ true → s.calls ≡ calls_since pile
  pub apart : IsDistinct nat_eq (numbers s.variables.items)
  pub same : (x : ℕ) → is_member nat_eq (numbers s.variables.items) x ≡ is_member nat_eq (names_since pile) x
  pub few : length s.variables.items ≤ VARIABLES_MAX
  pub few_nodes : in_body pile ≡ true → nodes_since pile ≤ NODES_IN_BODY_MAX
  pub few_calls : in_body pile ≡ true → calls_since pile ≤ CALLS_IN_BODY_MAX

-- so do the scopes around it, the innermost first
abbrev pub AreCounts : List Scope → List Slot → Type 0
AreCounts [] pile = Unit {0}
AreCounts (s ∷ scopes) pile = IsCount s pile × AreCounts scopes (outside pile)

-- what holds of a builder between two actions
pub record IsSound (b : Builder) : Type 0 where
  pub matched : trees_in (things_of b) ≤ length (in_hand b.draft)
  pub good : IsGood (length b.draft.table.names) (length b.draft.table.classes) (pile_of b)
  pub counts : AreCounts (b.scope ∷ reverse b.outer.items) (pile_of b)
  pub scopes : length b.outer.items ≡ marks (pile_of b)
  pub pending : b.declaring ≡ declaring (pile_of b)
  pub named : numbers b.scripts.items ≡ map (λ s. s.0) (scripts_in b.draft.table)
  pub few_types : length b.draft.table.types + declaring (pile_of b) ≤ TYPES_MAX

-- a body has one node more
abbrev pub with_node : Scope → Scope
with_node s = record s { nodes = if s.is_body then s.nodes + 1 else s.nodes }

-- and one call more
abbrev pub with_call : Scope → Scope
with_call s = record s { calls = if s.is_body then s.calls + 1 else s.calls }

-- the variable is one of the scope's from now on
pub record Assigns (old : Scope) (x : NameId) (new : Scope) : Type 0 where
  pub apart : IsDistinct nat_eq (numbers old.variables.items) → IsDistinct nat_eq (numbers new.variables.items)
  pub same : (y : ℕ) → is_member nat_eq (numbers new.variables.items) y ≡ is_member nat_eq (numbers old.variables.items ++ x.0 ∷ []) y
  pub few : length old.variables.items ≤ VARIABLES_MAX → length new.variables.items ≤ VARIABLES_MAX

-- the variable is new, and there is no room for it
pub record IsOneTooMany (old : Scope) (x : NameId) : Type 0 where
  pub new : is_member nat_eq (numbers old.variables.items) x.0 ≡ false
  pub full : VARIABLES_MAX ≤ length old.variables.items

-- the parameters on top of what is not yet used, and the types of parameters there, in the order of the text
abbrev pub parameters_of : List Held → List ℕ
parameters_of (held.Parameter x ∷ things) = parameters_of things ++ x.0 ∷ []
parameters_of _ = []

abbrev pub parameter_types_of : List Held → List Ty
parameter_types_of (held.ParameterType y ∷ things) = parameter_types_of things ++ y ∷ []
parameter_types_of _ = []

-- a method with a name that is not computed
abbrev pub is_named : Held → Bool
is_named (held.Named c m) = true
is_named _ = false
