-- What a check of an expression, of items and of arguments comes to.
use Rattle.std.specs.Prelude.{ℕ, List, [], ◌∷◌, ◌++◌, Result, Ok}
use Rattle.hb_types.specs.declared.types.Ty.{Ty}
use Rattle.hb_types.specs.Variables.{Variables}
use Rattle.hb_tree.specs.{Table.Table, Tree.Tree, Tree.Forest, TreeAt.tree_at, Counts.names_assigned_in, Counts.names_assigned_in_all}
use Rattle.hb_tree.specs.declared.node.Method.{Method}
use Rattle.hb_tree.specs.declared.node.Method.TheVariants as method
use Rattle.hb_deriv.specs.Judge.{Typed, ◌>>=◌, named, judge, judge_items, judge_args}
use Rattle.hb_deriv.specs.Events.{Done, behind, done, events, events_items, events_args}
use Rattle.hb_deriv.specs.Programs.{sites_of}
use Rattle.hb_check.specs.declared.notes.Stop.{Stop}
use Rattle.hb_check.specs.Runs.{State, Runs}

-- the check of a tree where self is of this class, from these variables
abbrev pub Checks : Table → ℕ → Tree → Variables → State → State → Result Typed Stop → Type 0
Checks t self tree G old new result =
    Runs (sites_of t) (λ types. judge types self tree G) (λ types. events types self tree G) (names_assigned_in tree) G old new result

-- of items behind one of this type
abbrev pub ChecksItems : Table → ℕ → Forest → Variables → Ty → State → State → Result Typed Stop → Type 0
ChecksItems t self items G ty old new result =
    Runs (sites_of t) (λ types. judge_items types self items G ty) (λ types. events_items types self items G ty) (names_assigned_in_all items) G old new result

-- of arguments behind those of these types
abbrev pub ChecksArgs : Table → ℕ → Forest → Variables → List Ty → State → State → Result (Variables × List Ty) Stop → Type 0
ChecksArgs t self args G types_before old new result =
    Runs (sites_of t) (λ types. judge_args types self args G types_before) (λ types. events_args types self args G types_before) (names_assigned_in_all args) G old new result

-- of an expression of this type with one part
abbrev pub ChecksPart : Table → ℕ → ℕ → Tree → Ty → Variables → State → State → Result Typed Stop → Type 0
ChecksPart t self id part ty G old new result =
    Runs (sites_of t) (λ types. judge types self part G >>= (λ r. Ok (r.0, ty))) (λ types. events types self part G ++ behind (judge types self part G) (λ r. Done id ty ∷ [])) (names_assigned_in part) G old new result

-- of a definition or a declaration of this type, whose method's name may be computed
abbrev pub ChecksMethod : Table → ℕ → ℕ → Method → Ty → Variables → State → State → Result Typed Stop → Type 0
ChecksMethod t self id (method.Named c x) ty G old new result =
    Runs (sites_of t) (λ types. Ok (G, ty)) (λ types. Done id ty ∷ []) [] G old new result
ChecksMethod t self id (method.Computed c e) ty G old new result =
    let name = tree_at t e.0 in
    Runs (sites_of t) (λ types. judge types self name G >>= (λ r. named id r.0 r.1 ty))
    (λ types. events types self name G ++ behind (judge types self name G) (λ r. done id (named id r.0 r.1 ty))) (names_assigned_in name) G old new result
