-- What a walk over an expression, over items and over arguments comes to.
use Rattle.std.specs.Prelude.{ℕ, List, [], Result, Ok}
use Rattle.hb_types.specs.declared.types.Ty.{Ty}
use Rattle.hb_types.specs.Variables.{Variables}
use Rattle.hb_tree.specs.declared.node.Method.{Method}
use Rattle.hb_tree.specs.declared.node.Method.TheVariants as method
use Rattle.hb_tree.specs.Table.{Table}
use Rattle.hb_tree.specs.Tree.{Tree, Forest}
use Rattle.hb_tree.specs.TreeAt.{tree_at}
use Rattle.hb_tree.specs.Counts.{names_assigned_in, names_assigned_in_all}
use Rattle.hb_deriv.specs.declared.raw.Used.{Used}
use Rattle.hb_deriv.specs.declared.raw.Step.{Step}
use Rattle.hb_deriv.specs.Judge.{Typed, named}
use Rattle.hb_deriv.specs.Programs.{sites_of}
use Rattle.hb_deriv.specs.Walk.{◌>>>◌, finish, walk, walk_items, walk_args}
use Rattle.hb_verify.specs.declared.progress.Progress.{Progress}
use Rattle.hb_verify.specs.declared.progress.Stop.{Stop}
use Rattle.hb_verify.specs.Follows.{Follows, state_of}

-- the walk over a tree where self is of this class, from these variables
abbrev pub Walks : Table → ℕ → Tree → Variables → List Used → List Step → Progress → Progress → Result Typed Stop → Type 0
Walks t self tree G uses steps old new result =
    Follows uses steps (walk (sites_of t) self tree G (state_of uses steps old)) (names_assigned_in tree) G new result

-- over items behind one of this type
abbrev pub WalksItems : Table → ℕ → Forest → Variables → Ty → List Used → List Step → Progress → Progress → Result Typed Stop → Type 0
WalksItems t self items G ty uses steps old new result =
    Follows uses steps (walk_items (sites_of t) self items G ty (state_of uses steps old)) (names_assigned_in_all items) G new result

-- over arguments behind those of these types
abbrev pub WalksArgs : Table → ℕ → Forest → Variables → List Ty → List Used → List Step → Progress → Progress → Result (Variables × List Ty) Stop → Type 0
WalksArgs t self args G types_before uses steps old new result =
    Follows uses steps (walk_args (sites_of t) self args G types_before (state_of uses steps old)) (names_assigned_in_all args) G new result

-- over an expression of this type with one part
abbrev pub WalksPart : Table → ℕ → ℕ → Tree → Ty → Variables → List Used → List Step → Progress → Progress → Result Typed Stop → Type 0
WalksPart t self id part ty G uses steps old new result =
    Follows uses steps (walk (sites_of t) self part G (state_of uses steps old) >>> (λ p. finish p.0 id (Ok (p.1.0, ty)))) (names_assigned_in part) G new result

-- over a definition or a declaration of this type, whose method's name may be computed
abbrev pub WalksMethod : Table → ℕ → ℕ → Method → Ty → Variables → List Used → List Step → Progress → Progress → Result Typed Stop → Type 0
WalksMethod t self id (method.Named c x) ty G uses steps old new result =
    Follows uses steps (finish (state_of uses steps old) id (Ok (G, ty))) [] G new result
WalksMethod t self id (method.Computed c e) ty G uses steps old new result =
    Follows uses steps (walk (sites_of t) self (tree_at t e.0) G (state_of uses steps old) >>> (λ p. finish p.0 id (named id p.1.0 p.1.1 ty)))
    (names_assigned_in (tree_at t e.0)) G new result
