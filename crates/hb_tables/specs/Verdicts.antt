-- The verdict on a call, and the keys on which it rests.
use Rattle.std.specs.Prelude.{◌≡◌, ℕ, List, [], length, Option, Some, None, Ok, Err, Bool, true, false, nat_eq, ◌&&◌, if◌then◌else◌}
use Rattle.hb_types.specs.declared.types.Ty.{Ty}
use Rattle.hb_types.specs.declared.types.MethodTy.{MethodTy}
use Rattle.hb_types.specs.Types as types
use Rattle.hb_tree.specs.declared.parts.Body.{Body}
use Rattle.hb_tree.specs.Table.{Table}
use Rattle.hb_tree.specs.Nodes as nodes
use Rattle.hb_tree.specs.TreeAt.{tree_at}
use Rattle.hb_deriv.specs.Judge as judgement
use Rattle.hb_deriv.specs.Judge.{Key, Types, Typed, Subject, all_below, judge_body}
use Rattle.hb_deriv.specs.Events.{looks}
use Rattle.hb_tables.specs.declared.entry.Verdict.{Verdict}
use Rattle.hb_tables.specs.declared.entry.Verdict.TheVariants as verdict
use Rattle.hb_tables.specs.declared.entry.By.TheVariants as by

-- a method of this type may be called with arguments of these kinds
abbrev pub takes : MethodTy → List Ty → Bool
takes m kinds = nat_eq (length kinds) m.count && all_below kinds (types.params_of m)

-- there is a type, and a method of it may be called with arguments of these kinds
abbrev pub typed_takes : Option MethodTy → List Ty → Bool
typed_takes None kinds = false
typed_takes (Some m) kinds = takes m kinds

-- a body of the program against a type, where self is of a class
abbrev pub subject : Table → ℕ → Body → MethodTy → Subject
subject t class b m = record { self = class; params = nodes.params_of b; block = tree_at t b.block.0; declared = m }

abbrev pub checked_verdict : judgement.Verdict Typed → Verdict
checked_verdict (Ok r) = verdict.Enter by.Fresh
checked_verdict (Err f) = verdict.IllTyped f

-- What a fresh check comes to. It is the first of these that holds: no definition, no type, other arguments, a fault; else the body is entered.
abbrev pub verdict_of : Table → Types → ℕ → Option Body → Option MethodTy → List Ty → Verdict
verdict_of t types class None m kinds = verdict.NoBody
verdict_of t types class (Some b) None kinds = verdict.NoType
verdict_of t types class (Some b) (Some m) kinds =
    if takes m kinds then checked_verdict (judge_body types (subject t class b m)) else verdict.BadArgs

-- the verdict that a fresh check would have come to in the place of this one
abbrev pub as_fresh : Verdict → Verdict
as_fresh (verdict.Enter way) = verdict.Enter by.Fresh
as_fresh verdict.NoBody = verdict.NoBody
as_fresh verdict.NoType = verdict.NoType
as_fresh verdict.BadArgs = verdict.BadArgs
as_fresh (verdict.IllTyped f) = verdict.IllTyped f

-- the keys at which the check of this verdict looks
abbrev pub looks_of : Table → Types → ℕ → Option Body → Option MethodTy → List Ty → List Key
looks_of t types class None m kinds = []
looks_of t types class (Some b) None kinds = []
looks_of t types class (Some b) (Some m) kinds = if takes m kinds then looks types (subject t class b m) else []

-- there are a body and a type, the type takes the arguments, and this is true of the body at the type
pub record Reaches (P : Subject → Type 0) (t : Table) (class : ℕ) (b : Option Body) (m : Option MethodTy) (kinds : List Ty) : Type 0 where
  pub body : Body
  pub declared : MethodTy
  pub has_body : b ≡ Some body
  pub has_type : m ≡ Some declared
  pub fits : takes declared kinds ≡ true
  pub holds : P (subject t class body declared)
