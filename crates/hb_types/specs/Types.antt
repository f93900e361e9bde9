-- The order of types and their join, and which method types there are.
use Rattle.std.specs.Prelude.{◌≡◌, ◌≤◌, List, length, take, drop, All, Bool, true, false, ◌||◌, nat_eq, if◌then◌else◌}
use Rattle.hb_types.specs.declared.{types.TheConstants.PARAMS_MAX, types.Ty.Ty, types.MethodTy.MethodTy}
use Rattle.hb_types.specs.declared.types.Ty.TheVariants as ty

-- a type is below itself, nil is below each type, and each type is below any
pub data IsBelow : Ty → Ty → Type 0 where
  below_itself : {a : Ty} → IsBelow a a
  nil_below : {b : Ty} → IsBelow ty.Nil b
  below_any : {a : Ty} → IsBelow a ty.Any

-- the same order, computed
abbrev pub is_nil : Ty → Bool
is_nil ty.Nil = true
is_nil _ = false

abbrev pub is_any : Ty → Bool
is_any ty.Any = true
is_any _ = false

abbrev pub same_ty : Ty → Ty → Bool
same_ty ty.Nil ty.Nil = true
same_ty ty.Bool ty.Bool = true
same_ty ty.Int ty.Int = true
same_ty ty.Str ty.Str = true
same_ty ty.Any ty.Any = true
same_ty (ty.Class c) (ty.Class d) = nat_eq c.0 d.0
same_ty _ _ = false

abbrev pub is_below : Ty → Ty → Bool
is_below a b = is_nil a || is_any b || same_ty a b

-- the greater of two types where one is below the other, and any else
abbrev pub join_of : Ty → Ty → Ty
join_of a b = if is_below a b then b else (if is_below b a then a else ty.Any)

-- the types of a method's parameters
abbrev pub params_of : MethodTy → List Ty
params_of m = take m.count m.params

-- there are up to four parameters, and the places past them are filled with nil
pub record IsMethodTy (m : MethodTy) : Type 0 where
  pub places : length m.params ≡ PARAMS_MAX
  pub few : m.count ≤ PARAMS_MAX
  pub filled : All (λ t. t ≡ ty.Nil) (drop m.count m.params)
