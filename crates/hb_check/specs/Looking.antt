-- How the type of a method is looked up at a call.
use Rattle.std.specs.Prelude.{◌≡◌, ℕ, List, [], ◌∷◌, Option, Some, None, Result, Ok, Err, if◌then◌else◌}
use Rattle.hb_types.specs.declared.{ids.TypeSite.TypeSite, types.Ty.Ty, types.MethodTy.MethodTy}
use Rattle.hb_types.specs.declared.types.Ty.TheVariants as ty
use Rattle.hb_types.specs.Variables.{Variables}
use Rattle.hb_deriv.specs.{Events.same_key, Derivation.key_of}
use Rattle.hb_deriv.specs.declared.ill.Reason.TheVariants as reason
use Rattle.hb_deriv.specs.declared.raw.Used.{Used}
use Rattle.hb_deriv.specs.Judge.{Key, Types, Verdict, fault}
use Rattle.hb_check.specs.declared.notes.Stop.{Stop}
use Rattle.hb_check.specs.declared.notes.Stop.TheVariants as stop

-- the site of the use with this key
abbrev pub site_among : List Used → Key → Option TypeSite
site_among [] k = None
site_among (u ∷ uses) k = if same_key (key_of u) k then Some u.site else site_among uses k

-- a call of a method that has a type, or has none
abbrev pub with_type : ℕ → Variables → Option MethodTy → Verdict (Variables × MethodTy)
with_type id G None = fault id reason.NoType
with_type id G (Some m) = Ok (G, m)

-- the type of the method that is called, by the type of its receiver
abbrev pub method_of : Types → ℕ → ℕ → Variables → Ty → Verdict (Variables × MethodTy)
method_of types id m G ty.Nil = fault id reason.Receiver
method_of types id m G ty.Bool = fault id reason.Receiver
method_of types id m G ty.Int = fault id reason.Receiver
method_of types id m G ty.Str = fault id reason.Receiver
method_of types id m G ty.Any = fault id reason.Receiver
method_of types id m G (ty.Class c) = with_type id G (types (c.0, m))

-- the result of a call's method is this verdict
abbrev pub IsVerdict : {X : Type 0} → Verdict (Variables × X) → Result (Variables × X) Stop → Type 0
IsVerdict verdict (Ok r) = verdict ≡ Ok r
IsVerdict verdict (Err (stop.Ill i)) = verdict ≡ Err i
IsVerdict verdict (Err _) = ⊥
