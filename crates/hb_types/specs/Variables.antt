-- Variables and their types: a finite map, as a list in which each name stands once.
use Rattle.std.specs.Prelude.{◌≡◌, ℕ, List, [], ◌∷◌, Option, Some, None, Bool, true, false, nat_eq, ◌||◌, ◌&&◌, if◌then◌else◌}
use Rattle.hb_types.specs.declared.{ids.NameId.NameId, types.Ty.Ty}
use Rattle.hb_types.specs.Types.{is_below, join_of}

abbrev pub Variables : Type 0
Variables = List (NameId × Ty)

-- a variable of this name and type
abbrev pub variable : ℕ → Ty → NameId × Ty
variable x t = (record { 0 = x }, t)

-- the name is there
abbrev pub has : Variables → ℕ → Bool
has [] x = false
has (v ∷ rest) x = nat_eq v.0.0 x || has rest x

-- each name stands once
abbrev pub IsMap : Variables → Type 0
IsMap [] = Unit {0}
IsMap (v ∷ rest) = (has rest v.0.0 ≡ false) × IsMap rest

-- the type of a name
abbrev pub get : Variables → ℕ → Option Ty
get [] x = None
get (v ∷ rest) x = if nat_eq v.0.0 x then Some v.1 else get rest x

-- the name has this type, and the others those that they had
abbrev pub set : Variables → ℕ → Ty → Variables
set [] x t = variable x t ∷ []
set (v ∷ rest) x t = if nat_eq v.0.0 x then variable x t ∷ rest else v ∷ set rest x t

-- a variable at the join of its types, where both have it
abbrev pub joined : NameId × Ty → Option Ty → Variables → Variables
joined v None rest = rest
joined v (Some t) rest = (v.0, join_of v.1 t) ∷ rest

-- the names of both, each at the join of its types
abbrev pub join : Variables → Variables → Variables
join [] others = []
join (v ∷ rest) others = joined v (get others v.0.0) (join rest others)

-- the type of a name in the join
abbrev pub both : Option Ty → Option Ty → Option Ty
both None u = None
both (Some t) None = None
both (Some t) (Some u) = Some (join_of t u)

abbrev pub stays_below : Ty → Option Ty → Bool
stays_below t None = false
stays_below t (Some u) = is_below u t

-- each name of the first is one of the second, at a type that is below its own
abbrev pub keeps : Variables → Variables → Bool
keeps [] later = true
keeps (v ∷ rest) later = stays_below v.1 (get later v.0.0) && keeps rest later
