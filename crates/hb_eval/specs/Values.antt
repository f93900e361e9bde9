-- Values: which count as false, of which kind they are, and which are equal.
use Rattle.std.specs.Prelude.{ℕ, ◌<◌, length, Bool, true, false, not, nat_eq, bytes_eq, if◌then◌else◌}
use Rattle.std.specs.Ordering.{int_eq}
use Rattle.hb_types.specs.declared.types.Ty.{Ty}
use Rattle.hb_types.specs.declared.types.Ty.TheVariants as ty
use Rattle.hb_types.specs.Types.{is_below}
use Rattle.hb_tree.specs.Table.{Table}
use Rattle.hb_eval.specs.declared.{value.Value.Value, value.Value.TheVariants.Nil, value.Value.TheVariants.Bool as Truth, value.Value.TheVariants.Int, value.Value.TheVariants.Str}
use Rattle.hb_eval.specs.declared.{value.Value.TheVariants.Object}

-- an object of a class
abbrev pub object : ℕ → Value
object c = Object (record { 0 = c })

abbrev pub is_nil : Value → Bool
is_nil Nil = true
is_nil _ = false

-- nil and false count as false, and nothing else
abbrev pub is_false : Value → Bool
is_false Nil = true
is_false (Truth b) = not b
is_false (Int n) = false
is_false (Str x) = false
is_false (Object c) = false

-- the least type of a value
abbrev pub kind_of : Value → Ty
kind_of Nil = ty.Nil
kind_of (Truth b) = ty.Bool
kind_of (Int n) = ty.Int
kind_of (Str x) = ty.Str
kind_of (Object c) = ty.Class c

-- the value is one of the type
abbrev pub conforms : Value → Ty → Bool
conforms v t = is_below (kind_of v) t

-- two nils, the same truth, number or text, or two objects of one class
abbrev pub same : Value → Value → Bool
same Nil Nil = true
same (Truth x) (Truth y) = if x then y else not y
same (Int x) (Int y) = int_eq x y
same (Str x) (Str y) = bytes_eq x y
same (Object c) (Object d) = nat_eq c.0 d.0
same _ _ = false

-- the class of an object is one of the program
abbrev pub IsKnown : Table → Value → Type 0
IsKnown t (Object c) = c.0 < length t.classes
IsKnown t _ = Unit {0}
