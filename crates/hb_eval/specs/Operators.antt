-- What an operator makes of two values: a value, or a stop.
use Rattle.std.specs.Prelude.{ℕ, ◌^◌, ℤ, pos, negsuc, ◌+ℤ◌, ◌-ℤ◌, ◌*ℤ◌, int_lt, ◌≡◌, List, ◌++◌, length, Bool, ◌||◌, nat_lt, nat_le, Option, Some, None, Result, Ok, Err, if◌then◌else◌}
use Rattle.hb_tree.specs.declared.{limits.TheConstants.TEXT_BYTES_MAX, node.Op.Op}
use Rattle.hb_tree.specs.declared.node.Op.TheVariants as op
use Rattle.hb_eval.specs.declared.{value.Value.Value, stop.Stop.Stop, stop.Fail.Fail}
use Rattle.hb_eval.specs.declared.value.Value.TheVariants as value
use Rattle.hb_eval.specs.declared.stop.Stop.TheVariants as stop
use Rattle.hb_eval.specs.declared.stop.Fail.TheVariants as fail
use Rattle.hb_eval.specs.Values.{is_nil, same}

-- where an operand is of another kind: nil comes before all else
abbrev pub misfit : Value → Value → Stop
misfit a b = if is_nil a || is_nil b then stop.NilValue else stop.BadOperand

-- the number is one of 64 bits with a sign
abbrev pub is_int : ℤ → Bool
is_int (pos n) = nat_lt n (2 ^ 63)
is_int (negsuc n) = nat_lt n (2 ^ 63)

abbrev pub int_of : ℤ → Result Value Stop
int_of n = if is_int n then Ok (value.Int n) else Err stop.Overflow

abbrev pub checked : Option ℤ → Result Value Stop
checked None = Err stop.Overflow
checked (Some n) = Ok (value.Int n)

abbrev pub text_of : List ℕ → Result Value Stop
text_of bytes = if nat_le (length bytes) TEXT_BYTES_MAX then Ok (value.Str bytes) else Err stop.LongText

-- what is asked of two numbers
abbrev pub of_ints : (ℤ → ℤ → Result Value Stop) → Value → Value → Result Value Stop
of_ints f (value.Int x) (value.Int y) = f x y
of_ints f a b = Err (misfit a b)

-- what is asked of two texts
abbrev pub of_texts : (List ℕ → List ℕ → Result Value Stop) → Value → Value → Result Value Stop
of_texts f (value.Str x) (value.Str y) = f x y
of_texts f a b = Err (misfit a b)

abbrev pub operate : Op → Value → Value → Result Value Stop
operate op.Add a b = of_ints (λ x y. int_of (x +ℤ y)) a b
operate op.Sub a b = of_ints (λ x y. int_of (x -ℤ y)) a b
operate op.Mul a b = of_ints (λ x y. int_of (x *ℤ y)) a b
operate op.Less a b = of_ints (λ x y. Ok (value.Bool (int_lt x y))) a b
operate op.Concat a b = of_texts (λ x y. text_of (x ++ y)) a b
operate op.Equal a b = Ok (value.Bool (same a b))

-- the code's answer is this value or this stop, where memory did not run out
abbrev pub ComesTo : Result Value Fail → Result Value Stop → Type 0
ComesTo (Ok v) r = r ≡ Ok v
ComesTo (Err (fail.Stopped e)) r = r ≡ Err e
ComesTo (Err fail.NoMemory) r = Unit {0}

-- the two values are not both numbers, and not both texts
abbrev pub IsMixed : Value → Value → Type 0
IsMixed (value.Int x) (value.Int y) = ⊥
IsMixed (value.Str x) (value.Str y) = ⊥
IsMixed a b = Unit {0}
