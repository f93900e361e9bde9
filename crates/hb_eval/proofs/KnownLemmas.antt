-- The classes of objects in hand stay those of the program.
use Rattle.std.proofs.Common.{◌≡◌, ℕ, zero, suc, List, [], ◌∷◌, ◌++◌, length, take, drop, Option, Some, None, Bool, true, false, nat_eq, sym, subst}
use Rattle.std.specs.Prelude.{ℤ, ◌+ℤ◌, ◌-ℤ◌, ◌*ℤ◌, Result, Ok, Err, if◌then◌else◌, nat_le}
use Rattle.std.specs.List.{AllByRecursion}
use Rattle.std.proofs.lemmas.List.{take-append-drop}
use Rattle.hb_tree.specs.declared.{node.Op.Op}
use Rattle.hb_tree.specs.declared.node.Op.TheVariants as op
use Rattle.hb_tree.specs.declared.limits.TheConstants.{TEXT_BYTES_MAX}
use Rattle.hb_tree.specs.Table.{Table}
use Rattle.hb_tree.proofs.Lists.{each_append}
use Rattle.hb_eval.specs.declared.{value.Value.Value, stop.Stop.Stop}
use Rattle.hb_eval.specs.declared.value.Value.TheVariants as value
use Rattle.hb_eval.specs.declared.stop.Stop.TheVariants as stop
use Rattle.hb_eval.specs.Values.{IsKnown}
use Rattle.hb_eval.specs.Operators.{is_int, int_of, text_of, operate}
use Rattle.hb_eval.specs.State.{Bindings, value_at, bind}

pub pushed_known : (t : Table) (xs : List Value) (v : Value) → AllByRecursion (IsKnown t) xs → IsKnown t v → AllByRecursion (IsKnown t) (xs ++ v ∷ [])
pushed_known t xs v all known = each_append (IsKnown t) xs (v ∷ []) all (known, tt)

abbrev Comes : Table → Result Value Stop → Type 0
Comes t (Ok v) = IsKnown t v
Comes t (Err e) = Unit {0}

int_known : (t : Table) (n : ℤ) → Comes t (int_of n)
int_known t n = go (is_int n)
  where
    go : (fits : Bool) → Comes t (if fits then Ok (value.Int n) else Err stop.Overflow)
    go true = tt
    go false = tt

-- a text that is not too long
pub text_known : (t : Table) (bytes : List ℕ) (v : Value) → text_of bytes ≡ Ok v → IsKnown t v
text_known t bytes v e = subst (Comes t) e (go (nat_le (length bytes) TEXT_BYTES_MAX))
  where
    go : (fits : Bool) → Comes t (if fits then Ok (value.Str bytes) else Err stop.LongText)
    go true = tt
    go false = tt

-- what an operator makes of two numbers
operated_known : (t : Table) (o : Op) (x y : ℤ) → Comes t (operate o (value.Int x) (value.Int y))
operated_known t op.Add x y = int_known t (x +ℤ y)
operated_known t op.Sub x y = int_known t (x -ℤ y)
operated_known t op.Mul x y = int_known t (x *ℤ y)
operated_known t _ x y = tt

pub number_known : (t : Table) (o : Op) (x y : ℤ) (v : Value) → Ok v ≡ operate o (value.Int x) (value.Int y) → IsKnown t v
number_known t o x y v e = subst (Comes t) (sym e) (operated_known t o x y)

bind_known : (t : Table) (bs : Bindings) (x : ℕ) (v : Value) → AllByRecursion (λ b. IsKnown t b.1) bs → IsKnown t v → AllByRecursion (λ b. IsKnown t b.1) (bind bs x v)
bind_known t [] x v all known = (known, tt)
bind_known t (b ∷ bs) x v all known = go (nat_eq b.0.0 x) (bind_known t bs x v all.1 known)
  where
    go : (same : Bool) → AllByRecursion (λ b. IsKnown t b.1) (bind bs x v) → AllByRecursion (λ b. IsKnown t b.1) (if same then (record { 0 = x }, v) ∷ bs else b ∷ bind bs x v)
    go true rest = (known, all.1)
    go false rest = (all.0, rest)

pub taken_known : (t : Table) (n : ℕ) (bs : Bindings) → AllByRecursion (λ b. IsKnown t b.1) bs → AllByRecursion (λ b. IsKnown t b.1) (take n bs)
taken_known t zero bs all = tt
taken_known t (suc n) [] all = tt
taken_known t (suc n) (b ∷ bs) all = (all.0, taken_known t n bs all.1)

pub dropped_known : (t : Table) (n : ℕ) (bs : Bindings) → AllByRecursion (λ b. IsKnown t b.1) bs → AllByRecursion (λ b. IsKnown t b.1) (drop n bs)
dropped_known t zero bs all = all
dropped_known t (suc n) [] all = tt
dropped_known t (suc n) (b ∷ bs) all = dropped_known t n bs all.1

-- a variable of the frame that gets a known value
pub bound_known : (t : Table) (n x : ℕ) (v : Value) (old new : Bindings) → drop n new ≡ bind (drop n old) x v → take n new ≡ take n old
    → AllByRecursion (λ b. IsKnown t b.1) old → IsKnown t v → AllByRecursion (λ b. IsKnown t b.1) new
bound_known t n x v old new bound below all known =
    subst (AllByRecursion (λ b. IsKnown t b.1)) (take-append-drop n new)
    (each_append (λ b. IsKnown t b.1) (take n new) (drop n new)
    (subst (AllByRecursion (λ b. IsKnown t b.1)) (sym below) (taken_known t n old all))
    (subst (AllByRecursion (λ b. IsKnown t b.1)) (sym bound) (bind_known t (drop n old) x v (dropped_known t n old all) known)))

abbrev Found : Table → Option Value → Type 0
Found t None = Unit {0}
Found t (Some v) = IsKnown t v

found : (t : Table) (bs : Bindings) (x : ℕ) → AllByRecursion (λ b. IsKnown t b.1) bs → Found t (value_at bs x)
found t [] x all = tt
found t (b ∷ bs) x all = go (nat_eq b.0.0 x) (found t bs x all.1)
  where
    go : (same : Bool) → Found t (value_at bs x) → Found t (if same then Some b.1 else value_at bs x)
    go true rest = all.0
    go false rest = rest

-- the value of a variable
pub found_known : (t : Table) (bs : Bindings) (x : ℕ) (v : Value) → AllByRecursion (λ b. IsKnown t b.1) bs → Some v ≡ value_at bs x → IsKnown t v
found_known t bs x v all e = subst (Found t) (sym e) (found t bs x all)
