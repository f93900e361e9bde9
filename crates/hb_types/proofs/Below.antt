-- The three ways in which a type is below another, as equations.
use Rattle.std.proofs.Common.{◌≡◌, ◌⊎◌, ℕ, inl, inr, refl, sym, ap, subst, Bool, true, false, ◌||◌, eq-eqb}
use Rattle.std.proofs.lemmas.Bool.{eqb-true}
use Rattle.hb_types.specs.declared.types.Ty.{Ty}
use Rattle.hb_types.specs.declared.types.Ty.TheVariants as ty
use Rattle.hb_types.specs.Types.{IsBelow, below_itself, nil_below, below_any, is_nil, is_any, same_ty, is_below}

pub is_below_cases : (a b : Ty) → IsBelow a b → (a ≡ b) ⊎ ((a ≡ ty.Nil) ⊎ (b ≡ ty.Any))
is_below_cases a _ below_itself = inl refl
is_below_cases _ b nil_below = inr (inl refl)
is_below_cases a _ below_any = inr (inr refl)

pub is_below_same : (a b : Ty) → a ≡ b → IsBelow a b
is_below_same a b e = subst (λ c. IsBelow a c) e below_itself

pub is_below_nil : (a b : Ty) → a ≡ ty.Nil → IsBelow a b
is_below_nil a b e = subst (λ c. IsBelow c b) (sym e) nil_below

pub is_below_any : (a b : Ty) → b ≡ ty.Any → IsBelow a b
is_below_any a b e = subst (λ c. IsBelow a c) (sym e) below_any

below-itself : (a : Ty) → is_below a a ≡ true
below-itself (ty.Class c) = eq-eqb c.0 c.0 refl
below-itself _ = refl

either-true : (b : Bool) → (b || true) ≡ true
either-true true = refl
either-true false = refl

pub is_below_of : (a b : Ty) → IsBelow a b → is_below a b ≡ true
is_below_of a _ below_itself = below-itself a
is_below_of _ b nil_below = refl
is_below_of a _ below_any = ap (λ b. b || same_ty a ty.Any) (either-true (is_nil a))

pub same_ty_is : (a b : Ty) → same_ty a b ≡ true → a ≡ b
same_ty_is ty.Nil ty.Nil h = refl
same_ty_is ty.Bool ty.Bool h = refl
same_ty_is ty.Int ty.Int h = refl
same_ty_is ty.Str ty.Str h = refl
same_ty_is ty.Any ty.Any h = refl
same_ty_is (ty.Class c) (ty.Class d) h = ap (λ (n : ℕ). ty.Class (record { 0 = n })) (eqb-true c.0 d.0 h)
same_ty_is _ _ h = absurd (cc)

pub same_ty_itself : (a : Ty) → same_ty a a ≡ true
same_ty_itself (ty.Class c) = eq-eqb c.0 c.0 refl
same_ty_itself _ = refl

nil-is : (a : Ty) → is_nil a ≡ true → a ≡ ty.Nil
nil-is ty.Nil h = refl
nil-is _ h = absurd (cc)

any-is : (a : Ty) → is_any a ≡ true → a ≡ ty.Any
any-is ty.Any h = refl
any-is _ h = absurd (cc)

pub is_below_from : (a b : Ty) → is_below a b ≡ true → IsBelow a b
is_below_from a b h = go (is_nil a) refl (is_any b) refl h
  where
    go : (p : Bool) → is_nil a ≡ p → (q : Bool) → is_any b ≡ q → (p || q || same_ty a b) ≡ true → IsBelow a b
    go true e q f h = is_below_nil a b (nil-is a e)
    go false e true f h = is_below_any a b (any-is b f)
    go false e false f h = is_below_same a b (same_ty_is a b h)
