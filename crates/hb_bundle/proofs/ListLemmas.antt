-- Equal lists have equal parts, and a list is parted in two ways.
use Rattle.std.proofs.Common.{◌≡◌, ◌⊎◌, inl, inr, ℕ, List, [], ◌∷◌, ◌++◌, refl, sym, ap, ◌∙◌}
use Rattle.std.specs.Prelude.{Some}

pub same_some : {Z : Type 0} (x z : Z) → Some x ≡ Some z → x ≡ z
same_some x z h = cc

pub head_same : (x y : ℕ) (xs ys : List ℕ) → x ∷ xs ≡ y ∷ ys → x ≡ y
head_same x y xs ys h = cc

pub tail_same : (x y : ℕ) (xs ys : List ℕ) → x ∷ xs ≡ y ∷ ys → xs ≡ ys
tail_same x y xs ys h = cc

-- the first part goes up to somewhere in the other one's first part
pub record IsFront (a b c d : List ℕ) : Type 0 where
  pub more : List ℕ
  pub front : a ++ more ≡ c
  pub rest : more ++ d ≡ b

nearer : (x y : ℕ) (a b c d : List ℕ) → x ≡ y → IsFront a b c d → IsFront (x ∷ a) b (y ∷ c) d
nearer x y a b c d e f = record { more = f.more; front = ap (λ (n : ℕ). n ∷ (a ++ f.more)) e ∙ ap (λ (l : List ℕ). y ∷ l) f.front; rest = f.rest }

pub compared : (a b c d : List ℕ) → a ++ b ≡ c ++ d → IsFront a b c d ⊎ IsFront c d a b
compared [] b c d e = inl (record { more = c; front = refl; rest = sym e })
compared (x ∷ a) b [] d e = inr (record { more = x ∷ a; front = refl; rest = e })
compared (x ∷ a) b (y ∷ c) d e = go (compared a b c d (tail_same x y (a ++ b) (c ++ d) e))
  where
    same : x ≡ y
    same = head_same x y (a ++ b) (c ++ d) e

    go : IsFront a b c d ⊎ IsFront c d a b → IsFront (x ∷ a) b (y ∷ c) d ⊎ IsFront (y ∷ c) d (x ∷ a) b
    go (inl f) = inl (nearer x y a b c d same f)
    go (inr f) = inr (nearer y x c d a b (sym same) f)

pub none_left : (a b : List ℕ) → a ++ b ≡ [] → (a ≡ []) × (b ≡ [])
none_left [] b h = (refl, h)
none_left (x ∷ a) b h = absurd (cc)
