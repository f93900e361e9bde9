-- Sums over keys.
use Rattle.std.proofs.Common.{◌≡◌, ◌≢◌, ℕ, zero, suc, ◌+◌, ◌<◌, ◌≤◌, sym, refl, ap, arith}
use mathlib.Core.Logic.{dite}
use native.Mathlib.Decide.{ℕ_discrete}
use Rattle.hb_tables.specs.Plain.{total}

pub total_same : (n : ℕ) (f g : ℕ → ℕ) → ((k : ℕ) → k < n → f k ≡ g k) → total n f ≡ total n g
unfolding total
total_same zero f g e = refl
total_same (suc n) f g e = let r = total_same n f g (λ k l. e k (omega arith)) in let h = e n (omega arith) in omega (arith, r, h)

pub total_zero : (n : ℕ) → total n (λ k. 0) ≡ 0
unfolding total
total_zero zero = refl
total_zero (suc n) = let r = total_zero n in omega (arith, r)

-- two functions that differ at one number
pub total_one : (n k : ℕ) (f g : ℕ → ℕ) → k < n → ((j : ℕ) → j ≢ k → f j ≡ g j) → total n f + g k ≡ total n g + f k
unfolding total
total_one zero k f g l e = absurd (omega arith)
total_one (suc n) k f g l e = dite (ℕ_discrete k n)
    (λ is. let r = total_same n f g (λ j m. e j (λ h. omega arith)) in let a = ap f is in let b = ap g is in omega (arith, r, a, b))
    (λ ne. let r = total_one n k f g (omega arith) e in let h = e n (λ h. ne (sym h)) in omega (arith, r, h))

pub total_at : (n k : ℕ) (f : ℕ → ℕ) → k < n → f k ≤ total n f
unfolding total
total_at zero k f l = absurd (omega arith)
total_at (suc n) k f l = dite (ℕ_discrete k n) (λ is. let a = ap f is in omega (arith, a)) (λ ne. let r = total_at n k f (omega arith) in omega (arith, r))
