-- A list of types that is filled with nil, while one after another is written.
use Rattle.std.proofs.Common.{◌≡◌, ℕ, suc, zero, ◌+◌, ◌<◌, List, [], ◌∷◌, length, take, get_or, refl, ap, arith, add-one}
use Rattle.std.proofs.Math.ListN.{set}
use Rattle.hb_types.specs.declared.types.Ty.{Ty}
use Rattle.hb_build.specs.Acts.{filled}

written : (n : ℕ) (types : List Ty) (i : ℕ) (d : Ty) → i < length types → i < n
    → set (filled n (take i types)) i (get_or types i d) ≡ filled n (take (suc i) types)
written zero types i d lt small = absurd (omega arith)
written (suc n) [] i d lt small = absurd (omega arith)
written (suc n) (y ∷ types) zero d lt small = refl
written (suc n) (y ∷ types) (suc i) d lt small = ap (λ rest. y ∷ rest) (written n types i d (omega arith) (omega arith))

pub filled-set : (n : ℕ) (types : List Ty) (i : ℕ) (d : Ty) → i < length types → i < n
    → set (filled n (take i types)) i (get_or types i d) ≡ filled n (take (i + 1) types)
filled-set n types i d lt small = rw add-one (written n types i d lt small)
