-- What is kept by key, and what it used.
use Rattle.std.proofs.Common.{◌≡◌, ◌≢◌, ℕ, zero, suc, ◌<◌, ◌==◌, Bool, true, false, if◌then◌else◌, ◌||◌, List, [], ◌∷◌, ◌++◌, length, set, Option, Some, None, refl, sym, ap, ◌∙◌, arith}
use Rattle.std.specs.{Prelude.slice_get, Prelude.is_some, List.AllByRecursion, List.FoldsTo, Option.option_flatten}
use Rattle.std.proofs.lemmas.Bool.{eqb-true, eqb-false}
use Rattle.hb_cache.specs.{Kept.count_in, Kept.kept_at, Held.has_seen}
use Rattle.hb_cache.specs.declared.{kept.Seen.Seen, kept.Kept.Kept}

-- a count is there where some hold was of the key
pub counted : (counts : List Seen) (k : ℕ) → has_seen counts k ≡ is_some (count_in counts k)
counted [] k = refl
counted (s ∷ rest) k = by (s.key.0 == k) (counted rest k)
  where
    by : (b : Bool) → has_seen rest k ≡ is_some (count_in rest k) → (b || has_seen rest k) ≡ is_some (if b then Some s.changes else count_in rest k)
    by true e = refl
    by false e = e

-- what each call gave
pub each_result : {F X : Type 0} (step : F → X → F → Type 0) (P : X → Type 0) → ((p : F) (x : X) (q : F) → step p x q → P x) → (p : F) (xs : List X) (q : F) → FoldsTo step p xs q → AllByRecursion P xs
each_result step P one p [] q w = tt
each_result step P one p (x ∷ xs) q w = (one p x w.0 w.1, each_result step P one w.0 xs q w.2)

none-at : (ys : List (Option Kept)) → AllByRecursion (λ y. y ≡ None) ys → (k : ℕ) → kept_at ys k ≡ None
none-at [] w k = refl
none-at (y ∷ ys) w zero = w.0
none-at (y ∷ ys) w (suc k) = none-at ys w.1 k

-- more places with nothing keep nothing more
pub kept_at-more : (l ys : List (Option Kept)) → AllByRecursion (λ y. y ≡ None) ys → (k : ℕ) → kept_at (l ++ ys) k ≡ kept_at l k
kept_at-more [] ys w k = none-at ys w k
kept_at-more (x ∷ l) ys w zero = refl
kept_at-more (x ∷ l) ys w (suc k) = kept_at-more l ys w k

pub get-set : {A : Type 0} (l : List A) (i : ℕ) (a : A) → i < length l → slice_get (set l i a) i ≡ Some a
get-set [] i a w = absurd (omega arith)
get-set (x ∷ l) zero a w = refl
get-set (x ∷ l) (suc i) a w = get-set l i a (omega arith)

pub get-set_else : {A : Type 0} (l : List A) (i k : ℕ) (a : A) → i ≢ k → slice_get (set l i a) k ≡ slice_get l k
get-set_else (x ∷ l) zero zero a ne = absurd (ne refl)
get-set_else (x ∷ l) (suc i) (suc k) a ne = get-set_else l i k a (λ e. ne (ap suc e))
get-set_else _ _ _ _ _ = refl

-- what is kept after a write at a place
pub kept_at-set : (l : List (Option Kept)) (i : ℕ) (o : Option Kept) → i < length l → (k : ℕ) → kept_at (set l i o) k ≡ (if i == k then o else kept_at l k)
kept_at-set l i o w k = by (i == k) refl
  where
    by : (b : Bool) → (i == k) ≡ b → kept_at (set l i o) k ≡ (if b then o else kept_at l k)
    by true e = ap (λ n. kept_at (set l i o) n) (sym (eqb-true i k e)) ∙ ap option_flatten (get-set l i o w)
    by false e = ap option_flatten (get-set_else l i k o (eqb-false i k e))
