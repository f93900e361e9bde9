-- The seats of the callers that were made.
use Rattle.std.proofs.Common.{◌≡◌, ℕ, zero, suc, ◌<◌, ◌⊎◌, inl, inr, true, [], ◌∷◌, refl, arith}
use Rattle.hb_words.specs.declared.view.View.{View}
use Rattle.hb_words.specs.Words.{among, Covers}

-- caller 0's seat, and those of the callers 1 and 2
pub covers_pair : (v : View) (a b : ℕ) → v.caller ≡ 0 → v.owns ≡ v.caller ∷ [] → v.made ≡ 3 → a ≡ 1 → b ≡ 2 → Covers v (a ∷ b ∷ [])
covers_pair v a b first own made one two = by
  where
    by : (c : ℕ) → c < v.made → (among c v.owns ≡ true) ⊎ (among c (a ∷ b ∷ []) ≡ true)
    by zero below = inl (rw (own, first) refl)
    by (suc zero) below = inr (rw one refl)
    by (suc (suc zero)) below = inr (rw (one, two) refl)
    by (suc (suc (suc c))) below = absurd (omega (arith, below, made))
