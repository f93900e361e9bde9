-- The seats of callers that were made one behind the other.
use Rattle.std.proofs.Common.{◌≡◌, ℕ, zero, suc, ◌+◌, ◌<◌, ◌≤◌, inl, inr, true, List, [], ◌∷◌, refl, arith, eq-eqb, ne_eqb}
use mathlib.Core.Logic.{dite}
use native.Mathlib.Decide.{ℕ_discrete}
use Rattle.hb_words.specs.declared.view.View.{View}
use Rattle.hb_words.specs.Words.{among, Covers}

-- so many callers, from this one on
abbrev pub counted : ℕ → ℕ → List ℕ
counted a zero = []
counted a (suc n) = a ∷ counted (suc a) n

counted_has : (c a n : ℕ) → a ≤ c → c < a + n → among c (counted a n) ≡ true
counted_has c a zero low high = absurd (omega (arith, low, high))
counted_has c a (suc n) low high = dite (ℕ_discrete c a) (λ is. rw (eq-eqb c a is) refl)
    (λ ne. let h = ne_eqb c a ne in rw h (counted_has c (suc a) n (omega arith) (omega (arith, high))))

covers_counted : (v : View) (n : ℕ) → v.caller ≡ 0 → v.owns ≡ v.caller ∷ [] → v.made ≡ suc n → Covers v (counted 1 n)
covers_counted v n zero_is own made c below = dite (ℕ_discrete c 0) (λ none. inl (rw (own, zero_is, none) refl)) (λ some. inr (counted_has c 1 n (omega arith) (omega (arith, below, made))))

-- caller 0's seat alone, and with those of one other and of three
pub covers_alone : (v : View) → v.caller ≡ 0 → v.owns ≡ v.caller ∷ [] → v.made ≡ 1 → Covers v []
covers_alone v zero_is own made = covers_counted v 0 zero_is own made

pub covers_two : (v : View) (a : ℕ) → v.caller ≡ 0 → v.owns ≡ v.caller ∷ [] → v.made ≡ 2 → a ≡ 1 → Covers v (a ∷ [])
covers_two v a zero_is own made one = rw one (covers_counted v 1 zero_is own made)

pub covers_four : (v : View) (a b d : ℕ) → v.caller ≡ 0 → v.owns ≡ v.caller ∷ [] → v.made ≡ 4 → a ≡ 1 → b ≡ 2 → d ≡ 3 → Covers v (a ∷ b ∷ d ∷ [])
covers_four v a b d zero_is own made one two three = rw (one, two, three) (covers_counted v 3 zero_is own made)
