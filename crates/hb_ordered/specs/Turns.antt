-- Whose the next turn is.
use Rattle.std.specs.Prelude.{◌≡◌, ◌⊎◌, ℕ, ◌==◌, if◌then◌else◌, Bool, true, false, List, [], ◌∷◌}
use Rattle.std.specs.List.{AllByRecursion}
use Rattle.hb_turns.specs.Playing.{Taken}
use Rattle.hb_turns.specs.Players.{less, turn_order}

-- so many turns are left for the same callers
abbrev pub SameLeft : (left other : ℕ → ℕ) → Type 0
SameLeft left other = (c : ℕ) → (left c ≡ 0 → other c ≡ 0) × (other c ≡ 0 → left c ≡ 0)

-- the next turn is the caller's, and behind it this is left of the order
abbrev pub IsNextTurn : (order : List ℕ) → (left : ℕ → ℕ) → (cs : List ℕ) → (c : ℕ) → (rest : List ℕ) → Type 0
IsNextTurn order left cs c rest = turn_order order left cs ≡ c ∷ turn_order rest (less c left) cs

-- No turn is left by both numbers of turns, or the next turn is one caller's, and one order is left behind it.
abbrev pub HaveSameNext : (order : List ℕ) → (left other : ℕ → ℕ) → (cs : List ℕ) → Type 0
HaveSameNext order left other cs =
    ((turn_order order left cs ≡ []) × (turn_order order other cs ≡ []))
    ⊎ ((c : ℕ) × (rest : List ℕ) × IsNextTurn order left cs c rest × IsNextTurn order other cs c rest)

-- the caller is one of these
abbrev pub among : ℕ → List ℕ → Bool
among c [] = false
among c (d ∷ ds) = if c == d then true else among c ds

-- each turn is one of these callers'
abbrev pub AreAmong : List ℕ → List Taken → Type 0
AreAmong cs us = AllByRecursion (λ u. among u.caller cs ≡ true) us
