-- Where a text of a derivation ends: behind its line `end`, and it has no such line before.
use Rattle.std.specs.Prelude.{◌≡◌, ◌⊎◌, ℕ, List, [], ◌∷◌, ◌++◌, length, take, codes}
use Rattle.std.specs.List.{flat_map, AllByRecursion}
use Rattle.hb_deriv_text.specs.Faults.{IsLine}

-- lines with their line feeds
abbrev pub lines_of : List (List ℕ) → List ℕ
lines_of lines = flat_map (λ line. line ++ 10 ∷ []) lines

-- a line that is not `end`
abbrev pub IsOther : List ℕ → Type 0
IsOther line = IsLine line × (line ≡ codes "end" → ⊥)

-- other lines, and behind them the line `end`
pub record IsEnded (bytes : List ℕ) : Type 0 where
  pub lines : List (List ℕ)
  pub others : AllByRecursion IsOther lines
  pub parts : lines_of lines ++ codes "end\n" ≡ bytes

-- other lines, and behind them a line without its line feed, or nothing
pub record IsUnended (bytes : List ℕ) : Type 0 where
  pub lines : List (List ℕ)
  pub others : AllByRecursion IsOther lines
  pub last : List ℕ
  pub plain : IsLine last
  pub parts : lines_of lines ++ last ≡ bytes

-- so many bytes stand up to the first line `end`, or it is all bytes, where there is no such line
abbrev pub IsUpToEnd : List ℕ → ℕ → Type 0
IsUpToEnd bytes n = IsEnded (take n bytes) ⊎ ((n ≡ length bytes) × IsUnended bytes)
