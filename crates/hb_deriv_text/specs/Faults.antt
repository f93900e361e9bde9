-- Where bytes go wrong that are to be such a text as is asked for.
use Rattle.std.specs.Prelude.{◌≡◌, ◌⊎◌, ℕ, List, [], ◌∷◌, ◌++◌, length, false, nat_eq}
use Rattle.std.specs.List.{AllByRecursion}

-- the bytes of one line, without its line feed
abbrev pub IsLine : List ℕ → Type 0
IsLine line = AllByRecursion (λ b. nat_eq b 10 ≡ false) line

-- these bytes begin such a text
pub record Begins (IsSuch : List ℕ → Type 0) (bytes : List ℕ) : Type 0 where
  pub behind : List ℕ
  pub text : IsSuch (bytes ++ behind)

-- whole lines that begin such a text
pub record HasWholeLines (IsSuch : List ℕ → Type 0) (bytes : List ℕ) : Type 0 where
  pub lines : List ℕ
  pub ends : bytes ≡ lines ++ 10 ∷ []
  pub begins : Begins IsSuch bytes

-- Bytes that are no such text go wrong at a place: up to there stand whole lines that begin one, or nothing,
-- and no whole line stands there with which they begin one still.
pub record IsFault (IsSuch : List ℕ → Type 0) (bytes : List ℕ) (at : ℕ) : Type 0 where
  pub other : IsSuch bytes → ⊥
  pub front : List ℕ
  pub rest : List ℕ
  pub parts : front ++ rest ≡ bytes
  pub place : length front ≡ at
  pub fits : (front ≡ []) ⊎ HasWholeLines IsSuch front
  pub stops : (line behind : List ℕ) → IsLine line → rest ≡ line ++ 10 ∷ behind → Begins IsSuch (front ++ (line ++ 10 ∷ [])) → ⊥
