-- How many constructs the canonical text of a tree opens inside one another.
use Rattle.std.proofs.Common.{◌≡◌, ℕ, ◌+◌, ◌≤◌, Bool, true, false, refl, arith, max}
use Rattle.std.specs.Prelude.{nat_lt, if◌then◌else◌}
use Rattle.std.proofs.lemmas.Bool.Decides.{nat_tests}
use Rattle.hb_tree.specs.Tree.{Tree, TAssign, TPrint, TToStr, TNot, TBinary, TIf, TWhile, TCall, TDef, TDefComputed, TDeclare, TDeclareComputed, TBlock, Forest, NoTree, Trees}
use Rattle.hb_tree.specs.Canon.{level, least_left, least_right}

-- one more where it stands in parentheses
abbrev pub shielded : ℕ → Tree → ℕ → ℕ
shielded least e n = if nat_lt (level e) least then n + 1 else n

-- arguments stand in parentheses where there are any
abbrev pub enclosed : Forest → ℕ → ℕ
enclosed NoTree n = 0
enclosed (Trees e es) n = 1 + n

abbrev mutual
  pub constructs : Tree → ℕ
  constructs (TAssign id x e) = 1 + constructs e
  constructs (TPrint id e) = 1 + constructs e
  constructs (TToStr id e) = 1 + constructs e
  constructs (TNot id e) = 1 + shielded 4 e (constructs e)
  constructs (TBinary id op l r) = max (shielded (least_left op) l (constructs l)) (shielded (least_right op) r (constructs r))
  constructs (TIf id c l r) = 1 + max (constructs c) (max (constructs l) (constructs r))
  constructs (TWhile id c b) = 1 + max (constructs c) (constructs b)
  constructs (TCall id r m args) = max (shielded 5 r (constructs r)) (enclosed args (constructs_all args))
  constructs (TDef id c m site b) = 1 + max 1 (constructs b)
  constructs (TDefComputed id c e site b) = 1 + max (1 + constructs e) (constructs b)
  constructs (TDeclare id c m site asks) = 1
  constructs (TDeclareComputed id c e site asks) = 1 + constructs e
  constructs (TBlock id es) = constructs_all es
  constructs _ = 0

  pub constructs_all : Forest → ℕ
  constructs_all NoTree = 0
  constructs_all (Trees e es) = max (constructs e) (constructs_all es)

pub max-fits : (d a b m : ℕ) → d + a ≤ m → d + b ≤ m → d + max a b ≤ m
max-fits d a b m h k = grind (arith, nat_tests)

pub shielded-least : (least : ℕ) (e : Tree) (n : ℕ) → n ≤ shielded least e n
shielded-least least e n = by (nat_lt (level e) least)
  where
    by : (b : Bool) → n ≤ (if b then n + 1 else n)
    by true = omega arith
    by false = omega arith

pub shielded-most : (least : ℕ) (e : Tree) (n : ℕ) → shielded least e n ≤ n + 1
shielded-most least e n = by (nat_lt (level e) least)
  where
    by : (b : Bool) → (if b then n + 1 else n) ≤ n + 1
    by true = omega arith
    by false = omega arith

-- a place that asks for more has no fewer
pub shielded-more : (least most : ℕ) (e : Tree) (n : ℕ) → least ≤ most → shielded least e n ≤ shielded most e n
shielded-more least most e n h = by (nat_lt (level e) least) (nat_lt (level e) most) refl refl
  where
    by : (a b : Bool) → nat_lt (level e) least ≡ a → nat_lt (level e) most ≡ b → (if a then n + 1 else n) ≤ (if b then n + 1 else n)
    by true true p q = omega arith
    by true false p q = absurd (grind (arith, nat_tests))
    by false true p q = omega arith
    by false false p q = omega arith

pub enclosed-most : (es : Forest) (n : ℕ) → enclosed es n ≤ 1 + n
enclosed-most NoTree n = omega arith
enclosed-most (Trees e es) n = omega arith
