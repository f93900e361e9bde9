-- The bytes of a bundle: a program's text, and derivations for the program. And where bytes that are none go wrong.
use Rattle.std.specs.Prelude.{◌≡◌, ◌≤◌, ◌+◌, ℕ, List, [], ◌∷◌, ◌++◌, length, All, codes, decimal, nat_eq, if◌then◌else◌}
use Rattle.std.specs.List.{flat_map}
use Rattle.hb_tree.specs.Table.{Table}
use Rattle.hb_deriv.specs.Derivation.{Content}
use Rattle.hb_deriv_text.specs.Text.{text_of}
use Rattle.hb_deriv_text.specs.Written.{IsSayable}

-- the line feed behind a text that does not end with one
abbrev pub closing : List ℕ → List ℕ
closing [] = 10 ∷ []
closing (b ∷ []) = if nat_eq b 10 then [] else 10 ∷ []
closing (b ∷ c ∷ text) = closing (c ∷ text)

-- a program's text, behind its length
abbrev pub program_of : List ℕ → List ℕ
program_of text = codes "program " ++ decimal (length text) ++ codes "\n" ++ text ++ closing text

-- texts of derivations, one behind another
abbrev pub texts_of : Table → List Content → List ℕ
texts_of t ds = flat_map (text_of t) ds

-- the bundle of this text, whose program is the table, and of these derivations
abbrev pub bundle_of : List ℕ → Table → List Content → List ℕ
bundle_of text t ds = program_of text ++ texts_of t ds

-- ── reading ──

-- these bytes are texts of derivations for the program
pub record AreTexts (t : Table) (bytes : List ℕ) : Type 0 where
  pub contents : List Content
  pub sayable : All (IsSayable t) contents
  pub written : texts_of t contents ≡ bytes

-- the bytes begin with this text behind its length, and the rest stands behind it
pub record HasProgram (bytes text rest : List ℕ) : Type 0 where
  pub short : length text ≤ 1048576
  pub parts : program_of text ++ rest ≡ bytes

-- the first fault: no text of a program begins the bytes
abbrev pub HasNoProgram : List ℕ → Type 0
HasNoProgram bytes = (text rest : List ℕ) → HasProgram bytes text rest → ⊥
