-- What is told of texts of derivations.
use Rattle.std.specs.Prelude.{◌≡◌, ◌<◌, ◌≤◌, ℕ, List, length, take, All, Result, Ok, Err, Bool}
use Rattle.std.specs.List.{flat_map, list_all}
use Rattle.hb_tree.specs.Table.{Table}
use Rattle.hb_deriv.specs.Derivation.{Content}
use Rattle.hb_deriv_text.specs.Text.{text_of}
use Rattle.hb_deriv_text.specs.Written.{IsSayable}
use Rattle.hb_deriv_text.specs.Faults.{IsFault}
use Rattle.hb_bundle.specs.Bundle.{AreTexts, texts_of}
use Rattle.hb_bundle.specs.Verdicts.{verdict_line, is_good}
use Rattle.hb_bundle.specs.Told.{Adds}
use Rattle.hb_bundle.specs.declared.verdicts.Verdicts.{Verdicts}
use Rattle.hb_bundle.specs.declared.verifying.TextsFail.{TextsFail}
use Rattle.hb_bundle.specs.declared.verifying.TextsFail.TheVariants as fail

-- the bytes are texts of derivations, and these are their lines and whether all are good
pub record AreVerified (t : Table) (bytes lines : List ℕ) (good : Bool) : Type 0 where
  pub contents : List Content
  pub sayable : All (IsSayable t) contents
  pub written : texts_of t contents ≡ bytes
  pub told : lines ≡ flat_map (verdict_line t) contents
  pub all : good ≡ list_all (is_good t) contents

-- what is told of bytes, or where they go wrong
abbrev pub VerifiesTexts : Table → List ℕ → Result Verdicts TextsFail → Type 0
VerifiesTexts t bytes (Ok v) = AreVerified t bytes v.lines.items v.all_good
VerifiesTexts t bytes (Err (fail.BadTexts at)) = IsFault (AreTexts t) bytes at
VerifiesTexts t bytes (Err fail.NoMemory) = Unit {0}

-- so many bytes are the text of a derivation, of which a line is added
pub record VerifiesOne (t : Table) (bytes : List ℕ) (n : ℕ) (old new : Verdicts) : Type 0 where
  pub some : 0 < n
  pub within : n ≤ length bytes
  pub content : Content
  pub sayable : IsSayable t content
  pub written : text_of t content ≡ take n bytes
  pub added : Adds t content old new

-- the first text, or where texts go wrong
abbrev pub VerifiesFirst : Table → List ℕ → Verdicts → Verdicts → Result ℕ TextsFail → Type 0
VerifiesFirst t bytes old new (Ok n) = VerifiesOne t bytes n old new
VerifiesFirst t bytes old new (Err (fail.BadTexts at)) = IsFault (AreTexts t) bytes at
VerifiesFirst t bytes old new (Err fail.NoMemory) = Unit {0}
