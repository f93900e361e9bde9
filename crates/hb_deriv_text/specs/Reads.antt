-- What the reader of texts answers.
use Rattle.std.specs.Prelude.{◌≡◌, ℕ, List, Option, Some, None, Result, Ok, Err, Bool, true, false}
use Rattle.hb_tree.specs.Table.{Table}
use Rattle.hb_deriv.specs.declared.raw.RawDerivation.{RawDerivation}
use Rattle.hb_deriv.specs.Derivation.{Content}
use Rattle.hb_deriv_text.specs.Text.{raw_content_of}
use Rattle.hb_deriv_text.specs.Written.{IsSayable}
use Rattle.hb_deriv_text.specs.declared.texts.Draft as declared
use Rattle.hb_deriv_text.specs.declared.texts.DerivFail.{DerivFail}
use Rattle.hb_deriv_text.specs.declared.texts.DerivFail.TheVariants as fail
use Rattle.hb_deriv_text.specs.Reading.{Draft, read_of}

abbrev pub draft_of : declared.Draft → Draft
draft_of d = record { stage = d.stage; content = raw_content_of d.content }

-- the draft with the line, or it may not follow
abbrev pub Takes : Option Draft → Draft → Bool → Type 0
Takes next new true = next ≡ Some new
Takes next new false = next ≡ None

abbrev pub TakesLine : Option Draft → Draft → Result Bool DerivFail → Type 0
TakesLine next new (Ok taken) = Takes next new taken
TakesLine next new (Err (fail.BadText at)) = ⊥
TakesLine next new (Err fail.NoMemory) = Unit {0}

-- what the text says, or where it goes wrong
abbrev pub ReadsLines : Table → List ℕ → Result RawDerivation DerivFail → Type 0
ReadsLines t bytes (Ok raw) = read_of t bytes ≡ Ok (raw_content_of raw)
ReadsLines t bytes (Err (fail.BadText at)) = read_of t bytes ≡ Err at
ReadsLines t bytes (Err fail.NoMemory) = Unit {0}

-- what a text says: all that it names is the program's
pub record IsReadAs (t : Table) (bytes : List ℕ) (d : Content) : Type 0 where
  pub says : read_of t bytes ≡ Ok d
  pub sayable : IsSayable t d

abbrev pub Reads : Table → List ℕ → Result RawDerivation DerivFail → Type 0
Reads t bytes (Ok raw) = IsReadAs t bytes (raw_content_of raw)
Reads t bytes (Err (fail.BadText at)) = read_of t bytes ≡ Err at
Reads t bytes (Err fail.NoMemory) = Unit {0}
