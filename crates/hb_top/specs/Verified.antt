-- What a bundle comes to: a line of each derivation, or of its first fault.
use Rattle.std.specs.Prelude.{◌≡◌, ◌⊎◌, ℕ, ◌+◌, List, length, codes, Bool, if◌then◌else◌}
use Rattle.hb_tree.specs.Table.{Table}
use Rattle.hb_deriv_text.specs.Faults.{IsFault}
use Rattle.hb_bundle.specs.Bundle.{AreTexts, HasNoProgram, program_of}
use Rattle.hb_bundle.specs.Verifies.{AreVerified}
use Rattle.hb_top.specs.Faults.{Fault, fault_line}
use Rattle.hb_top.specs.Outcomes.{Outcome, faulty}
use Rattle.hb_top.specs.declared.due.Ending.{Ending}
use Rattle.hb_top.specs.declared.due.Ending.TheVariants.{Done, Stopped}

-- the bytes are no bundle from this one on
abbrev pub bundle_fault : ℕ → Fault
bundle_fault at = record { words = codes "BadBundle"; at = at }

-- this is told, with the place of the byte in the bundle
abbrev pub bad_bundle : (bytes : List ℕ) → (at : ℕ) → Outcome
bad_bundle bytes at = faulty (fault_line bytes (bundle_fault at)) (length bytes)

-- no program begins the bytes
pub record IsNoBundle (bytes : List ℕ) (o : Outcome) : Type 0 where
  pub no_program : HasNoProgram bytes
  pub same : o ≡ bad_bundle bytes 0

-- done where all derivations are good
abbrev pub ending_by : (good : Bool) → Ending
ending_by good = if good then Done else Stopped

-- these lines are due, and so many bytes of the source were taken
abbrev pub verdicts : (lines : List ℕ) → (good : Bool) → (takes : ℕ) → Outcome
verdicts lines good takes = record { ending = ending_by good; text = lines; takes = takes }

-- the rest behind the program are derivations for it, of each of which a line is due
pub record AreJudged (t : Table) (rest : List ℕ) (takes : ℕ) (o : Outcome) : Type 0 where
  pub lines : List ℕ
  pub good : Bool
  pub verified : AreVerified t rest lines good
  pub same : o ≡ verdicts lines good takes

-- the rest is no derivations for the program, and this is where it goes wrong
pub record AreWrong (t : Table) (bytes text rest : List ℕ) (o : Outcome) : Type 0 where
  pub at : ℕ
  pub fault : IsFault (AreTexts t) rest at
  pub same : o ≡ bad_bundle bytes (length (program_of text) + at)

-- what the rest of a bundle comes to behind this text, which says the program
abbrev pub IsVerified : (bytes text rest : List ℕ) → Table → Outcome → Type 0
IsVerified bytes text rest t o = AreJudged t rest (length bytes) o ⊎ AreWrong t bytes text rest o
