-- Completeness: words that ask for a job, bytes with no fault for it, and no fault of source or sink come to what is due, or to want of memory.
use Rattle.std.specs.Prelude.{◌≡◌, ◌≢◌, ◌≤◌, ◌⊎◌, ℕ, List, Option, Some, length}
use Rattle.hb_io.specs.Causes.{Rose}
use Rattle.hb_tree.specs.Table.{Table}
use Rattle.hb_tree.specs.Program.{IsProgram}
use Rattle.hb_gen.specs.Generated.{generated}
use Rattle.hb_bundle.specs.Bundle.{AreTexts, HasProgram}
use Rattle.hb_jobs.specs.Jobs.{Derive, Gen, Run, Verify, Wanted, Work}
use Rattle.hb_top.specs.Answers.{Ended, Ends, IsTextOf}
use Rattle.hb_top.specs.declared.top.TheConstants.{LIMIT}
use Rattle.hb_top.specs.declared.verify.TheConstants.{BUNDLE_LIMIT}

-- the text says a program
abbrev pub IsInGrammar : List ℕ → Type 0
IsInGrammar text = (program : Table) × IsTextOf text program

-- the bytes are a program's text behind its length, and texts of derivations for the program
pub record IsWholeBundle (bytes : List ℕ) : Type 0 where
  pub text : List ℕ
  pub rest : List ℕ
  pub begins : HasProgram bytes text rest
  pub program : Table
  pub said : IsTextOf text program
  pub is : IsProgram program
  pub texts : AreTexts program rest

-- the source tells bytes within the limit, of which this holds
abbrev pub Tells : (limit : ℕ) → (List ℕ → Type 0) → Option (List ℕ) → Type 0
Tells limit Is left = (bytes : List ℕ) × (left ≡ Some bytes) × (length bytes ≤ limit) × Is bytes

-- what the job goes by has no fault
abbrev pub HasNoFault : Wanted → Option (List ℕ) → Type 0
HasNoFault (Run options) left = Tells LIMIT IsInGrammar left
HasNoFault Derive left = Tells LIMIT IsInGrammar left
HasNoFault Verify left = Tells BUNDLE_LIMIT IsWholeBundle left
HasNoFault (Gen size) left = Unit {0}
HasNoFault (Work size) left = IsInGrammar (generated size)

-- neither count of faults rose
pub record HadNoFault (old new : Ends) : Type 0 where
  pub reading : Rose old.read_faults new.read_faults → ⊥
  pub writing : Rose old.write_faults new.write_faults → ⊥

-- what is due came whole, and is no refusal; the one other answer is want of memory
abbrev pub IsComplete : Option Wanted → Ends → Ends → (answer : ℕ) → Type 0
IsComplete asked old new answer = (job : Wanted) → asked ≡ Some job → HasNoFault job old.left → HadNoFault old new → answer ≢ 3
    → Ended asked old new answer × ((answer ≡ 0) ⊎ (answer ≡ 6))
