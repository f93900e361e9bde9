-- How an object in memory counts its calls, and which of them fail.
use Rattle.std.specs.Prelude.{◌≡◌, ℕ, List, Contains, Result}
use Rattle.hb_io.specs.declared.calls.Calls.{Calls}
use Rattle.hb_io.specs.Causes.{CountsFaults, one_more}

-- the numbers of the calls that fail
abbrev pub fails_of : Calls → List ℕ
fails_of c = c.fails.items

-- how many calls were made
abbrev pub made_of : Calls → ℕ
made_of c = c.made

-- how many calls failed
abbrev pub faults_of : Calls → ℕ
faults_of c = c.faults

-- the number of the next call, from 1
abbrev pub next_call : Calls → ℕ
next_call c = one_more (made_of c)

-- the next call is one of those that fail
abbrev pub FailsNext : Calls → Type 0
FailsNext c = Contains (fails_of c) (next_call c)

-- no call was made, and those with these numbers are to fail
pub record IsNewCalls (c : Calls) (fails : List ℕ) : Type 0 where
  pub listed : fails_of c ≡ fails
  pub made : made_of c ≡ 0
  pub faults : faults_of c ≡ 0

-- one call more was made, and the same calls are to fail as before
pub record Counts {T E : Type 0} (old new : Calls) (result : Result T E) : Type 0 where
  pub listed : fails_of new ≡ fails_of old
  pub made : made_of new ≡ next_call old
  pub faults : CountsFaults (faults_of old) (faults_of new) result
