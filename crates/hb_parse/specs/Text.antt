-- The program that a text says, or its first fault.
use Rattle.std.specs.Prelude.{◌≡◌, ◌⊎◌, ℕ, List, Option, Some, None, length, slice_get}
use Rattle.hb_lex.specs.declared.spans.Token.{Token}
use Rattle.hb_tree.specs.Table.{Table}
use Rattle.hb_grammar.specs.declared.wanted.Wanted.{Wanted}
use Rattle.hb_grammar.specs.Language.{Act, HasActions, HasFirstActions, kinds_of}
use Rattle.hb_build.specs.{Follow.follow, Said.Said, Said.said_in}
use Rattle.hb_build.specs.declared.faults.ParseFail.{ParseFail}
use Rattle.hb_build.specs.declared.faults.ParseFail.TheVariants as fail
use Rattle.hb_build.specs.Acts.{Goes, Fails, Work, nothing}

-- the tokens are a program's, and their actions build what is said
pub record Says (text : List ℕ) (tokens : List Token) (said : Said) : Type 0 where
  pub done : List Act
  pub actions : HasActions (kinds_of tokens) done
  pub work : Work
  pub built : follow text tokens done nothing ≡ Goes work
  pub said_is : work.said ≡ said

-- the first byte of the token with this number, or the end of the text
abbrev pub byte_of : List ℕ → Option Token → ℕ
byte_of text None = length text
byte_of text (Some token) = token.from

-- the tokens stop to begin a program, which is their first fault
pub record IsMissed (text : List ℕ) (tokens : List Token) (fault : ParseFail) : Type 0 where
  pub at : ℕ
  pub wanted : Wanted
  pub done : List Act
  pub actions : HasFirstActions (kinds_of tokens) at wanted done
  pub work : Work
  pub built : follow text tokens done nothing ≡ Goes work
  pub fault_is : fault ≡ fail.Expected wanted (byte_of text (slice_get tokens at))

-- these are the actions of the tokens: those of a program, or those up to where they stop to begin one
abbrev pub AreActions : List Token → List Act → Type 0
AreActions tokens done = HasActions (kinds_of tokens) done ⊎ ((at : ℕ) × (wanted : Wanted) × HasFirstActions (kinds_of tokens) at wanted done)

-- one of the actions finds the first fault
pub record IsFound (text : List ℕ) (tokens : List Token) (fault : ParseFail) : Type 0 where
  pub done : List Act
  pub actions : AreActions tokens done
  pub found : follow text tokens done nothing ≡ Fails fault

-- the first fault of the tokens
abbrev pub IsFault : List ℕ → List Token → ParseFail → Type 0
IsFault text tokens fault = IsFound text tokens fault ⊎ IsMissed text tokens fault

-- the program says what the text says
abbrev pub IsProgramOf : List ℕ → List Token → Table → Type 0
IsProgramOf text tokens program = Says text tokens (said_in program)
