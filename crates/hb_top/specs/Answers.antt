-- The call's answer, by its words, and by what its source and sink tell before and after.
use Rattle.std.specs.Prelude.{◌≡◌, ◌≢◌, ◌≤◌, ◌<◌, ◌⊎◌, ℕ, List, Option, Some, None, IsNone, length}
use Rattle.std.specs.Io.KnownBytes.{Appends, Keeps}
use Rattle.hb_io.specs.Causes.{Rose}
use Rattle.hb_io.specs.Moves.{AppendsFront, TakesCount}
use Rattle.hb_lex.specs.declared.spans.Token.{Token}
use Rattle.hb_lex.specs.Text.{HasTokens}
use Rattle.hb_tree.specs.Table.{Table}
use Rattle.hb_tree.specs.Program.{IsProgram}
use Rattle.hb_draft.specs.Laid.{IsLaid}
use Rattle.hb_parse.specs.Text.{IsProgramOf}
use Rattle.hb_gen.specs.Generated.{generated}
use Rattle.hb_bundle.specs.Bundle.{HasProgram}
use Rattle.hb_jobs.specs.Jobs.{Derive, Gen, Options, Run, Verify, Wanted, Work}
use Rattle.hb_top.specs.Derived.{IsDerived}
use Rattle.hb_top.specs.Faults.{Fault, IsFirstFault, fault_line}
use Rattle.hb_top.specs.Outcomes.{Outcome, faulty, generated_text, status_of, too_long, words_refused}
use Rattle.hb_top.specs.Reports.{AreFixed, IsReported}
use Rattle.hb_top.specs.Verified.{IsNoBundle, IsVerified}
use Rattle.hb_top.specs.Work.{IsWorked}
use Rattle.hb_top.specs.declared.due.Ending.TheVariants.{TextRefused, WordsRefused}
use Rattle.hb_top.specs.declared.top.TheConstants.{LIMIT}
use Rattle.hb_top.specs.declared.verify.TheConstants.{BUNDLE_LIMIT}

-- what the source and the sink tell at one moment
pub record Ends : Type 0 where
  pub left : Option (List ℕ)
  pub read_faults : ℕ
  pub held : Option (List ℕ)
  pub write_faults : ℕ

-- the text has a fault, which is told, and so many bytes of the source were taken
pub record IsFaulty (text : List ℕ) (takes : ℕ) (o : Outcome) : Type 0 where
  pub fault : Fault
  pub first : IsFirstFault text fault
  pub same : o ≡ faulty (fault_line text fault) takes

-- the text says this program, whose table is laid
pub record IsTextOf (text : List ℕ) (program : Table) : Type 0 where
  pub tokens : List Token
  pub read : HasTokens text tokens
  pub says : IsProgramOf text tokens program
  pub laid : IsLaid program

-- the text is a program, which comes to this
pub record IsWhole (Comes : Table → Outcome → Type 0) (text : List ℕ) (o : Outcome) : Type 0 where
  pub program : Table
  pub said : IsTextOf text program
  pub is : IsProgram program
  pub comes : Comes program o

-- a text within the limit has a fault, or is a program
abbrev pub IsReadAs : (Table → Outcome → Type 0) → List ℕ → (takes : ℕ) → Outcome → Type 0
IsReadAs Comes text takes o = IsFaulty text takes o ⊎ IsWhole Comes text o

-- a text of the source: a fault, or its report
abbrev pub IsReport : Options → List ℕ → Outcome → Type 0
IsReport options text o = IsReadAs (λ t. IsReported t options (length text)) text (length text) o

-- a text of the source: a fault, or its bundle
abbrev pub IsBundle : List ℕ → Outcome → Type 0
IsBundle text o = IsReadAs (λ t. IsDerived t text) text (length text) o

-- a program begins the bytes: its text has a fault, or what stands behind it is verified
pub record IsOpened (bytes : List ℕ) (o : Outcome) : Type 0 where
  pub text : List ℕ
  pub rest : List ℕ
  pub begins : HasProgram bytes text rest
  pub comes : IsReadAs (IsVerified bytes text rest) text (length bytes) o

-- a bundle of the source: a fault, or its verdicts
abbrev pub AreVerdicts : List ℕ → Outcome → Type 0
AreVerdicts bytes o = IsNoBundle bytes o ⊎ IsOpened bytes o

-- the bytes are more than the limit, or they come to this
abbrev pub IsWithin : (limit : ℕ) → (Comes : List ℕ → Outcome → Type 0) → List ℕ → Outcome → Type 0
IsWithin limit Comes bytes o = ((limit < length bytes) × (o ≡ too_long limit)) ⊎ ((length bytes ≤ limit) × Comes bytes o)

-- what the jobs that read come to
abbrev pub IsRunOf : Options → List ℕ → Outcome → Type 0
IsRunOf options text o = IsWithin LIMIT (IsReport options) text o

abbrev pub IsDeriveOf : List ℕ → Outcome → Type 0
IsDeriveOf text o = IsWithin LIMIT IsBundle text o

abbrev pub IsVerifyOf : List ℕ → Outcome → Type 0
IsVerifyOf bytes o = IsWithin BUNDLE_LIMIT AreVerdicts bytes o

-- whose turns they are is fixed for the program that the text says
abbrev pub HasFixedTurns : Options → List ℕ → Type 0
HasFixedTurns options text = (program : Table) → IsTextOf text program → AreFixed program options.order

-- a text that is refused, or whose turns are fixed, has no other outcome
abbrev pub IsOne : Options → List ℕ → Outcome → Outcome → Type 0
IsOne options text a b = (a.ending ≡ TextRefused) ⊎ HasFixedTurns options text → a ≡ b

-- an outcome of a job that reads: that of the bytes where the source tells them, and never that of refused words
abbrev pub IsOutcomeOf : (List ℕ → Outcome → Type 0) → Option (List ℕ) → Outcome → Type 0
IsOutcomeOf Is None o = o.ending ≢ WordsRefused
IsOutcomeOf Is (Some bytes) o = Is bytes o

-- an outcome that is due for a job
abbrev pub IsDueFor : Option Wanted → Option (List ℕ) → Outcome → Type 0
IsDueFor None left o = o ≡ words_refused
IsDueFor (Some (Run options)) left o = IsOutcomeOf (IsRunOf options) left o
IsDueFor (Some Derive) left o = IsOutcomeOf IsDeriveOf left o
IsDueFor (Some Verify) left o = IsOutcomeOf IsVerifyOf left o
IsDueFor (Some (Gen size)) left o = o ≡ generated_text (generated size)
IsDueFor (Some (Work size)) left o = IsReadAs (IsWorked size) (generated size) 0 o

-- the job reads the source
abbrev pub Reads : Option Wanted → Type 0
Reads None = ⊥
Reads (Some (Run options)) = Unit {0}
Reads (Some Derive) = Unit {0}
Reads (Some Verify) = Unit {0}
Reads (Some (Gen size)) = ⊥
Reads (Some (Work size)) = ⊥

-- the outcome is the call's status, its text stands behind what the sink held, and its bytes were taken
pub record CameTo (o : Outcome) (old new : Ends) (answer : ℕ) : Type 0 where
  pub status : answer ≡ status_of o.ending
  pub written : Appends old.held new.held o.text
  pub taken : TakesCount old.left new.left o.takes

abbrev pub Ended : Option Wanted → Ends → Ends → ℕ → Type 0
Ended job old new answer = (o : Outcome) × IsDueFor job old.left o × CameTo o old new answer

-- a fault of the source: its count rose, and nothing was written
pub record FailedReading (job : Option Wanted) (old new : Ends) : Type 0 where
  pub cause : Rose old.read_faults new.read_faults
  pub reads : Reads job
  pub nothing : Keeps old.held new.held

-- a fault of the sink: its count rose, and a front of a due text was written
pub record FailedWriting (job : Option Wanted) (old new : Ends) : Type 0 where
  pub cause : Rose old.write_faults new.write_faults
  pub front : (o : Outcome) × IsDueFor job old.left o × AppendsFront old.held new.held o.text

-- every answer with its cause; want of memory, 3, may come before the first byte is written
pub record Answers (job : Option Wanted) (old new : Ends) (answer : ℕ) : Type 0 where
  pub ended : answer ≢ 3 → answer ≢ 4 → answer ≢ 5 → Ended job old new answer
  pub refused : answer ≡ 2 → IsNone job
  pub unread : (Reads job → ⊥) → Keeps old.left new.left
  pub memory : answer ≡ 3 → Keeps old.held new.held
  pub reading : answer ≡ 4 → FailedReading job old new
  pub writing : answer ≡ 5 → FailedWriting job old new
  pub read_count : old.read_faults ≤ new.read_faults
  pub write_count : old.write_faults ≤ new.write_faults
