-- What a job comes to: how it ends, the text due, and how many bytes of the source it takes.
use Rattle.std.specs.Prelude.{◌≡◌, ℕ, ◌+◌, List, Option, Some, None, codes}
use Rattle.hb_io.specs.Moves.{TakesAll, TakesCount}
use Rattle.hb_top.specs.declared.due.Ending.{Ending}
use Rattle.hb_top.specs.declared.due.Ending.TheVariants.{Done, Stopped, TextRefused, WordsRefused}
use Rattle.hb_top.specs.declared.due.Due.{Due}
use Rattle.hb_top.specs.declared.faults.Fault.{Fault as Found}
use Rattle.hb_top.specs.Faults.{Fault, fault_line}

-- the exit status
abbrev pub status_of : Ending → ℕ
status_of Done = 0
status_of Stopped = 6
status_of TextRefused = 1
status_of WordsRefused = 2

pub record Outcome : Type 0 where
  pub ending : Ending
  pub text : List ℕ
  pub takes : ℕ

-- the words ask for no job
abbrev pub words_refused : Outcome
words_refused = record { ending = WordsRefused; text = codes "words refused\n"; takes = 0 }

-- the text is longer than the limit
abbrev pub too_long : ℕ → Outcome
too_long limit = record { ending = TextRefused; text = codes "text TooLong\n"; takes = limit + 1 }

-- a text has a fault with this line, and so many bytes of the source were taken
abbrev pub faulty : List ℕ → ℕ → Outcome
faulty line takes = record { ending = TextRefused; text = line; takes = takes }

-- the generated text is due
abbrev pub generated_text : List ℕ → Outcome
generated_text text = record { ending = Done; text = text; takes = 0 }

-- the fault that the code's value tells
abbrev pub fault_of : Found → Fault
fault_of found = record { words = found.words.now; at = found.at }

-- the code's value has this ending and this text
pub record IsDue (due : Due) (how : Ending) (lines : List ℕ) : Type 0 where
  pub ending : due.ending ≡ how
  pub text : due.text.items ≡ lines

-- the code's value is an outcome of this kind, which takes so many bytes
abbrev pub IsDueBy : (Outcome → Type 0) → ℕ → Due → Type 0
IsDueBy Is len due = (o : Outcome) × Is o × IsDue due o.ending o.text × (o.takes ≡ len)

-- the code's value is an outcome of this kind
abbrev pub IsDueOf : (Outcome → Type 0) → Due → Type 0
IsDueOf Is due = (o : Outcome) × Is o × IsDue due o.ending o.text

-- these bytes were taken, all that were left; where there are none, one more than the limit was taken
abbrev pub IsTaken : (limit : ℕ) → (old new : Option (List ℕ)) → Option (List ℕ) → Type 0
IsTaken limit old new None = TakesCount old new (limit + 1)
IsTaken limit old new (Some bytes) = TakesAll old new limit bytes

-- the code's value is an outcome of this kind, whose bytes were taken
abbrev pub IsDueFrom : (Outcome → Type 0) → (old new : Option (List ℕ)) → Due → Type 0
IsDueFrom Is old new due = (o : Outcome) × Is o × IsDue due o.ending o.text × TakesCount old new o.takes

-- the code's value tells the fault; where there is none, nothing is due
abbrev pub IsRefused : Due → List ℕ → Option Fault → Type 0
IsRefused due text None = ⊥
IsRefused due text (Some fault) = IsDue due TextRefused (fault_line text fault)
