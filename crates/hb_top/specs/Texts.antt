-- What a text is read as.
use Rattle.std.specs.Prelude.{ℕ, List, Option}
use Rattle.hb_tree.specs.Roots.{IsReachedOnce}
use Rattle.hb_top.specs.Answers.{IsTextOf}
use Rattle.hb_top.specs.Faults.{Fault, IsFirstFault, fault_line}
use Rattle.hb_top.specs.Outcomes.{IsDue, IsRefused}
use Rattle.hb_top.specs.declared.due.Ending.TheVariants.{TextRefused}
use Rattle.hb_top.specs.declared.texts.Reading.{Reading}
use Rattle.hb_top.specs.declared.texts.Reading.TheVariants as reading

-- it is a program, none of whose nodes is reached twice, or the line of its first fault is due
abbrev pub IsReading : List ℕ → Reading → Type 0
IsReading text (reading.Program program) = IsTextOf text program × IsReachedOnce program
IsReading text (reading.Refused due) = (fault : Fault) × IsFirstFault text fault × IsDue due TextRefused (fault_line text fault)

-- the line of this fault is due
abbrev pub IsRefusal : List ℕ → Option Fault → Reading → Type 0
IsRefusal text fault (reading.Program program) = ⊥
IsRefusal text fault (reading.Refused due) = IsRefused due text fault
