-- What a machine notes of what its caller does.
use Rattle.std.specs.Prelude.{◌≡◌, List, ◌++◌, map, Bool, true, false, Option, Some, None}
use Rattle.std.specs.Global.{Vec}
use Rattle.hb_types.specs.declared.ids.CallerId.{CallerId}
use Rattle.hb_tables.specs.declared.entry.Entry.{Entry}
use Rattle.hb_tables.specs.declared.entry.Act.{Act}

-- a caller's entries with these acts
abbrev pub entries : CallerId → List Act → List Entry
entries caller l = map (λ (a : Act). record { caller = caller; act = a }) l

-- unless a note was missed, the caller's entries are those before, and then the notes
abbrev pub HasNoted : CallerId → List Act → (before notes : List Entry) → (missed : Bool) → Type 0
HasNoted caller l before notes missed = missed ≡ false → entries caller l ≡ before ++ notes

-- the journal has the caller's entries with these acts, where it is kept
abbrev pub IsJournal : CallerId → Option (Vec Entry) → List Act → Type 0
IsJournal caller None l = Unit {0}
IsJournal caller (Some kept) l = kept.items ≡ entries caller l

-- the caller's entries with these acts, where they are asked for
abbrev pub journal_of : (asked : Bool) → CallerId → List Act → Option (List Entry)
journal_of true caller l = Some (entries caller l)
journal_of false caller l = None
