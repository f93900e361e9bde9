-- What comes to a caller's front, and to the names that it asked for.
use Rattle.std.specs.Prelude.{◌≡◌, ℕ, List, [], ◌∷◌, ◌++◌, Option, Some, None, slice_get}
use mathlib.Core.List.{IsPrefix}
use Rattle.hb_tree.specs.Table.{Table}
use Rattle.hb_names.specs.Names.{Name, with_name}
use Rattle.hb_tables.specs.declared.{entry.Entry.Entry, entry.Act.Act, entry.Act.TheVariants.Hold, entry.Act.TheVariants.Free, entry.Act.TheVariants.Retype}
use Rattle.hb_tables.specs.declared.{entry.Act.TheVariants.Busy, entry.Act.TheVariants.WornType, entry.Act.TheVariants.Define, entry.Act.TheVariants.WornDef}
use Rattle.hb_tables.specs.declared.{entry.Act.TheVariants.Call}
use Rattle.hb_tables.specs.Frames.{acts}
use Rattle.hb_call.specs.Rules.{FitsRules}

-- each act that came to the caller's own stands in this relation to the entries before it
abbrev pub EachNew : (List Entry → Act → Type 0) → ℕ → List Entry → List Entry → Type 0
EachNew F c old new = (before after : List Entry) (e : Entry) → new ≡ before ++ e ∷ after → IsPrefix old before → e.caller.0 ≡ c → F before e.act

abbrev pub with_found : List Name → Option Name → List Name
with_found asked None = asked
with_found asked (Some name) = with_name asked name

-- the names that were asked for, with that of this key
abbrev pub with_key : (names asked : List Name) → ℕ → List Name
with_key names asked k = with_found asked (slice_get names k)

-- An act that needs a key asks for its name. A Free and a Call have theirs from before.
abbrev pub asked_by : (names asked : List Name) → Act → List Name
asked_by names asked (Hold key q ty changes) = with_key names asked key.0
asked_by names asked (Free key q) = asked
asked_by names asked (Retype key site) = with_key names asked key.0
asked_by names asked (Busy key pins) = with_key names asked key.0
asked_by names asked (WornType key) = with_key names asked key.0
asked_by names asked (Define key site) = with_key names asked key.0
asked_by names asked (WornDef key) = with_key names asked key.0
asked_by names asked (Call key q site args verdict) = asked

-- the names that were asked for after these acts, in the order of the first asking
abbrev pub asked_after : (names asked : List Name) → List Act → List Name
asked_after names asked [] = asked
asked_after names asked (a ∷ l) = asked_after names (asked_by names asked a) l

-- The caller's front grew, and the names asked for meanwhile are those of its acts that came.
pub record Grows (c : ℕ) (known was asked : List Name) (old new : List Entry) : Type 0 where
  pub made : List Act
  pub grows : acts c new ≡ acts c old ++ made
  pub kept : IsPrefix old new
  pub names : (names : List Name) → IsPrefix known names → asked ≡ asked_after names was made

-- The caller's front grew. Each of its own acts that came fits the rules, and the names asked for meanwhile are those of these acts.
pub record Grown (t : Table) (c : ℕ) (known was asked : List Name) (old new : List Entry) : Type 0 where
  pub made : List Act
  pub grows : acts c new ≡ acts c old ++ made
  pub kept : IsPrefix old new
  pub rules : EachNew (FitsRules t known c) c old new
  pub names : (names : List Name) → IsPrefix known names → asked ≡ asked_after names was made
