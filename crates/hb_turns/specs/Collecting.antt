-- What is collected of the checks of all callers, in the order of the history.
use Rattle.std.specs.Prelude.{◌≡◌, List, [], ◌∷◌, ◌++◌, Option}
use mathlib.Core.List.{IsPrefix}
use Rattle.hb_tree.specs.Table.{Table}
use Rattle.hb_deriv.specs.declared.raw.Derivation.{Derivation}
use Rattle.hb_names.specs.Names.{Name}
use Rattle.hb_tables.specs.declared.entry.Entry.{Entry}
use Rattle.hb_tables.specs.Frames.{acts}
use Rattle.hb_call.specs.declared.share.Share.{Share}
use Rattle.hb_call.specs.Sharing.{collected}
use Rattle.hb_eval.specs.Gathering.{GathersOne}

-- What these entries add behind those, one behind the other: each call that enters on a fresh check adds its derivation, with the sites that the Holds of its own caller found which stand for it.
abbrev pub Collects : Table → List Name → (before came : List Entry) → (old new : Option (List Derivation)) → Type 0
Collects t names before [] old new = new ≡ old
Collects t names before (e ∷ es) old new = (mid : Option (List Derivation)) × GathersOne t names (acts e.caller.0 before) e.act old mid × Collects t names (before ++ e ∷ []) es mid new

-- Entries came and names were added, and this is what the entries added to what is collected.
pub record AreCollected (t : Table) (names longer : List Name) (past now : List Entry) (old new : Share) : Type 0 where
  pub named : IsPrefix names longer
  pub came : List Entry
  pub behind : now ≡ past ++ came
  pub collects : Collects t longer past came (collected old) (collected new)
