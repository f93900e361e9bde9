-- What a refused call of a desk leaves: its own entry at most, which changes no state.
use Rattle.std.specs.Prelude.{◌≡◌, ◌≤◌, ℕ, List, [], ◌++◌, length}
use Rattle.hb_tables.specs.declared.entry.Act.{Act}
use Rattle.hb_tables.specs.declared.entry.Act.TheVariants.{Busy, Call, Define, Free, Hold, Retype, WornDef, WornType}
use Rattle.hb_tables.specs.declared.entry.Entry.{Entry}
use Rattle.hb_tables.specs.declared.entry.Verdict.{Verdict}
use Rattle.hb_tables.specs.declared.entry.Verdict.TheVariants as verdict
use Rattle.hb_tables.specs.History.{journal, spot}

-- the call does not enter
abbrev pub Refuses : Verdict → Type 0
Refuses (verdict.Enter by) = ⊥
Refuses verdict.NoBody = Unit {0}
Refuses verdict.NoType = Unit {0}
Refuses verdict.BadArgs = Unit {0}
Refuses (verdict.IllTyped ill) = Unit {0}

-- the act is that of a refusal: of a type that is held or worn, of a definition that is worn, or of a call
abbrev pub IsRefusal : Act → Type 0
IsRefusal (Hold key q ty changes) = ⊥
IsRefusal (Free key q) = ⊥
IsRefusal (Retype key site) = ⊥
IsRefusal (Busy key pins) = Unit {0}
IsRefusal (WornType key) = Unit {0}
IsRefusal (Define key site) = ⊥
IsRefusal (WornDef key) = Unit {0}
IsRefusal (Call key q site args v) = Refuses v

-- The longer list goes on with entries of others, and behind these with one of the caller at most, which changes no key's state.
pub record ChangesNothing (c : ℕ) (old new : List Entry) : Type 0 where
  pub others : List Entry
  pub idle : journal c others ≡ []
  pub own : List Entry
  pub is : new ≡ (old ++ others) ++ own
  pub few : length own ≤ 1
  pub same : (k : ℕ) → spot k new ≡ spot k (old ++ others)
