-- What the calls of a desk's caller hold, and what it keeps of its checks.
use Rattle.std.specs.Prelude.{◌≡◌, ℕ, List, [], Option}
use Rattle.hb_cache.specs.declared.kept.Kept.{Kept}
use Rattle.hb_tree.specs.Table.{Table}
use Rattle.hb_names.specs.Names.{Name}
use Rattle.hb_tables.specs.declared.entry.Entry.{Entry}
use Rattle.hb_tables.specs.Answers.{Fixed}
use Rattle.hb_call.specs.declared.frame.Entered.{Entered}
use Rattle.hb_call.specs.declared.frame.Entered.TheVariants as entered
use Rattle.hb_call.specs.{Held.stands, OwnCache.IsTrueCache}
use Rattle.hb_trials.specs.declared.desks.TheConstants.{CALL}

-- none of them holds a key
abbrev pub IsIdle : Fixed → List Entry → Type 0
IsIdle door log = (q : ℕ) → stands door.caller q log ≡ []

-- none of them holds a key but one
abbrev pub IsAloneAt : ℕ → Fixed → List Entry → Type 0
IsAloneAt q door log = (p : ℕ) → (p ≡ q → ⊥) → stands door.caller p log ≡ []

-- each holds what it held
abbrev pub HoldSame : Fixed → Fixed → List Entry → List Entry → Type 0
HoldSame was door old new = (q : ℕ) → stands door.caller q new ≡ stands was.caller q old

-- a call that was refused holds no key
abbrev pub FreedIfRefused : Fixed → List Entry → Entered → Type 0
FreedIfRefused door log (entered.Frame f way) = Unit {0}
FreedIfRefused door log (entered.Refused v) = stands door.caller CALL.0 log ≡ []

-- no call of the caller holds a key, and what is kept is true
pub record IsReady (t : Table) (names asked : List Name) (door : Fixed) (log : List Entry) (cache : List (Option Kept)) : Type 0 where
  pub idle : IsIdle door log
  pub checks : IsTrueCache t names asked door.caller log cache

-- it goes on to be so
abbrev pub StaysReady : Table → (names known was asked : List Name) → (before door : Fixed) → (old new : List Entry) → (kept left : List (Option Kept)) → Type 0
StaysReady t names known was asked before door old new kept left = IsReady t names was before old kept → IsReady t known asked door new left
