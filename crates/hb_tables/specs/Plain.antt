-- The plain tables: what is seen of them, and what their fields keep.
use Rattle.std.specs.Prelude.{◌≡◌, ℕ, zero, suc, ◌+◌, ◌<◌, ◌≤◌, List, [], length, drop, slice_get, Some}
use Rattle.std.specs.List.{AllByRecursion}
use Rattle.hb_names.specs.declared.names.TheConstants.{NAMES_MAX}
use Rattle.hb_tables.specs.declared.{entry.TheConstants.VERSIONS_MAX, entry.Entry.Entry, plain.KeyState.KeyState}
use Rattle.hb_tables.specs.History.{Spot, spot, journal, IsLegal}

-- whose door was opened last and how many entries there were then, the history, the limit of changes, and for how many more entries there is room
pub record Tables : Type 0 where
  pub caller : ℕ
  pub opened : ℕ
  pub log : List Entry
  pub limit : ℕ
  pub spare : ℕ

-- what is kept of a key is its state
abbrev pub Matches : KeyState → Spot → Type 0
Matches s x = (s.ty ≡ x.ty) × (s.changes ≡ x.changes) × (s.body ≡ x.body) × (s.redefs ≡ x.redefs) × (s.pins ≡ length x.calls)

-- f 0 to f (n - 1), added up
unfoldable pub total : ℕ → (ℕ → ℕ) → ℕ
total zero f = 0
total (suc n) f = total n f + f n

-- the holds that stand, over all keys
abbrev pub holds_in : List Entry → ℕ
holds_in log = total NAMES_MAX (λ k. length (spot k log).calls)

-- The history is legal, each key's state is kept, and so is the number of holds that stand.
pub record AreTables (limit : ℕ) (log : List Entry) (states : List KeyState) (owed : ℕ) : Type 0 where
  pub low : limit ≤ VERSIONS_MAX
  pub legal : IsLegal limit log
  pub callers : (c : ℕ) → 256 ≤ c → journal c log ≡ []
  pub wide : length states ≡ NAMES_MAX
  pub match : (k : ℕ) (s : KeyState) → slice_get states k ≡ Some s → Matches s (spot k log)
  pub owed_is : owed ≡ holds_in log

-- each of these entries is the caller's own
abbrev pub AreOwn : ℕ → List Entry → Type 0
AreOwn c log = AllByRecursion (λ e. e.caller.0 ≡ c) log

-- The entries behind those that there were when the caller's door was opened are its own.
pub record IsOpen (c opened : ℕ) (log : List Entry) : Type 0 where
  pub low : c < 256
  pub before : opened ≤ length log
  pub own : AreOwn c (drop opened log)
