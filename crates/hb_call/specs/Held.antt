-- What a call holds.
use Rattle.std.specs.Prelude.{◌≡◌, ℕ, ◌+◌, ◌<◌, ◌≤◌, List, [], ◌∷◌, ◌++◌, length, map, Option}
use Rattle.std.specs.List.{AllByRecursion}
use Rattle.hb_types.specs.declared.{ids.CallNo.CallNo, ids.KeyId.KeyId, ids.BodySite.BodySite}
use Rattle.hb_names.specs.declared.names.TheConstants.{NAMES_MAX}
use Rattle.hb_tables.specs.declared.{entry.Entry.Entry, entry.Act.Act, entry.Act.TheVariants.Free, entry.Act.TheVariants.Call, entry.ArgKinds.ArgKinds, entry.Verdict.Verdict}
use Rattle.hb_tables.specs.declared.{entry.TheConstants.HOLDS_MAX}
use Rattle.hb_tables.specs.History.{spot, times, of_caller, entry}
use Rattle.hb_tables.specs.Frames.{acts}
use Rattle.hb_tables.specs.Standing.{Stand, all_but, standing, count_of}

-- the Holds of the call q by the caller c that stand
abbrev pub stands : ℕ → ℕ → List Entry → List Stand
stands c q log = standing q (acts c log)

-- The call q of the caller c holds exactly these keys, in the order of its Holds. They differ, and stand for names.
pub record Holds (c q : ℕ) (held : List KeyId) (log : List Entry) : Type 0 where
  pub keys : map (λ h. h.key) (stands c q log) ≡ map (λ k. k.0) held
  pub once : (k : ℕ) → count_of k (stands c q log) ≤ 1
  pub below : AllByRecursion (λ k. k.0 < NAMES_MAX) held

-- the Frees of these keys by a call, in their order
abbrev pub frees : CallNo → List KeyId → List Act
frees q [] = []
frees q (key ∷ keys) = Free key q ∷ frees q keys

-- these keys may be freed one after another, where these Holds stand
abbrev pub MayFree : List KeyId → List Stand → Type 0
MayFree [] hs = Unit {0}
MayFree (key ∷ keys) hs = (key.0 < NAMES_MAX) × (count_of key.0 hs ≡ 1) × MayFree keys (all_but key.0 hs)

-- There is room for one more call of the caller at each key that the call does not hold.
abbrev pub HasRoom : List Entry → ℕ → ℕ → Type 0
HasRoom log c q = (k : ℕ) → length (of_caller c (spot k log).calls) + 1 ≤ HOLDS_MAX + times (c, q) (spot k log).calls

-- the caller has a Call of this number
pub record HasCall (c q : ℕ) (log : List Entry) : Type 0 where
  pub before : List Entry
  pub call : CallNo
  pub key : KeyId
  pub site : Option BodySite
  pub args : ArgKinds
  pub verdict : Verdict
  pub after : List Entry
  pub is : log ≡ before ++ entry c (Call key call site args verdict) ∷ after
  pub number : call.0 ≡ q
