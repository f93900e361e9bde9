-- What the fields of a cache keep.
use Rattle.std.specs.Prelude.{◌≡◌, ℕ, ◌==◌, Bool, true, List, slice_get, Option, Some}
use Rattle.std.specs.{List.list_any, Global.Vec}
use Rattle.hb_types.specs.declared.ids.KeyId.{KeyId}
use Rattle.hb_cache.specs.declared.{kept.Seen.Seen, kept.Kept.Kept}
use Rattle.hb_cache.specs.Kept.{kept_at}

-- for each key, a list of those that may have used it
abbrev pub Users : Type 0
Users = List (Vec KeyId)

-- the key stands among these
abbrev pub has : List KeyId → ℕ → Bool
has keys key = list_any (λ (k : KeyId). k.0 == key) keys

-- a hold of the key stands among these
abbrev pub has_seen : List Seen → ℕ → Bool
has_seen counts key = list_any (λ (seen : Seen). seen.key.0 == key) counts

-- what stood among them still does
abbrev pub KeepHad : List KeyId → List KeyId → Type 0
KeepHad before after = (key : ℕ) → has before key ≡ true → has after key ≡ true

-- the user stands in the list of the used key
abbrev pub IsKnown : Users → (used user : ℕ) → Type 0
IsKnown users used user = (list : Vec KeyId) × (slice_get users used ≡ Some list) × (has list.items user ≡ true)

-- who is known stays known
abbrev pub KeepKnown : Users → Users → Type 0
KeepKnown before after = (used user : ℕ) → IsKnown before used user → IsKnown after used user

-- the user is known to each key of these holds
abbrev pub AreKnown : Users → List Seen → ℕ → Type 0
AreKnown users counts user = (used : ℕ) → has_seen counts used ≡ true → IsKnown users used user

-- each check that is kept stands at its own key, which is known to each key that it used
pub record IsCache (kept : List (Option Kept)) (users : Users) : Type 0 where
  pub own : (k : ℕ) (x : Kept) → kept_at kept k ≡ Some x → x.key.0 ≡ k
  pub known : (k : ℕ) (x : Kept) → kept_at kept k ≡ Some x → AreKnown users x.counts.items k
