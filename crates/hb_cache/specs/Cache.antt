-- What a script keeps of its checks: at most one item for each key.
use Rattle.std.specs.Prelude.{◌≡◌, ◌≢◌, ℕ, ◌==◌, Option, Some, None, is_some, if◌then◌else◌}
use Rattle.hb_types.specs.declared.ids.BodySite.{BodySite}

-- what is kept of a check: the body, and how often the type of each key that was used had been changed, the method's own key among them
pub record Item : Type 0 where
  pub body : BodySite
  pub count : ℕ → Option ℕ

-- at most one item for each key
abbrev pub Items : Type 0
Items = ℕ → Option Item

-- nothing is kept
abbrev pub nothing : Items
nothing key = None

-- the item takes the place of what is kept for its key
abbrev pub with_item : ℕ → Item → Items → Items
with_item key item items k = if key == k then Some item else items k

-- nothing is kept for the key: its definition changed
abbrev pub without_item : ℕ → Items → Items
without_item key items k = if key == k then None else items k

-- it stays unless it used the key
abbrev pub unless_used : ℕ → Option Item → Option Item
unless_used key None = None
unless_used key (Some item) = if is_some (item.count key) then None else Some item

-- no item that used the key is kept: its type changed
abbrev pub without_key_used : ℕ → Items → Items
without_key_used key items k = unless_used key (items k)

-- The item of a key agrees with tables: its body is the key's definition, and each of its counts is how often that key's type was changed.
pub record Agrees (key : ℕ) (item : Item) (definitions : ℕ → Option BodySite) (changes : ℕ → ℕ) : Type 0 where
  pub body : definitions key ≡ Some item.body
  pub counts : (k n : ℕ) → item.count k ≡ Some n → changes k ≡ n

-- two items say the same: they have the same body, and the same count of each key
pub record SaysSame (item other : Item) : Type 0 where
  pub body : item.body ≡ other.body
  pub counts : (k : ℕ) → item.count k ≡ other.count k

-- both are nothing, or two items that say the same
abbrev pub SameItem : Option Item → Option Item → Type 0
SameItem None None = Unit {0}
SameItem None (Some other) = ⊥
SameItem (Some item) None = ⊥
SameItem (Some item) (Some other) = SaysSame item other

-- they say the same of each key
abbrev pub SameItems : Items → Items → Type 0
SameItems items others = (k : ℕ) → SameItem (items k) (others k)

-- two tables have the same of each key but one
abbrev pub SameBut : {A : Type 0} → ℕ → (ℕ → A) → (ℕ → A) → Type 0
SameBut key before after = (k : ℕ) → k ≢ key → after k ≡ before k
