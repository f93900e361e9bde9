-- Where the words of a key stand, how they are laid out, and what they say.
use Rattle.std.specs.Prelude.{ℕ, ◌+◌, ◌-◌, ◌*◌, ◌/◌, ◌%◌, ◌^◌, ◌<◌, ◌≤◌, ◌==◌, cond, Option, Some, None, length}
use Rattle.hb_types.specs.declared.{ids.TypeSite.TypeSite, ids.BodySite.BodySite}
use Rattle.hb_tables.specs.declared.desk.Look.{Look}
use Rattle.hb_tables.specs.History.{Spot, ty_code, body_code}

-- the type word of the key k
abbrev pub type_at : ℕ → ℕ
type_at k = 1 + 2 * k

-- its def word
abbrev pub def_at : ℕ → ℕ
def_at k = 2 + 2 * k

-- the type word of a key in this state: from bit 0 on how many calls hold it, from bit 24 on its type, from bit 40 on how often that was changed
abbrev pub type_word : Spot → ℕ
type_word s = length s.calls + ty_code s.ty * 2 ^ 24 + s.changes * 2 ^ 40

-- the def word: from bit 0 on the definition, from bit 32 on how often that was changed
abbrev pub def_word : Spot → ℕ
def_word s = body_code s.body + s.redefs * 2 ^ 32

-- the site with this number plus one, or none
abbrev pub code_ty : ℕ → Option TypeSite
code_ty n = cond (n == 0) None (Some record { 0 = n - 1 })

abbrev pub code_body : ℕ → Option BodySite
code_body n = cond (n == 0) None (Some record { 0 = n - 1 })

-- what a type word says
abbrev pub pins_in : ℕ → ℕ
pins_in word = word % 2 ^ 24

abbrev pub ty_in : ℕ → Option TypeSite
ty_in word = code_ty (word / 2 ^ 24 % 2 ^ 16)

abbrev pub changes_in : ℕ → ℕ
changes_in word = word / 2 ^ 40

-- what a def word says
abbrev pub body_in : ℕ → Option BodySite
body_in word = code_body (word % 2 ^ 32)

abbrev pub redefs_in : ℕ → ℕ
redefs_in word = word / 2 ^ 32

abbrev pub look_in : ℕ → Look
look_in word = record { site = body_in word; changes = redefs_in word }

-- the words that follow these with one change more, where no call holds the key
abbrev pub retyped_word : TypeSite → ℕ → ℕ
retyped_word site old = (site.0 + 1) * 2 ^ 24 + (changes_in old + 1) * 2 ^ 40

abbrev pub redefined_word : BodySite → ℕ → ℕ
redefined_word site old = (site.0 + 1) + (redefs_in old + 1) * 2 ^ 32

-- the parts of a def word fit where they are read to
abbrev pub IsDefWord : ℕ → Type 0
IsDefWord word = (redefs_in word < 2 ^ 24) × (word % 2 ^ 32 ≤ 2 ^ 16)
