-- What a step on a word tells: the number that it found, and what its seat then knows.
use Rattle.std.specs.Prelude.{◌≡◌, ◌≢◌, ℕ, ◌^◌, ◌<◌, ◌≤◌, [], length, Ok, Err}
use Rattle.atomic_table.specs.Table.{State, Me, Step}
use Rattle.hb_types.specs.declared.{ids.KeyId.KeyId, ids.CallNo.CallNo, ids.TypeSite.TypeSite, ids.BodySite.BodySite}
use Rattle.hb_tables.specs.declared.{desk.Look.Look, entry.ArgKinds.ArgKinds, entry.Verdict.Verdict}
use Rattle.hb_tables.specs.declared.entry.Act.TheVariants.{Hold, Free, Retype, Busy, WornType, Define, WornDef}
use Rattle.hb_tables.specs.History.{spot, journal}
use Rattle.hb_tables.specs.Answers.{IsLookAt, Decides}
use Rattle.hb_words.specs.declared.view.View.{View}
use Rattle.hb_words.specs.Layout.{type_word, def_word, pins_in, ty_in, changes_in, redefs_in, look_in, IsDefWord}
use Rattle.hb_words.specs.Words.{GoesOn, Extends, Looks}

-- the words and all views
abbrev pub TableState : Type 0
TableState = State (Unit {0}) View

-- a view, and the slots that its seat has taken, of which there are none
abbrev pub Seated : Type 0
Seated = Me (Unit {0}) View

-- what is told of a step, of the seat before it, of the number found, and of the seat after it
abbrev pub Telling : Type 1
Telling = Step (Unit {0}) → Seated → ℕ → Seated → Type 0

abbrev pub held : CallNo → KeyId → Telling
held q key st m r m' = Extends m.0 (Hold key q (ty_in r) (changes_in r)) m'.0 × (m'.1 ≡ m.1) × (changes_in r < 2 ^ 24)

abbrev pub freed : CallNo → KeyId → Telling
freed q key st m r m' = Extends m.0 (Free key q) m'.0 × (m'.1 ≡ m.1)

-- a type change that looks: Busy where pins stand, Worn where none stands and the count is at the limit, and else the history is seen
abbrev pub type_looked : KeyId → Telling
type_looked key st m r m' =
    (m'.1 ≡ m.1)
    × (pins_in r ≢ 0 → Extends m.0 (Busy key (pins_in r)) m'.0)
    × (pins_in r ≡ 0 → changes_in r ≡ m.0.limit → Extends m.0 (WornType key) m'.0)
    × (pins_in r ≡ 0 → changes_in r ≢ m.0.limit → Looks m.0 m'.0 × (r ≡ type_word (spot key.0 m'.0.seen)) × (length (spot key.0 m'.0.seen).calls ≡ 0) × (changes_in r < m.0.limit))

-- the exchange: Retype where the word is the one that was looked at, and else as the look
abbrev pub retyped : KeyId → TypeSite → Telling
retyped key site st m r m' = (r ≡ st.first → (m'.1 ≡ m.1) × Extends m.0 (Retype key site) m'.0) × (r ≢ st.first → type_looked key st m r m')

abbrev pub def_looked : KeyId → Telling
def_looked key st m r m' = (m'.1 ≡ m.1) × Looks m.0 m'.0 × IsLookAt key.0 (look_in r) m'.0.seen × IsDefWord r

-- a definition that looks: Worn where the count is at the limit, and else the history is seen
abbrev pub def_tried : KeyId → Telling
def_tried key st m r m' =
    (m'.1 ≡ m.1)
    × (redefs_in r ≡ m.0.limit → Extends m.0 (WornDef key) m'.0)
    × (redefs_in r ≢ m.0.limit → Looks m.0 m'.0 × (r ≡ def_word (spot key.0 m'.0.seen)) × (redefs_in r < m.0.limit))

-- the exchange: Define where the word is the one that was looked at, and else as the look
abbrev pub redefined : KeyId → BodySite → Telling
redefined key site st m r m' = (r ≡ st.first → (m'.1 ≡ m.1) × Extends m.0 (Define key site) m'.0) × (r ≢ st.first → def_tried key st m r m')

-- the call is decided where the definition was not changed since the look, and else a newer look is told
abbrev pub decided : CallNo → KeyId → KeyId → Look → ArgKinds → Verdict → Telling
decided q key owner look args verdict st m r m' =
    (m'.1 ≡ m.1) × IsDefWord r
    × (redefs_in r ≡ look.changes → GoesOn (λ c old new. Decides c old new q key owner look args verdict (Ok tt)) m.0 m'.0)
    × (redefs_in r ≢ look.changes → GoesOn (λ c old new. Decides c old new q key owner look args verdict (Err (look_in r))) m.0 m'.0)

-- caller 0's seat has seen the history, in which no caller that is not made yet has an entry
abbrev pub quieted : Telling
quieted st m r m' = (m'.1 ≡ m.1) × Looks m.0 m'.0 × ((c : ℕ) → m.0.made ≤ c → journal c m'.0.seen ≡ [])
