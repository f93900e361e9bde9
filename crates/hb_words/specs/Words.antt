-- What callers know of the history, the rule of the words, and what is left when the seats are put together.
use Rattle.std.specs.Prelude.{◌≡◌, ℕ, ◌+◌, ◌<◌, ◌≤◌, ◌==◌, Bool, true, false, cond, List, [], ◌∷◌, ◌++◌, length, slice_index, ◌⊎◌}
use mathlib.Core.Option.{some}
use mathlib.Core.List.{IsPrefix}
use lib.ListN.{get_elem?}
use Rattle.atomic_table.specs.{Table.State, Seated.TableId}
use Rattle.atomic_table.specs.declared.shared.Seat.{Seat}
use Rattle.hb_names.specs.declared.names.TheConstants.{NAMES_MAX}
use Rattle.hb_tables.specs.declared.{entry.Entry.Entry, entry.Act.Act, entry.TheConstants.VERSIONS_MAX}
use Rattle.hb_tables.specs.History.{spot, journal, IsLegal, Adds, Learns}
use Rattle.hb_words.specs.declared.{view.View.View, view.Front.Front, layout.TheConstants.WORDS, layout.TheConstants.CALLERS_MAX}
use Rattle.hb_words.specs.Layout.{type_at, def_at, type_word, def_word}

-- the words are those after this history
pub record AreWords (log : List Entry) (words : List ℕ) : Type 0 where
  pub wide : length words ≡ WORDS
  pub types : (k : ℕ) → k < NAMES_MAX → slice_index words (type_at k) ≡ type_word (spot k log)
  pub defs : (k : ℕ) → k < NAMES_MAX → slice_index words (def_at k) ≡ def_word (spot k log)

abbrev pub among : ℕ → List ℕ → Bool
among x [] = false
among x (y ∷ ys) = cond (x == y) true (among x ys)

-- the history begins with this front, which has all entries of its caller
abbrev pub IsKnown : List Entry → List ℕ → Front → Type 0
IsKnown log owns f = (among f.caller owns ≡ true) × IsPrefix f.seen log × (journal f.caller log ≡ journal f.caller f.seen)

-- what is true of the view v of the seat j
pub record Knows (limit : ℕ) (log : List Entry) (made : ℕ) (owner : ℕ → ℕ) (j : ℕ) (v : View) : Type 0 where
  pub limit_is : v.limit ≡ limit
  pub front : IsPrefix v.seen log
  pub itself : among v.caller v.owns ≡ true
  pub first : v.caller ≡ 0 → v.made ≡ made
  pub own : (c : ℕ) → among c v.owns ≡ true → (c < made) × (owner c ≡ j) × (journal c log ≡ journal c v.seen)
  pub taken : (i : ℕ) (f : Front) → v.shut ≡ true → get_elem? v.took i ≡ some f → IsKnown log v.owns f

-- The rule of the words.
-- There are a legal history, a number of callers made and a seat for each, such that the words are those after the history and each live view is true of it; one of them is the whole history.
pub record Kept (limit : ℕ) (s : State (Unit {0}) View) : Type 0 where
  pub log : List Entry
  pub made : ℕ
  pub owner : ℕ → ℕ
  pub few : made ≤ CALLERS_MAX
  pub low : limit ≤ VERSIONS_MAX
  pub legal : IsLegal limit log
  pub unmade : (c : ℕ) → made ≤ c → journal c log ≡ []
  pub words : AreWords log s.words
  pub seats : (j : ℕ) (v : View) → get_elem? s.views j ≡ some v → v.live ≡ true → Knows limit log made owner j v
  pub whole : (j : ℕ) × (v : View) × (get_elem? s.views j ≡ some v) × (v.live ≡ true) × (v.seen ≡ log)

-- the view of a caller who has done nothing
abbrev pub newcomer : ℕ → ℕ → ℕ → List Entry → View
newcomer limit caller made seen = record { limit = limit; caller = caller; live = true; made = made; owns = caller ∷ []; shut = false; took = []; seen = seen }

-- the view with this front
abbrev pub seeing : View → List Entry → View
seeing v log = record v { seen = log }

-- the front goes on in this way and is legal, and nothing else of the view changes
abbrev pub GoesOn : (ℕ → List Entry → List Entry → Type 0) → View → View → Type 0
GoesOn Grows v w = Grows v.caller v.seen w.seen × IsLegal v.limit w.seen × (w ≡ seeing v w.seen)

-- the view has this entry more, and before it entries of others
abbrev pub Extends : View → Act → View → Type 0
Extends v act w = GoesOn (λ c old new. Adds c old new act) v w

-- the view has entries of others more
abbrev pub Looks : View → View → Type 0
Looks v w = GoesOn Learns v w

-- of two beginnings of one list, the longer
abbrev pub longer : List Entry → List Entry → List Entry
longer [] ys = ys
longer (x ∷ xs) [] = x ∷ xs
longer (x ∷ xs) (y ∷ ys) = x ∷ longer xs ys

-- caller 0's view once one more caller is made
abbrev pub forked : View → View
forked v = record v { made = v.made + 1 }

abbrev pub front_of : View → Front
front_of v = record { caller = v.caller; seen = v.seen }

-- the fronts that were put together in this view
abbrev pub fronts : View → List Front
fronts v = cond v.shut v.took (front_of v ∷ [])

-- the view with another one taken in
abbrev pub joined : View → View → View
joined v w = record v { owns = v.owns ++ w.owns; shut = true; took = fronts v ++ fronts w; seen = longer v.seen w.seen }

-- what is left of a view that was taken in
abbrev pub spent : View
spent = record { limit = 0; caller = 0; live = false; made = 0; owns = []; shut = true; took = []; seen = [] }

-- the view of a seat that steps no more
abbrev pub memory : View → View
memory v = record v { live = false }

-- it stands in this list
abbrev pub Stands : {A : Type 0} → A → List A → Type 0
Stands x xs = (i : ℕ) × (get_elem? xs i ≡ some x)

-- each front among these was put together in this view, or is among those that are left
abbrev pub Keeps : List Front → View → List Front → Type 0
Keeps all v left = (f : Front) → Stands f all → Stands f (fronts v) ⊎ Stands f left

-- each caller that was made is among those whose entries the view has, or among those that are left
abbrev pub Covers : View → List ℕ → Type 0
Covers v left = (c : ℕ) → c < v.made → (among c v.owns ≡ true) ⊎ (among c left ≡ true)

-- the history is legal, begins with each of these fronts, and has the entries of their callers and no others
pub record IsWhole (log : List Entry) (limit made : ℕ) (all : List Front) : Type 0 where
  pub legal : IsLegal limit log
  pub each_front : (f : Front) → Stands f all → IsPrefix f.seen log × (journal f.caller log ≡ journal f.caller f.seen)
  pub callers : (c : ℕ) → c < made → (f : Front) × Stands f all × (f.caller ≡ c)
  pub others : (c : ℕ) → made ≤ c → journal c log ≡ []

abbrev pub Place : Type 0
Place = Seat (Unit {0}) View

-- the seat fits the table of this name, which is of these words, with this limit, and makes entries
pub record IsSeatOf (table : TableId) (limit : ℕ) (seat : Place) : Type 0 where
  pub table_is : seat.table_id ≡ table
  pub words : table.words ≡ WORDS
  pub slots : table.slots ≡ 0
  pub live : seat.me.0.live ≡ true
  pub limit_is : seat.me.0.limit ≡ limit
  pub still : seat.me.0.shut ≡ false
  pub empty : seat.me.1 ≡ []

-- caller 0's seat fits the table, whether or not it has taken in another
pub record IsPlaceOf (table : TableId) (limit : ℕ) (seat : Place) : Type 0 where
  pub table_is : seat.table_id ≡ table
  pub words : table.words ≡ WORDS
  pub live : seat.me.0.live ≡ true
  pub limit_is : seat.me.0.limit ≡ limit
  pub first : seat.me.0.caller ≡ 0

abbrev pub IsSameSeat : Place → Place → Type 0
IsSameSeat old new = (new.table_id ≡ old.table_id) × (new.id ≡ old.id)

-- a table's name as numbers
abbrev pub numbers_of : TableId → List ℕ
numbers_of z = z.words ∷ z.slots ∷ z.views_name ∷ z.atom ∷ z.block ∷ z.offset ∷ z.slot_names
