-- Which seats fit a row.
use Rattle.std.specs.Prelude.{◌≡◌, ◌⊎◌, ℕ, ◌<◌, ◌≤◌, true, false, List, [], ◌∷◌, ◌+◌, length, Option, Some, None, slice_index}
use Rattle.hb_types.specs.declared.ids.KeyId.{KeyId}
use mathlib.Core.Option.{some}
use lib.ListN.{get_elem?}
use Rattle.atomic_table.specs.declared.shared.Seat.{Seat}
use Rattle.atomic_table.specs.Seated.{TableId}
use Rattle.atomic_table.specs.Table.{State}
use Rattle.hb_row.specs.declared.view.View.{View}
use Rattle.hb_row.specs.declared.seat.NameSeat.{NameSeat}
use Rattle.hb_row.specs.declared.view.Front.{Front}
use Rattle.hb_row.specs.Row.{words_max, callers_max, offers_max, front_of, fronts, IsValid, row_at, offer_start, spelt}
use Rattle.hb_names.specs.declared.names.TheConstants.{NAMES_MAX}
use mathlib.Core.List.{IsPrefix}
use Rattle.hb_row.specs.Known.{IsNamed, AreNamed}
use Rattle.hb_names.specs.Names.{Name, place, with_name, Differ}

abbrev pub Place : Type 0
Place = Seat (Unit {0}) View

-- the seat steps on the table of this name, which is a row's
pub record IsPlaceOf (table : TableId) (seat : Place) : Type 0 where
  pub here : seat.table_id ≡ table
  pub wide : table.words ≡ words_max
  pub bare : table.slots ≡ 0
  pub live : seat.me.0.live ≡ true
  pub still : seat.me.0.shut ≡ false
  pub empty : seat.me.1 ≡ []

-- it is the same seat, at another step
pub record IsSamePlace (old new : Place) : Type 0 where
  pub table : new.table_id ≡ old.table_id
  pub number : new.id ≡ old.id
  pub carried : new.me.1 ≡ old.me.1

-- the names that a seat knows, and those that were asked of it
abbrev pub known_of : NameSeat → List Name
known_of seat = seat.names.known

abbrev pub asked_by : NameSeat → List Name
asked_by seat = seat.names.asked

-- what its table knows of a seat: its view, whose caller it is, and how many callers were made
abbrev pub seat_view : NameSeat → View
seat_view seat = seat.place.me.0

abbrev pub seat_caller : NameSeat → ℕ
seat_caller seat = (seat_view seat).caller

abbrev pub seat_made : NameSeat → ℕ
seat_made seat = (seat_view seat).made

-- a caller's seat of the row of this name, whose view is what it knows
pub record IsSeatOf (table : TableId) (seat : NameSeat) : Type 0 where
  pub place : IsPlaceOf table seat.place
  pub caller : seat_caller seat ≡ seat.caller
  pub low : seat.caller < callers_max
  pub made : seat_made seat ≡ seat.made
  pub owns : (seat_view seat).owns ≡ seat_caller seat ∷ []
  pub offer : (seat_view seat).offer ≡ seat.offer
  pub low_offer : seat.offer < offers_max
  pub known : (seat_view seat).known ≡ known_of seat
  pub answered : AreNamed (seat_view seat).placed (asked_by seat)
  pub asked : AreNamed (asked_by seat) (known_of seat)
  pub small : length (known_of seat) ≤ NAMES_MAX

-- the name is known and was asked for, or it is not known yet
abbrev pub Finds : Name → NameSeat → NameSeat → Option KeyId → Type 0
Finds name old new (Some key) = (place (known_of new) name ≡ Some key.0) × (asked_by new ≡ with_name (asked_by old) name)
Finds name old new None = (place (known_of new) name ≡ None) × (asked_by new ≡ asked_by old)

-- it stands in this list
abbrev pub IsIn : {A : Type 0} → A → List A → Type 0
IsIn x xs = (i : ℕ) × (get_elem? xs i ≡ some x)

-- caller 0's place, which may have taken in others
pub record IsHeadOf (table : TableId) (place : Place) : Type 0 where
  pub here : place.table_id ≡ table
  pub wide : table.words ≡ words_max
  pub bare : table.slots ≡ 0
  pub live : place.me.0.live ≡ true
  pub first : place.me.0.caller ≡ 0

abbrev pub seat_front : NameSeat → Front
seat_front seat = front_of (seat_view seat)

-- each seat was put together in this view, or is among those that are left
abbrev pub Keeps : List NameSeat → View → List NameSeat → Type 0
Keeps seats v left = (seat : NameSeat) → IsIn seat seats → IsIn (seat_front seat) (fronts v) ⊎ IsIn seat left

-- each caller that was made has one of these seats
abbrev pub HasAll : ℕ → List NameSeat → Type 0
HasAll made seats = (c : ℕ) → c < made → (seat : NameSeat) × IsIn seat seats × (seat_caller seat ≡ c)

-- one list of names, which begins with those that each seat knows, and which has just those that were asked of the seats
pub record IsGathered (seats : List NameSeat) (names : List Name) : Type 0 where
  pub few : length names ≤ NAMES_MAX
  pub differ : Differ names
  pub known : (seat : NameSeat) → IsIn seat seats → IsPrefix (known_of seat) names
  pub asked : (i : ℕ) (name : Name) → get_elem? names i ≡ some name → (seat : NameSeat) × IsIn seat seats × IsNamed name (asked_by seat)
  pub answered : (seat : NameSeat) → IsIn seat seats → AreNamed (asked_by seat) names

-- the words of a row that nobody changes any more, after these names
pub record Tells (words : List ℕ) (names : List Name) : Type 0 where
  pub wide : length words ≡ words_max
  pub few : length names ≤ NAMES_MAX
  pub distinct : (i j : ℕ) (p : Name) → get_elem? names i ≡ some p → get_elem? names j ≡ some p → i ≡ j
  pub valid : (i : ℕ) (p : Name) → get_elem? names i ≡ some p → IsValid p
  pub named : (i : ℕ) (p : Name) → get_elem? names i ≡ some p → (0 < slice_index words (row_at i)) × (slice_index words (row_at i) ≤ offers_max)
  pub spelt_out : (i j : ℕ) (p : Name) → get_elem? names i ≡ some p → j < 9 → slice_index words (offer_start (slice_index words (row_at i)) + j) ≡ spelt p j
  pub past : (i : ℕ) → length names ≤ i → i < NAMES_MAX → slice_index words (row_at i) ≡ 0

-- the row has these names, with which those begin that a seat knows
abbrev pub IsRowOf : State (Unit {0}) View → List Name → Type 0
IsRowOf s names = Tells s.words names × ((j : ℕ) (v : View) → get_elem? s.views j ≡ some v → v.live ≡ true → IsPrefix v.known names)
