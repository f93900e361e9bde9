-- The row of names after a list of names, the rule of its table, and what each step tells.
use Rattle.std.specs.Prelude.{◌≡◌, ◌≢◌, ℕ, zero, suc, ◌+◌, ◌-◌, ◌*◌, ◌<◌, ◌≤◌, ◌==◌, Bool, true, false, cond, None, List, [], ◌∷◌, ◌++◌, length, take, drop, slice_index}
use mathlib.Core.Option.{some}
use mathlib.Core.List.{IsPrefix}
use lib.ListN.{get_elem?}
use Rattle.atomic_table.specs.Table.{State, Me, Step}
use Rattle.hb_names.specs.Names.{Name, place}
use Rattle.hb_names.specs.declared.names.TheConstants.{NAMES_MAX, NAME_BYTES_MAX}
use Rattle.hb_row.specs.declared.view.Front.{Front}
use Rattle.hb_row.specs.declared.view.View.{View}

-- n bytes as a number, the first in the lowest bits, with 0 past the end
unfoldable pub packed : ℕ → List ℕ → ℕ
packed zero bytes = 0
packed (suc n) bytes = slice_index bytes 0 + 256 * packed n (drop 1 bytes)

-- a word of the offer of a name
unfoldable pub spelt : Name → ℕ → ℕ
spelt name zero = 256 * name.0 + length name.1
spelt name (suc j) = packed 8 (drop (8 * j) name.1)

-- how many callers there are at most
abbrev pub callers_max : ℕ
callers_max = 17

-- how many offers there are: each caller has one from the start, and each place has the next one of who takes it
abbrev pub offers_max : ℕ
offers_max = callers_max + NAMES_MAX

abbrev pub next_offer : ℕ → ℕ
next_offer i = callers_max + i

-- how many words there are: one that is not used, one for each place, and nine for each offer
abbrev pub words_max : ℕ
words_max = 1 + NAMES_MAX + 9 * offers_max

-- the word of a place, the word that names an offer, and the first word of the offer that is named so
abbrev pub row_at : ℕ → ℕ
row_at i = 1 + i

abbrev pub offer_name : ℕ → ℕ
offer_name n = 1 + n

abbrev pub offer_start : ℕ → ℕ
offer_start word = 9 * word + (NAMES_MAX - 8)

abbrev pub offer_at : ℕ → ℕ
offer_at n = offer_start (offer_name n)

-- what an offer is for: it waits until its place is taken, a caller may spell a name in it, or it stands at a place
pub data Use : Type 0 where
  waits : Use
  drafted_by : ℕ → Use
  stands_at : ℕ → Use

-- its bytes are bytes, and they are some and not too many
pub record IsValid (name : Name) : Type 0 where
  pub class : name.0 < 256
  pub some_byte : 0 < length name.1
  pub short : length name.1 ≤ NAME_BYTES_MAX
  pub bytes : (k : ℕ) → slice_index name.1 k < 256

-- the place i is taken by an offer, which spells its name; the caller placed it
pub record Stands (words : List ℕ) (placed : ℕ → List Name) (use_of : ℕ → Use) (made i : ℕ) (p : Name) : Type 0 where
  pub caller : ℕ
  pub number : ℕ
  pub was_made : caller < made
  pub was_placed : get_elem? (placed caller) number ≡ some p
  pub offer : ℕ
  pub low : offer < offers_max
  pub used : use_of offer ≡ stands_at i
  pub named : slice_index words (row_at i) ≡ offer_name offer
  pub spelt_there : (j : ℕ) → j < 9 → slice_index words (offer_at offer + j) ≡ spelt p j

abbrev pub among : ℕ → List ℕ → Bool
among x [] = false
among x (y ∷ ys) = cond (x == y) true (among x ys)

-- the names begin with those of this front, which has all that its caller placed
abbrev pub IsKnown : List Name → (ℕ → List Name) → List ℕ → Front → Type 0
IsKnown names placed owns f = (among f.caller owns ≡ true) × IsPrefix f.known names × (placed f.caller ≡ f.placed)

-- what is true of the view v of the seat j
pub record Knows (words : List ℕ) (names : List Name) (made : ℕ) (owner : ℕ → ℕ) (placed : ℕ → List Name) (use_of : ℕ → Use) (j : ℕ) (v : View) : Type 0 where
  pub front : IsPrefix v.known names
  pub itself : among v.caller v.owns ≡ true
  pub first : v.caller ≡ 0 → v.made ≡ made
  pub own : (c : ℕ) → among c v.owns ≡ true → (c < made) × (owner c ≡ j)
  pub mine : v.shut ≡ false → placed v.caller ≡ v.placed
  pub taken : (i : ℕ) (f : Front) → v.shut ≡ true → get_elem? v.took i ≡ some f → IsKnown names placed v.owns f
  pub offers_long : length v.offers ≡ length v.known
  pub rows : (k : ℕ) → k < length v.known → slice_index words (row_at k) ≡ slice_index v.offers k
  pub short : length v.draft ≤ 9
  pub drafts : v.shut ≡ false → use_of v.offer ≡ drafted_by v.caller
  pub drafted : (i : ℕ) → v.shut ≡ false → i < length v.draft → slice_index words (offer_at v.offer + i) ≡ slice_index v.draft i

pub record Rowed (s : State (Unit {0}) View) : Type 0 where
  pub names : List Name
  pub made : ℕ
  pub owner : ℕ → ℕ
  pub placed : ℕ → List Name
  pub use_of : ℕ → Use
  pub few : made ≤ callers_max
  pub fits : length names ≤ NAMES_MAX
  pub wide : length s.words ≡ words_max
  pub distinct : (i j : ℕ) (p : Name) → get_elem? names i ≡ some p → get_elem? names j ≡ some p → i ≡ j
  pub valid : (i : ℕ) (p : Name) → get_elem? names i ≡ some p → IsValid p
  pub taken : (i : ℕ) (p : Name) → get_elem? names i ≡ some p → Stands s.words placed use_of made i p
  pub open_ : (i : ℕ) → length names ≤ i → i < NAMES_MAX → slice_index s.words (row_at i) ≡ 0
  pub waiting : (i : ℕ) → length names ≤ i → use_of (next_offer i) ≡ waits
  pub unmade : (c : ℕ) → made ≤ c → placed c ≡ []
  pub unused : (c : ℕ) → made ≤ c → c < callers_max → use_of c ≡ drafted_by c
  pub seats : (j : ℕ) (v : View) → get_elem? s.views j ≡ some v → v.live ≡ true → Knows s.words names made owner placed use_of j v

-- the seat of a caller who has placed nothing
abbrev pub newcomer : ℕ → ℕ → View
newcomer caller made = record { caller = caller; live = true; made = made; owns = caller ∷ []; shut = false; took = []; known = []; offers = []; placed = []; offer = caller; draft = [] }

abbrev pub Sat : Type 0
Sat = Me (Unit {0}) View

abbrev pub with_draft : View → ℕ → ℕ → View
with_draft v i x = record v { draft = take i v.draft ++ x ∷ [] }

-- a word of the next offer is stored
abbrev pub drafts : Step (Unit {0}) → Sat → ℕ → Sat → Type 0
drafts st m r m' = (i : ℕ) → st.word ≡ offer_at m.0.offer + i → m' ≡ (with_draft m.0 i r, m.1)

abbrev pub with_known : View → Name → ℕ → View
with_known v p word = record v { known = v.known ++ p ∷ []; offers = v.offers ++ word ∷ [] }

-- its next offer is that of the place that it took
abbrev pub with_placed : View → Name → ℕ → View
with_placed v p word = record v { known = v.known ++ p ∷ []; offers = v.offers ++ word ∷ []; placed = v.placed ++ p ∷ []; offer = next_offer (length v.known); draft = [] }

-- the known names reach the next place, where another name stands
abbrev pub Reaches : View → ℕ → View → Type 0
Reaches v word w = (p : Name) × (w ≡ with_known v p word) × IsValid p × (place v.known p ≡ None) × (word ≤ offers_max) × (length v.offers ≡ length v.known)

-- the first unknown place was tried for a name: it is placed, or another name stands there and is known now
abbrev pub places : Name → Step (Unit {0}) → Sat → ℕ → Sat → Type 0
places p st m r m' = (m'.1 ≡ m.1) × (r ≡ 0 → m'.0 ≡ with_placed m.0 p st.second) × (r ≢ 0 → Reaches m.0 r m'.0)

-- the first unknown place was read
abbrev pub reads : Step (Unit {0}) → Sat → ℕ → Sat → Type 0
reads st m r m' = (m'.1 ≡ m.1) × (r ≡ 0 → m'.0 ≡ m.0) × (r ≢ 0 → Reaches m.0 r m'.0)

-- a word of the offer that stands at a known place was read
abbrev pub spells : Step (Unit {0}) → Sat → ℕ → Sat → Type 0
spells st m r m' =
    (m' ≡ m)
    × ((k j : ℕ) (p : Name) → get_elem? m.0.known k ≡ some p → st.word ≡ offer_start (slice_index m.0.offers k) + j → j < 9 → r ≡ spelt p j)

-- the name's offer is drafted
abbrev pub IsDrafted : Name → List ℕ → Type 0
IsDrafted p draft = (length draft ≡ 9) × ((i : ℕ) → i < 9 → slice_index draft i ≡ spelt p i)

-- caller 0's view once the next caller is made
abbrev pub forked : View → View
forked v = record v { made = v.made + 1 }

abbrev pub front_of : View → Front
front_of v = record { caller = v.caller; known = v.known; placed = v.placed }

-- the fronts that were put together in this view
abbrev pub fronts : View → List Front
fronts v = cond v.shut v.took (front_of v ∷ [])

abbrev pub joined : View → View → View
joined v w = record v { owns = v.owns ++ w.owns; shut = true; took = fronts v ++ fronts w }

abbrev pub spent : View
spent = record { caller = 0; live = false; made = 0; owns = []; shut = true; took = []; known = []; offers = []; placed = []; offer = 0; draft = [] }

-- the view with another draft
abbrev pub redrafted : View → List ℕ → View
redrafted v draft = record v { draft = draft }

-- it is the same caller's view, at another step
abbrev pub IsSameCaller : View → View → Type 0
IsSameCaller v w = (w.caller ≡ v.caller) × (w.made ≡ v.made) × (w.owns ≡ v.owns)

-- one more name is known, which stands in the row
pub record Learns (v : View) (word : ℕ) (w : View) : Type 0 where
  pub name : Name
  pub known : w.known ≡ v.known ++ name ∷ []
  pub offers : w.offers ≡ v.offers ++ word ∷ []
  pub placed : w.placed ≡ v.placed
  pub offer : w.offer ≡ v.offer
  pub same : IsSameCaller v w
  pub valid : IsValid name
  pub new : place v.known name ≡ None
  pub low : word ≤ offers_max
  pub long : length v.offers ≡ length v.known

-- this name was placed and is known
pub record Gains (v : View) (name : Name) (w : View) : Type 0 where
  pub known : w.known ≡ v.known ++ name ∷ []
  pub placed : w.placed ≡ v.placed ++ name ∷ []
  pub offer : w.offer ≡ next_offer (length v.known)
  pub same : IsSameCaller v w

-- the word names the offer of a known place, which has this name
abbrev pub IsOfferOf : View → ℕ → Name → Type 0
IsOfferOf v word p = (k : ℕ) × (get_elem? v.known k ≡ some p) × (slice_index v.offers k ≡ word)
