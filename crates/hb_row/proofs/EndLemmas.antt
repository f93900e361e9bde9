-- The names that a row has at the end, as its words tell them.
use Rattle.std.proofs.Common.{◌≡◌, ◌≢◌, ℕ, zero, suc, ◌+◌, ◌<◌, inl, inr, cond, true, false, None, List, [], ◌∷◌, ◌++◌, length, get_or, refl, sym, ap, ◌∙◌, subst, ⊎_elim, arith}
use mathlib.Core.Logic.{dite}
use mathlib.Core.Option.{some, some-injective, some-ne-none}
use mathlib.Core.List.{IsPrefix}
use native.Mathlib.Decide.{dec_lt}
use lib.ListN.{get_elem?}
use Rattle.std.proofs.lemmas.List.{length_push, get_or_push, get_or_append_left}
use Rattle.atomic_table.specs.Table.{State}
use Rattle.atomic_table.proofs.Lists.{at_index, at_longer}
use Rattle.hb_names.specs.Names.{Name, place}
use Rattle.hb_names.specs.declared.names.TheConstants.{NAMES_MAX}
use Rattle.hb_row.specs.declared.view.View.{View}
use Rattle.hb_row.specs.declared.seat.NameSeat.{NameSeat}
use Rattle.hb_row.specs.Row.{row_at, offer_start, spelt, front_of, fronts, joined, IsKnown, Rowed}
use Rattle.atomic_table.specs.Seated.{TableId}
use Rattle.hb_row.specs.Spelling.{IsSpeltAt}
use Rattle.hb_row.specs.Seats.{IsIn, Tells, Keeps, HasAll, IsSeatOf, IsGathered, seat_front, known_of}
use Rattle.hb_row.proofs.ListLemmas.{within, at_there, prefix_whole, nowhere, any_blank, at_either, to_some}
use Rattle.hb_row.proofs.SeatLemmas.{fronts_known}
use Rattle.hb_row.proofs.SittingLemmas.{named_longer}

-- what is read where something stands
pub read_at : (words : List ℕ) (i r : ℕ) → get_elem? words i ≡ some r → get_or words i 0 ≡ r
read_at [] i r e = absurd (some-ne-none r (sym e))
read_at (w ∷ words) zero r e = some-injective w r e
read_at (w ∷ words) (suc i) r e = read_at words i r e

pub there_at : (words : List ℕ) (i r : ℕ) → i < length words → get_or words i 0 ≡ r → get_elem? words i ≡ some r
there_at words i r l e = at_index words i r l (sym (any_blank words i r 0 l ∙ e))

module _ (words : List ℕ) (names : List Name) (tells : Tells words names) (known : List Name) (begins : IsPrefix known names) (inside : length known < NAMES_MAX) where
  -- where nothing stands behind them, these are all
  pub ends : get_or words (row_at (length known)) 0 ≡ 0 → known ≡ names
  ends is = prefix_whole known names begins (dite (dec_lt (length known) (length names))
      (λ l. let t = at_there names (length known) l in let n = (tells.named (length known) t.0 t.1).0 in absurd (omega (arith, n, is)))
      (λ ge. omega arith))

  -- where something stands, it is one more
  pub goes_on : get_or words (row_at (length known)) 0 ≢ 0 → (p : Name) × (get_elem? names (length known) ≡ some p)
  goes_on other = dite (dec_lt (length known) (length names)) (λ l. at_there names (length known) l) (λ ge. absurd (other (tells.past (length known) (omega arith) inside)))

  module _ (p : Name) (next : get_elem? names (length known) ≡ some p) where
    pub next_new : place known p ≡ None
    next_new = nowhere known p (λ i there. let l = within known i p there in
        let same = tells.distinct i (length known) p (subst (λ l. get_elem? l i ≡ some p) begins.1 (at_longer known begins.0 i p there)) next in omega (arith, l, same))

    pub next_spelt : (word : ℕ) → get_or words (row_at (length known)) 0 ≡ word → IsSpeltAt words word p
    next_spelt word is j l =
        let low = (tells.named (length known) p next).1 in let wide = tells.wide in
        there_at words (offer_start word + j) (spelt p j) (omega (arith, low, is, wide, l)) (ap (λ z. get_or words (offer_start z + j) 0) (sym is) ∙ tells.spelt_out (length known) j p next l)

abbrev St : Type 0
St = State (Unit {0}) View

pub tells_all : (s : St) (r : Rowed s) → Tells s.words r.names
tells_all s r = record {
  wide = r.wide;
  few = r.fits;
  distinct = r.distinct;
  valid = r.valid;
  named = λ i p e. (let st = r.taken i p e in let low = st.low in let named = st.named in (omega arith, omega arith));
  spelt_out = λ i j p e l. (let st = r.taken i p e in ap (λ z. get_or s.words (offer_start z + j) 0) st.named ∙ st.spelt_there j l);
  past = r.open_;
}

in_left : {A : Type 0} (x : A) (xs ys : List A) → IsIn x xs → IsIn x (xs ++ ys)
in_left x xs ys is = (is.0, at_longer xs ys is.0 x is.1)

in_right : {A : Type 0} (x : A) (xs ys : List A) → IsIn x ys → IsIn x (xs ++ ys)
in_right x [] ys s = s
in_right x (z ∷ xs) ys s = let r = in_right x xs ys s in (suc r.0, r.1)

own_front : (v : View) → v.shut ≡ false → IsIn (front_of v) (fronts v)
own_front v still = subst (λ b. IsIn (front_of v) (cond b v.took (front_of v ∷ []))) (sym still) (0, refl)

-- one more seat is put together with those before
pub keeps_more : (seats left : List NameSeat) (v : View) (other : NameSeat) → other.place.me.0.shut ≡ false → Keeps seats v (left ++ other ∷ []) → Keeps seats (joined v other.place.me.0) left
keeps_more seats left v other still keeps seat is = ⊎_elim
    (λ (t : IsIn (seat_front seat) (fronts v)). inl (in_left (seat_front seat) (fronts v) (fronts other.place.me.0) t))
    (λ (t : IsIn seat (left ++ other ∷ [])). ⊎_elim
    (λ (u : IsIn seat left). inr u)
    (λ (u : IsIn seat (other ∷ [])). inl (in_right (seat_front seat) (fronts v) (fronts other.place.me.0) (subst
    (λ (z : NameSeat). IsIn (seat_front z) (fronts other.place.me.0)) (only u) (own_front other.place.me.0 still))))
    (at_either left (other ∷ []) seat t.0 t.1))
    (keeps seat is)
  where
    only : IsIn seat (other ∷ []) → other ≡ seat
    only (zero, e) = some-injective other seat e
    only (suc i, e) = absurd (some-ne-none seat (sym e))

at_default : {A : Type 0} (xs : List A) (i : ℕ) (x : A) → get_elem? xs i ≡ some x → get_or xs i x ≡ x
at_default [] i x e = refl
at_default (z ∷ xs) zero x e = some-injective z x e
at_default (z ∷ xs) (suc i) x e = at_default xs i x e

all_in : {A : Type 0} (P : A → Type 0) (xs : List A) (x : A) → ((k : ℕ) (d : A) → k < length xs → P (get_or xs k d)) → IsIn x xs → P x
all_in P xs x all is = subst P (at_default xs is.0 x is.1) (all is.0 x (within xs is.0 x is.1))

pub all_last : {A : Type 0} (P : A → Type 0) (xs : List A) (x : A) → ((k : ℕ) (d : A) → k < length (xs ++ x ∷ []) → P (get_or (xs ++ x ∷ []) k d)) → P x
all_last P xs x all = subst P (get_or_push xs x x (length xs) refl) (all (length xs) x (let n = length_push xs x in omega (arith, n)))

pub all_front : {A : Type 0} (P : A → Type 0) (xs : List A) (x : A) → ((k : ℕ) (d : A) → k < length (xs ++ x ∷ []) → P (get_or (xs ++ x ∷ []) k d)) → (k : ℕ) (d : A)
    → k < length xs → P (get_or xs k d)
all_front P xs x all k d l = subst P (get_or_append_left xs (x ∷ []) d k l) (all k d (let n = length_push xs x in omega (arith, n)))

module _ (table : TableId) (s : St) (r : Rowed s) (id : ℕ) (v : View) (at : get_elem? s.views id ≡ some v) (live : v.live ≡ true) (zero_is : v.caller ≡ 0)
    (first : NameSeat) (others : List NameSeat) (head : IsSeatOf table first) (rest : (k : ℕ) (d : NameSeat) → k < length others
    → IsSeatOf table (get_or others k d)) (keeps : Keeps (first ∷ others) v []) where
  sits : (seat : NameSeat) → IsIn seat (first ∷ others) → IsSeatOf table seat
  sits seat (zero, e) = subst (IsSeatOf table) (some-injective first seat e) head
  sits seat (suc i, e) = all_in (IsSeatOf table) others seat rest (i, e)

  front_known : (seat : NameSeat) → IsIn seat (first ∷ others) → IsKnown r.names r.placed v.owns (seat_front seat)
  front_known seat is = ⊎_elim
      (λ (t : IsIn (seat_front seat) (fronts v)). fronts_known s.words r.names r.made r.owner r.placed r.use_of id v (r.seats id v at live) t.0 (seat_front seat) t.1)
      (λ (t : IsIn seat []). absurd (some-ne-none seat (sym t.1)))
      (keeps seat is)

  pub names_begin : (seat : NameSeat) → IsIn seat (first ∷ others) → IsPrefix (known_of seat) r.names
  names_begin seat is = subst (λ l. IsPrefix l r.names) (sits seat is).known (front_known seat is).1

  pub gathered : HasAll v.made (first ∷ others) → IsGathered (first ∷ others) r.names
  gathered all = record {
    few = r.fits;
    differ = λ i j name at_i at_j. r.distinct i j name (to_some r.names i name at_i) (to_some r.names j name at_j);
    known = names_begin;
    answered = λ seat is i name e. named_longer name (known_of seat) r.names (names_begin seat is) ((sits seat is).asked i name e);
    asked = λ i name e.
        (let st = r.taken i name e in let made_is = (r.seats id v at live).first zero_is in let was_made = st.was_made in
        let whose = all st.caller (omega (arith, made_is, was_made)) in let known = front_known whose.0 whose.1 in
        let mine : get_elem? whose.0.place.me.0.placed st.number ≡ some name = subst (λ (l : List Name). get_elem? l st.number ≡ some name) (sym (ap r.placed whose.2) ∙ known.2) st.was_placed in
        (whose.0, whose.1, (sits whose.0 whose.1).answered st.number name mine));
  }
