-- The seats that are put together at the end.
use Rattle.std.proofs.Common.{◌≡◌, ℕ, suc, ◌<◌, inl, inr, true, false, cond, List, [], ◌∷◌, ◌++◌, length, get_or, map, sym, refl, ap, ◌∙◌, subst, ⊎_elim, arith, ne_eqb}
use Rattle.std.proofs.lemmas.List.{get_or_push, length_push, get_or_append_left}
use mathlib.Core.List.{IsPrefix, map-append}
use mathlib.Core.Logic.{dite}
use mathlib.Core.Option.{some, some-ne-none}
use native.Mathlib.Decide.{ℕ_discrete}
use lib.ListN.{get_elem?}
use Rattle.hb_tables.specs.History.{journal, IsLegal}
use Rattle.hb_words.specs.declared.{view.View.View, view.Front.Front, words.WordSeat.WordSeat}
use Rattle.hb_words.specs.Seats.{view_of, seat_front, seat_caller}
use Rattle.hb_words.specs.Words.{among, AreWords, Kept, front_of, fronts, joined, Stands, Keeps, Covers, IsWhole}
use Rattle.hb_words.specs.Steps.{TableState}
use Rattle.hb_words.proofs.AmongLemmas.{among_one, among_left, among_right, among_either, stands_alone, stands_left, stands_right, stands_either}
use Rattle.hb_words.proofs.SeatLemmas.{fronts_known, knows_all}

own_front : (v : View) → v.shut ≡ false → Stands (front_of v) (fronts v)
own_front v still = subst (λ b. Stands (front_of v) (cond b v.took (front_of v ∷ []))) (sym still) (0, refl)

only_own : (w : View) → w.shut ≡ false → (f : Front) → Stands f (front_of w ∷ []) → Stands f (fronts w)
only_own w still f there = subst (λ g. Stands g (fronts w)) (stands_alone (front_of w) f there) (own_front w still)

pub keeps_more : (all left : List Front) (v w : View) → w.shut ≡ false → Keeps all v (left ++ front_of w ∷ []) → Keeps all (joined v w) left
keeps_more all left v w still keeps f at = ⊎_elim
    (λ (s : Stands f (fronts v)). inl (stands_left f (fronts v) (fronts w) s))
    (λ (s : Stands f (left ++ front_of w ∷ [])). ⊎_elim
    (λ (t : Stands f left). inr t)
    (λ (t : Stands f (front_of w ∷ [])). inl (stands_right f (fronts v) (fronts w) (only_own w still f t)))
    (stands_either left (front_of w ∷ []) f s))
    (keeps f at)

pub covers_more : (left : List ℕ) (v w : View) → w.owns ≡ w.caller ∷ [] → Covers v (left ++ w.caller ∷ []) → Covers (joined v w) left
covers_more left v w own covers c made = ⊎_elim
    (λ (h : among c v.owns ≡ true). inl (among_left c v.owns w.owns h))
    (λ (h : among c (left ++ w.caller ∷ []) ≡ true). ⊎_elim
    (λ (t : among c left ≡ true). inr t)
    (λ (t : among c (w.caller ∷ []) ≡ true). inl (among_right c v.owns w.owns (subst (λ z. among c z ≡ true) (sym own) t)))
    (among_either c left (w.caller ∷ []) h))
    (covers c made)

-- a caller of one of these seats has a front among theirs
seats_fronts : (c : ℕ) (ss : List WordSeat) → among c (map seat_caller ss) ≡ true → (f : Front) × Stands f (map seat_front ss) × (f.caller ≡ c)
seats_fronts c [] has = absurd (cc has)
seats_fronts c (s ∷ ss) has = dite (ℕ_discrete c (seat_caller s)) (λ is. (seat_front s, (0, refl), sym is))
    (λ ne. let h = ne_eqb c (seat_caller s) ne in
    let r = seats_fronts c ss (let g : cond false true (among c (map seat_caller ss)) ≡ true = subst (λ b. cond b true (among c (map seat_caller ss)) ≡ true) h has in g) in
    (r.0, (suc r.1.0, r.1.1), r.2))

pub all_callers : (first : WordSeat) (others : List WordSeat) → Covers (view_of first) (map seat_caller others)
    → (c : ℕ) → c < (view_of first).made → (f : Front) × Stands f (seat_front first ∷ map seat_front others) × (f.caller ≡ c)
all_callers first others covers c made = ⊎_elim
    (λ (h : among c (view_of first).owns ≡ true). (seat_front first, (0, refl), sym (among_one c (seat_caller first) (subst (λ z. among c z ≡ true) first.own h))))
    (λ (h : among c (map seat_caller others) ≡ true). let r = seats_fronts c others h in (r.0, (suc r.1.0, r.1.1), r.2))
    (covers c made)

pub whole : (limit id : ℕ) (all : List Front) (v : View) (s : TableState) → Kept limit s → get_elem? s.views id ≡ some v → v.live ≡ true → v.caller ≡ 0 → Covers v [] → Keeps all v []
    → ((c : ℕ) → c < v.made → (f : Front) × Stands f all × (f.caller ≡ c)) → IsWhole v.seen limit v.made all × AreWords v.seen s.words
whole limit id all v s r at live zero_is covers keeps callers =
    let every : (c : ℕ) → c < v.made → among c v.owns ≡ true = λ c l. ⊎_elim (λ (h : among c v.owns ≡ true). h) (λ (h : false ≡ true). absurd (cc h)) (covers c l) in
    let same = knows_all limit id v s r at live zero_is every in
    let me = r.seats id v at live in let made_is = me.first zero_is in (
      record {
        legal = subst (IsLegal limit) (sym same) r.legal;
        each_front = λ f at_all. ⊎_elim
            (λ (t : Stands f (fronts v)). (let h = fronts_known limit r.log r.made r.owner id v me f t in subst (λ l. IsPrefix f.seen l
            × (journal f.caller l ≡ journal f.caller f.seen)) (sym same) (h.1, h.2)))
            (λ (t : Stands f []). absurd (some-ne-none f (sym t.1)))
            (keeps f at_all);
        callers = callers;
        others = λ c late. (subst (λ l. journal c l ≡ []) (sym same) (r.unmade c (omega arith)));
      },
      subst (λ l. AreWords l s.words) (sym same) r.words,
    )

pub all_last : {A : Type 0} (P : A → Type 0) (xs : List A) (x : A) → ((k : ℕ) (d : A) → k < length (xs ++ x ∷ []) → P (get_or (xs ++ x ∷ []) k d)) → P x
all_last P xs x all = subst P (get_or_push xs x x (length xs) refl) (all (length xs) x (let n = length_push xs x in omega (arith, n)))

pub all_front : {A : Type 0} (P : A → Type 0) (xs : List A) (x : A) → ((k : ℕ) (d : A) → k < length (xs ++ x ∷ []) → P (get_or (xs ++ x ∷ []) k d)) → (k : ℕ) (d : A) → k < length xs
    → P (get_or xs k d)
all_front P xs x all k d l = subst P (get_or_append_left xs (x ∷ []) d k l) (all k d (let n = length_push xs x in omega (arith, n)))

pub map_push : {A B : Type 0} (f : A → B) (xs ys : List A) (x : A) → ys ≡ xs ++ x ∷ [] → map f ys ≡ map f xs ++ f x ∷ []
map_push f xs ys x e = ap (map f) e ∙ map-append f xs (x ∷ [])
