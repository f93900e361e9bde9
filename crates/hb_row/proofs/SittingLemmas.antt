-- A seat that learned or placed a name is a seat.
use Rattle.std.proofs.Common.{◌≡◌, ℕ, ◌+◌, ◌<◌, ◌≤◌, ⊎_elim, List, [], ◌∷◌, ◌++◌, Option, Some, None, true, length, sym, refl, ap, ◌∙◌, subst, arith}
use Rattle.std.specs.Prelude.{is_some}
use mathlib.Core.Option.{some}
use mathlib.Core.List.{IsPrefix}
use lib.ListN.{get_elem?}
use Rattle.std.proofs.lemmas.List.{length_push}
use Rattle.atomic_table.specs.Seated.{TableId}
use Rattle.hb_names.specs.Names.{Name, place, with_name}
use Rattle.hb_names.proofs.NameLemmas.{place-at, place-longer, with_name-place, with_name-begins}
use Rattle.hb_names.specs.declared.names.TheConstants.{NAMES_MAX}
use Rattle.hb_row.specs.declared.view.View.{View}
use Rattle.hb_row.specs.declared.seat.NameSeat.{NameSeat}
use Rattle.hb_row.specs.Row.{next_offer, Gains, Learns}
use Rattle.hb_row.specs.Seats.{IsPlaceOf, IsSeatOf, known_of, asked_by}
use Rattle.hb_row.specs.Known.{name_at, IsNamed, AreNamed}
use Rattle.std.proofs.lemmas.Option.{get_or_from_slice_get}
use Rattle.hb_row.proofs.ListLemmas.{at_behind}

named_by : (name : Name) (names longer : List Name) → ((k : ℕ) → place names name ≡ Some k → place longer name ≡ Some k) → IsNamed name names → IsNamed name longer
named_by name names longer stays = by (place names name) refl
  where
    by : (o : Option ℕ) → place names name ≡ o → is_some o ≡ true → IsNamed name longer
    by None e t = absurd (cc t)
    by (Some k) e t = ap is_some (stays k e)

pub named_longer : (name : Name) (names longer : List Name) → IsPrefix names longer → IsNamed name names → IsNamed name longer
named_longer name names longer begins = named_by name names longer (λ k e. place-longer names longer name k begins e)

pub named_with : (names : List Name) (name : Name) → IsNamed name (with_name names name)
named_with names name = ap is_some (with_name-place names name).1

pub answered_more : (placed asked : List Name) (name : Name) → AreNamed placed asked → AreNamed (placed ++ name ∷ []) (with_name asked name)
answered_more placed asked name all i x is = ⊎_elim
    (λ t. named_longer x asked (with_name asked name) (with_name-begins asked name) (all i x t))
    (λ t. subst (λ (z : Name). IsNamed z (with_name asked name)) t.1 (named_with asked name))
    (at_behind placed name x i is)

module _ (table : TableId) (old new : NameSeat) (seat : IsSeatOf table old) (caller : new.caller ≡ old.caller) (made : new.made ≡ old.made) (here : IsPlaceOf table new.place) where
  abbrev v : View
  v = old.place.me.0

  abbrev w : View
  w = new.place.me.0

  pub gains : (name : Name) → length (known_of old) < NAMES_MAX → new.offer ≡ next_offer (length (known_of old)) → Gains v name w → known_of new ≡ known_of old ++ name ∷ []
      → asked_by new ≡ with_name (asked_by old) name → AreNamed (asked_by new) (known_of new) → IsSeatOf table new
  gains name inside offer told known asked answers =
      record {
        place = here;
        caller = told.same.0 ∙ seat.caller ∙ sym caller;
        low = (let l = seat.low in omega (arith, l, caller));
        made = told.same.1 ∙ seat.made ∙ sym made;
        owns = told.same.2 ∙ seat.owns ∙ ap (λ z. z ∷ []) (sym told.same.0);
        offer = told.offer ∙ ap (λ (z : List Name). next_offer (length z)) seat.known ∙ sym offer;
        low_offer = omega (arith, inside, offer);
        known = told.known ∙ ap (λ z. z ++ name ∷ []) seat.known ∙ sym known;
        answered = subst (λ (z : List Name × List Name). AreNamed z.0 z.1) (λ i. (sym told.placed i, sym asked i)) (answered_more v.placed (asked_by old) name seat.answered);
        asked = answers;
        small = (let k = ap length known in let l = length_push (known_of old) name in omega (arith, k, l, inside));
      }

  pub learns : (word : ℕ) (then : View) → length (known_of old) < NAMES_MAX → new.offer ≡ old.offer → (told : Learns v word then) → w ≡ then
      → known_of new ≡ known_of old ++ told.name ∷ [] → IsPrefix (asked_by old) (asked_by new) → AreNamed (asked_by new) (known_of new) → IsSeatOf table new
  learns word then inside offer told is known asked answers =
      record {
        place = here;
        caller = ap (λ (z : View). z.caller) is ∙ told.same.0 ∙ seat.caller ∙ sym caller;
        low = (let l = seat.low in omega (arith, l, caller));
        made = ap (λ (z : View). z.made) is ∙ told.same.1 ∙ seat.made ∙ sym made;
        owns = ap (λ (z : View). z.owns) is ∙ told.same.2 ∙ seat.owns ∙ ap (λ z. z ∷ []) (sym told.same.0) ∙ ap (λ (z : View). z.caller ∷ []) (sym is);
        offer = ap (λ (z : View). z.offer) is ∙ told.offer ∙ seat.offer ∙ sym offer;
        low_offer = (let l = seat.low_offer in omega (arith, l, offer));
        known = ap (λ (z : View). z.known) is ∙ told.known ∙ ap (λ z. z ++ told.name ∷ []) seat.known ∙ sym known;
        answered = λ i x at. named_longer x (asked_by old) (asked_by new) asked (seat.answered i x (subst (λ (z : List Name). get_elem? z i ≡ some x) (ap
            (λ (z : View). z.placed) is ∙ told.placed) at));
        asked = answers;
        small = (let k = ap length known in let l = length_push (known_of old) told.name in omega (arith, k, l, inside));
      }

  pub stays : new.offer ≡ old.offer → w ≡ v → known_of new ≡ known_of old → asked_by new ≡ asked_by old → IsSeatOf table new
  stays offer same known asked = record {
    place = here;
    caller = ap (λ (z : View). z.caller) same ∙ seat.caller ∙ sym caller;
    low = (let l = seat.low in omega (arith, l, caller));
    made = ap (λ (z : View). z.made) same ∙ seat.made ∙ sym made;
    owns = ap (λ (z : View). z.owns) same ∙ seat.owns ∙ ap (λ (z : View). z.caller ∷ []) (sym same);
    offer = ap (λ (z : View). z.offer) same ∙ seat.offer ∙ sym offer;
    low_offer = (let l = seat.low_offer in omega (arith, l, offer));
    known = ap (λ (z : View). z.known) same ∙ seat.known ∙ sym known;
    answered = subst (λ (z : List Name × List Name). AreNamed z.0 z.1) (λ i. ((sym same i).placed, sym asked i)) seat.answered;
    asked = subst (λ (z : List Name × List Name). AreNamed z.0 z.1) (λ i. (sym asked i, sym known i)) seat.asked;
    small = (let k = ap length known in let l = seat.small in omega (arith, k, l));
  }

  pub asks : new.offer ≡ old.offer → w ≡ v → known_of new ≡ known_of old → IsPrefix (asked_by old) (asked_by new) → AreNamed (asked_by new) (known_of new) → IsSeatOf table new
  asks offer same known asked answers = record {
    place = here;
    caller = ap (λ (z : View). z.caller) same ∙ seat.caller ∙ sym caller;
    low = (let l = seat.low in omega (arith, l, caller));
    made = ap (λ (z : View). z.made) same ∙ seat.made ∙ sym made;
    owns = ap (λ (z : View). z.owns) same ∙ seat.owns ∙ ap (λ (z : View). z.caller ∷ []) (sym same);
    offer = ap (λ (z : View). z.offer) same ∙ seat.offer ∙ sym offer;
    low_offer = (let l = seat.low_offer in omega (arith, l, offer));
    known = ap (λ (z : View). z.known) same ∙ seat.known ∙ sym known;
    answered = λ i x at. named_longer x (asked_by old) (asked_by new) asked (seat.answered i x (subst (λ (z : View). get_elem? z.placed i ≡ some x) same at));
    asked = answers;
    small = (let k = ap length known in let l = seat.small in omega (arith, k, l));
  }

pub name_here : (names : List Name) (name : Name) (k : ℕ) → place names name ≡ Some k → name_at names k ≡ name
name_here names name k e = get_or_from_slice_get names k name (0, []) (place-at names name k e)
