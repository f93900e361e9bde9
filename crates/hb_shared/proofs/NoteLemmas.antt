-- What a write of one note changes.
use Rattle.std.proofs.Common.{◌≡◌, ◌≢◌, ℕ, zero, suc, ◌+◌, ◌<◌, ◌≤◌, ◌==◌, Bool, true, false, List, [], ◌∷◌, ◌++◌, length, map, set, get_or, Option, Some, None, IfSome, Result, Ok, Err, refl, sym, ap, ◌∙◌, subst, arith, length-append}
use Rattle.std.specs.Prelude.{slice_get, MatchOption, MatchResult}
use Rattle.std.proofs.Math.Seq.{map-set_same, get_or-append_seam}
use Rattle.std.proofs.lemmas.List.{get_or-map, length-map}
use Rattle.std.proofs.lemmas.Option.{slice_get-get_or, none-some}
use Rattle.std.proofs.lemmas.Bool.{eqb-true, eqb-false}
use Rattle.once_cell.specs.Once.{Agrees}
use Rattle.once_cell.specs.declared.race.note.Note.{Note}
use Rattle.hb_shared.specs.declared.cells.Published.{Published}
use Rattle.hb_shared.specs.Cells.{Cell}
use Rattle.hb_shared.specs.Notes.{AreNotesOf, cell_of, said_by, known_at, Learns, Puts, Sees, IsTaken}

-- as many of the one as of the other
pub as_many : {X Y : Type 0} (f : X → ℕ) (g : Y → ℕ) (xs : List X) (ys : List Y) → map f xs ≡ map g ys → length xs ≡ length ys
as_many f g xs ys w = sym (length-map xs f) ∙ ap length w ∙ length-map ys g

-- what is at a place of both
pub same_at : {X Y : Type 0} (f : X → ℕ) (g : Y → ℕ) (xs : List X) (ys : List Y) (at : ℕ) (x : X) (y : Y) → map f xs ≡ map g ys → at < length ys → get_or xs at x ≡ x → get_or ys at y ≡ y → f x ≡ g y
same_at f g xs ys at x y w inside here there =
    ap f (sym here) ∙ sym (get_or-map f xs at x 0 (omega (arith, inside, as_many f g xs ys w))) ∙ ap (λ (names : List ℕ). get_or names at 0) w ∙ get_or-map g ys at y 0 inside ∙ ap g there

get-set : {A : Type 0} (l : List A) (i : ℕ) (a : A) → i < length l → slice_get (set l i a) i ≡ Some a
get-set [] i a w = absurd (omega arith)
get-set (x ∷ l) zero a w = refl
get-set (x ∷ l) (suc i) a w = get-set l i a (omega arith)

get-set_else : {A : Type 0} (l : List A) (i k : ℕ) (a : A) → k ≢ i → slice_get (set l i a) k ≡ slice_get l k
get-set_else (x ∷ l) zero zero a ne = absurd (ne refl)
get-set_else (x ∷ l) (suc i) (suc k) a ne = get-set_else l i k a (λ e. ne (ap suc e))
get-set_else _ _ _ _ _ = refl

-- what a note that stands at a place knows
pub known_here : (notes : List (Note Published)) (at : ℕ) (note : Note Published) → at < length notes → get_or notes at note ≡ note → known_at notes at ≡ note.known
known_here notes at note inside here = ap said_by (slice_get-get_or notes at note inside ∙ ap Some here)

pub known_set : (notes : List (Note Published)) (at : ℕ) (note : Note Published) → at < length notes → known_at (set notes at note) at ≡ note.known
known_set notes at note inside = ap said_by (get-set notes at note inside)

-- a note of the same cell takes the place of one
pub notes_set : (cells : List Cell) (notes : List (Note Published)) (at : ℕ) (note new : Note Published) → AreNotesOf cells notes → get_or notes at note ≡ note → new.cell ≡ note.cell
    → AreNotesOf cells (set notes at new)
notes_set cells notes at note new w here same = map-set_same cell_of notes at new note (same ∙ ap cell_of (sym here)) ∙ w

-- what the note knew, the new one knows
pub learned : (notes : List (Note Published)) (at : ℕ) (note new : Note Published) → at < length notes → get_or notes at note ≡ note
    → ((published : Published) → note.known ≡ Some published → new.known ≡ Some published) → Learns at notes (set notes at new)
learned notes at note new inside here keeps = record {
  kept = λ k published e. kept k published (k == at) refl e;
  others = λ k ne. ap said_by (get-set_else notes at k new ne);
}
  where
    kept : (k : ℕ) (published : Published) (b : Bool) → (k == at) ≡ b → known_at notes k ≡ Some published → known_at (set notes at new) k ≡ Some published
    kept k published true e h =
        let same = eqb-true k at e in
        ap (known_at (set notes at new)) same ∙ known_set notes at new inside ∙ keeps published (sym (known_here notes at note inside here) ∙ ap (known_at notes) (sym same) ∙ h)
    kept k published false e h = ap said_by (get-set_else notes at k new (eqb-false k at e)) ∙ h

-- what was known is what is known
pub agreed : (old new : Option Published) (x : Published) → new ≡ Some x → Agrees old x → (published : Published) → old ≡ Some published → new ≡ Some published
agreed old new x e agrees published h = e ∙ ap Some (sym (subst (λ (known : Option Published). Agrees known x) h agrees))

-- a look at a cell forgets nothing
pub looked : {R : Type 0} (now : R → Published) (result : Option R) (old new : Option Published)
    → MatchOption result ((old ≡ None) × (new ≡ None)) (λ r. (new ≡ Some (now r)) × Agrees old (now r)) → (published : Published) → old ≡ Some published → new ≡ Some published
looked now None old new m published e = absurd (none-some published (sym m.0 ∙ e))
looked now (Some r) old new m published e = agreed old new (now r) m.0 m.1 published e

-- what a look at a cell sees
pub sees : {R : Type 0} (now : R → Published) (result : Option R) (notes : List (Note Published)) (at : ℕ) (note new : Note Published) → at < length notes → get_or notes at note ≡ note
    → MatchOption result ((note.known ≡ None) × (new.known ≡ None)) (λ r. (new.known ≡ Some (now r)) × Agrees note.known (now r))
    → MatchOption result (known_at notes at ≡ None) (λ r. Sees (now r) at notes (set notes at new))
sees now None notes at note new inside here m = known_here notes at note inside here ∙ m.0
sees now (Some r) notes at note new inside here m = record {
  known = known_set notes at new inside ∙ m.0;
  before = λ other e. subst (λ (known : Option Published). Agrees known (now r)) (sym (known_here notes at note inside here) ∙ e) m.1;
}

-- what an offer to a cell comes to
pub puts : {A R : Type 0} (value : R → Published) (item : Published) (result : Result A R) (notes : List (Note Published)) (at : ℕ) (note new : Note Published) → at < length notes
    → get_or notes at note ≡ note → (x : Published) → new.known ≡ Some x
    → MatchResult result (λ _. (new.known ≡ Some item) × (note.known ≡ None)) (λ back. value back ≡ item)
    → MatchResult result (λ _. Puts item at notes (set notes at new)) (λ back. (value back ≡ item) × IsTaken (set notes at new) at)
puts value item (Ok a) notes at note new inside here x known m = record {
  free = known_here notes at note inside here ∙ m.1;
  kept = known_set notes at new inside ∙ m.0;
}
puts value item (Err back) notes at note new inside here x known m = (m, (x, known_set notes at new inside ∙ known))

-- the last of the front stands where the front without it ends
pub at_end : (front gone others : List (Note Published)) (other : Note Published) → front ++ other ∷ gone ≡ others → (get_or others (length front) other ≡ other) × (length front < length others)
at_end front gone others other split = (
  ap (λ (l : List (Note Published)). get_or l (length front) other) (sym split) ∙ get_or-append_seam front other gone other,
  subst (λ (l : List (Note Published)). length front < length l) split (omega (arith, length-append front (other ∷ gone))),
)

-- notes of one place are of one cell
pub pair_cell : (cells : List Cell) (front gone notes others : List (Note Published)) (note other : Note Published) → front ++ other ∷ gone ≡ others → AreNotesOf cells notes → AreNotesOf cells others
    → get_or notes (length front) note ≡ note → other.cell ≡ note.cell
pair_cell cells front gone notes others note other split w v here =
    let end = at_end front gone others other split in
    sym (same_at cell_of cell_of notes others (length front) note other (w ∙ sym v) end.1 here end.0)

-- where two notes of a place were compared, they know the same
pub compared : (front gone notes others : List (Note Published)) (note other : Note Published) → front ++ other ∷ gone ≡ others → length notes ≡ length others → get_or notes (length front) note ≡ note
    → IfSome other.known (Agrees note.known)
    → ((at : ℕ) (x y : Published) → length front + 1 ≤ at → known_at notes at ≡ Some x → known_at others at ≡ Some y → x ≡ y)
    → (at : ℕ) (x y : Published) → length front ≤ at → known_at notes at ≡ Some x → known_at others at ≡ Some y → x ≡ y
compared front gone notes others note other split many here alike later at x y low e h = by (at == length front) refl
  where
    there : get_or others (length front) other ≡ other
    there = (at_end front gone others other split).0

    inside : length front < length others
    inside = (at_end front gone others other split).1

    by : (b : Bool) → (at == length front) ≡ b → x ≡ y
    by true same =
        let is = eqb-true at (length front) same in
        let mine : note.known ≡ Some x = sym (known_here notes (length front) note (omega (arith, inside, many)) here) ∙ ap (known_at notes) (sym is) ∙ e in
        let theirs : other.known ≡ Some y = sym (known_here others (length front) other inside there) ∙ ap (known_at others) (sym is) ∙ h in
        subst (λ (k : Option Published). Agrees k y) mine (subst (λ (k : Option Published). IfSome k (Agrees note.known)) theirs alike)
    by false other_place = later at x y (omega (arith, low, eqb-false at (length front) other_place)) e h
