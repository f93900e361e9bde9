-- What a turn over the cells comes to.
use Rattle.std.proofs.Common.{◌≡◌, ℕ, zero, suc, ◌+◌, ◌<◌, ◌≤◌, ◌==◌, Bool, true, false, List, [], ◌∷◌, ◌++◌, length, map, take, get_or, Some, None, refl, sym, ap, ◌∙◌, subst, arith}
use Rattle.std.proofs.lemmas.List.{map-append, map_more}
use Rattle.std.proofs.lemmas.Bool.{eqb-true, eqb-false}
use Rattle.once_cell.specs.Once.{cell_name}
use Rattle.once_cell.specs.declared.race.note.Note.{Note}
use Rattle.hb_types.specs.declared.ids.CallerId.{CallerId}
use Rattle.hb_shared.specs.declared.cells.Published.{Published}
use Rattle.hb_shared.specs.Cells.{Cell, first_of}
use Rattle.hb_shared.specs.Notes.{AreNotesOf, cell_of, known_at, Learns, Puts, IsTaken, AreTaken, IsFull, Takes}

-- the note of the next cell
pub notes_more : (cells : List Cell) (notes : List (Note Published)) (i : ℕ) (cell : Cell) (note : Note Published) → AreNotesOf (take i cells) notes → i < length cells
    → get_or cells i cell ≡ cell → note.cell ≡ cell_name cell → AreNotesOf (take (i + 1) cells) (notes ++ note ∷ [])
notes_more cells notes i cell note w inside here same =
    map-append cell_of notes (note ∷ []) ∙ ap (λ (names : List ℕ). names ++ note.cell ∷ []) w
    ∙ ap (λ (name : ℕ). map cell_name (take i cells) ++ name ∷ []) (same ∙ ap cell_name (sym here)) ∙ sym (map_more cell_name cells i cell inside)

-- one more note that knows nothing
pub nothing_more : (notes : List (Note Published)) (note : Note Published) → ((at : ℕ) → known_at notes at ≡ None) → note.known ≡ None → (at : ℕ) → known_at (notes ++ note ∷ []) at ≡ None
nothing_more [] note w e zero = e
nothing_more [] note w e (suc at) = refl
nothing_more (x ∷ notes) note w e zero = w zero
nothing_more (x ∷ notes) note w e (suc at) = nothing_more notes note (λ k. w (suc k)) e at

-- what was known to be taken still is
taken_still : (at k : ℕ) (now new : List (Note Published)) → Learns at now new → IsTaken now k → IsTaken new k
taken_still at k now new learns taken = (taken.0, learns.kept k taken.0 taken.1)

-- one more cell is taken
pub taken_more : (first at : ℕ) (now new : List (Note Published)) → Learns at now new → AreTaken first at now → IsTaken new at → AreTaken first (at + 1) new
taken_more first at now new learns taken here k low high = by (k == at) refl
  where
    by : (b : Bool) → (k == at) ≡ b → IsTaken new k
    by true e = subst (IsTaken new) (sym (eqb-true k at e)) here
    by false e = let ne = eqb-false k at e in taken_still at k now new learns (taken k low (omega (arith, high, ne)))

-- the cell at which a turn ends keeps the item
pub takes : (item held : Published) (first at : ℕ) (old now new : List (Note Published)) → held ≡ item → first ≡ first_of item.caller.0 → first ≤ at → at < first + 64
    → ((k : ℕ) → at ≤ k → known_at now k ≡ known_at old k) → AreTaken first at now → Learns at now new → Puts held at now new → Takes item old new at
takes item held first at old now new same begins low high later taken learns put = record {
  low = subst (λ n. n ≤ at) begins low;
  high = subst (λ n. at < n + 64) begins high;
  before = λ k from to. taken_still at k now new learns (taken k (subst (λ n. n ≤ k) (sym begins) from) to);
  free = sym (later at (omega arith)) ∙ put.free;
  kept = subst (λ (x : Published). known_at new at ≡ Some x) same put.kept;
}

-- all cells of the caller were passed
pub full : (caller : CallerId) (first at : ℕ) (notes : List (Note Published)) → first ≡ first_of caller.0 → first + 64 ≤ at → AreTaken first at notes → IsFull caller notes
full caller first at notes begins past taken k low high = taken k (subst (λ n. n ≤ k) (sym begins) low) (omega (arith, past, subst (λ n. k < n + 64) (sym begins) high))
