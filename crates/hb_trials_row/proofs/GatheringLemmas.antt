-- All seats of a row, the first of them taken off.
use Rattle.std.proofs.Common.{◌≡◌, ℕ, zero, suc, ◌<◌, List, [], ◌∷◌, length, get_or, refl, ◌∙◌, arith}
use Rattle.std.specs.Prelude.{remove}
use Rattle.atomic_table.specs.Seated.{TableId}
use Rattle.atomic_table.proofs.Lists.{at_index}
use Rattle.hb_row.specs.declared.seat.NameSeat.{NameSeat}
use Rattle.hb_row.specs.Seats.{IsSeatOf, HasAll}
use Rattle.hb_trials_row.specs.Asking.{AreSeatsOf}

pub first_and_rest : {A : Type 0} (xs : List A) (first : A) → 0 < length xs → first ≡ get_or xs 0 first → first ∷ remove xs 0 ≡ xs
first_and_rest [] first l e = absurd (omega arith)
first_and_rest (x ∷ xs) first l e = λ i. e i ∷ xs

any_other : {A : Type 0} (l : List A) (i : ℕ) (a b : A) → i < length l → get_or l i a ≡ get_or l i b
any_other [] i a b h = absurd (omega arith)
any_other (x ∷ xs) zero a b h = refl
any_other (x ∷ xs) (suc i) a b h = any_other xs i a b (omega arith)

pub has_all : (table : TableId) (seats : List NameSeat) (made : ℕ) (d : NameSeat) → AreSeatsOf table seats → made ≡ length seats → HasAll made seats
has_all table seats made d are count c l =
    let inside : c < length seats = omega arith in let it = are c d inside in let seat : NameSeat = get_or seats c d in
    (seat, (c, at_index seats c seat inside (any_other seats c d seat inside)), it.0.caller ∙ it.1)

-- four seats stand in the order of their callers
pub four_seats : (table : TableId) (a b c d : NameSeat)
    → IsSeatOf table a × (a.caller ≡ 0) → IsSeatOf table b × (b.caller ≡ 1) → IsSeatOf table c × (c.caller ≡ 2) → IsSeatOf table d × (d.caller ≡ 3) → AreSeatsOf table (a ∷ b ∷ c ∷ d ∷ [])
four_seats table a b c d first second third fourth zero other l = first
four_seats table a b c d first second third fourth (suc zero) other l = second
four_seats table a b c d first second third fourth (suc (suc zero)) other l = third
four_seats table a b c d first second third fourth (suc (suc (suc zero))) other l = fourth
four_seats table a b c d first second third fourth (suc (suc (suc (suc k)))) other l = absurd (omega arith)
