use Rattle.std.proofs.Common.{◌<◌, ℕ, List, length, arith}
use mathlib.Core.Logic.{dite}
use native.Mathlib.Decide.{dec_lt}
use Rattle.hb_names.specs.Names.{Name}
use Rattle.hb_row.specs.Seats.{Tells}
use Rattle.hb_row.proofs.ListLemmas.{at_there}
use Rattle.hb_row.proofs.laws.words_tell_one_list.Goals as goal

not_shorter : (words : List ℕ) (names others : List Name) → Tells words names → Tells words others → length names < length others → ⊥
not_shorter words names others one two l =
    let t = at_there others (length names) l in let n = (two.named (length names) t.0 t.1).0 in let few = two.few in
    let e = one.past (length names) (omega arith) (omega (arith, l, few)) in omega (arith, n, e)

pub returns : goal.returns
returns c words names others one two = dite (dec_lt (length names) (length others)) (λ l. absurd (not_shorter words names others one two l))
    (λ ge. dite (dec_lt (length others) (length names)) (λ l. absurd (not_shorter words others names two one l)) (λ le. omega (arith, ge, le)))
