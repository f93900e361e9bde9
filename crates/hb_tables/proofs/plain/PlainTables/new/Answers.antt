use Rattle.std.proofs.Common.{refl, arith}
use Rattle.hb_tables.proofs.PlainLemmas.{tables_none}
use Rattle.hb_tables.proofs.plain.PlainTables.new.Goals as goal

pub invariant_of-result : goal.invariant_of-result
invariant_of-result c =
    let n = c.new.ensures.len in let none = c.new.ensures.items in
    let blank = c.in_ok-vec.ensures.items_if_clones_equal (λ y e. e) in
    (rw (none, blank) (tables_none c.args.versions _ c.requires.1 (λ k. (refl, refl, refl, refl, refl))), omega (arith, n), record { low = omega arith; before = omega arith; own = rw none tt })
