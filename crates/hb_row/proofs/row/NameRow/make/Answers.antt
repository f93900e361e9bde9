use Rattle.std.proofs.Common.{ℕ, List, [], sym, subst, ap, ◌∙◌, length}
use Rattle.atomic_table.specs.Table.{opening}
use Rattle.hb_row.specs.Row.{Rowed, newcomer}
use Rattle.hb_row.proofs.PlacingLemmas.{opens}
use Rattle.hb_row.proofs.row.NameRow.make.Goals as goal

pub of_words-requires : goal.of_words-requires
of_words-requires c = subst (λ (ws : List ℕ). Rowed (opening {S = Unit {0}} ws [] (newcomer 0 1)))
    (sym c.as_slice.ensures.value) (opens c.in_ok-zeros.zeros.items c.in_ok-zeros.ensures.count c.in_ok-zeros.ensures.zero)

pub invariant_of-result : goal.invariant_of-result
invariant_of-result c = let e = c.in_ok-table.ensures in record { wide = (e.0 ∙ ap length c.as_slice.ensures.value ∙ c.in_ok-zeros.ensures.count, e.1) }
