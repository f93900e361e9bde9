use Rattle.std.proofs.Common.{sym, ap, subst, ◌∙◌, arith}
use Rattle.hb_row.specs.declared.seat.NameSeat.{NameSeat}
use Rattle.hb_row.specs.Seats.{IsSeatOf}
use Rattle.hb_trials_row.proofs.asking.ask_all.Goals as goal

pub for_each_mut-requires-clause-accepts : goal.for_each_mut-requires-clause-accepts
for_each_mut-requires-clause-accepts g c κs within i p l e = subst (IsSeatOf c.args.row.now.table.shared.table_id) (sym e) (c.requires i p.now l).0

pub returns-clause-seats : goal.returns-clause-seats
returns-clause-seats g c k d l =
    let n = c.for_each_mut.auto.s in let e = (c.for_each_mut.ensures k d (omega (arith, n, l))).1 in let old = c.requires k d (omega (arith, n, l)) in
    (subst (IsSeatOf c.args.row.now.table.shared.table_id) e.left e.call.0, ap (λ (z : NameSeat). z.caller) (sym e.left) ∙ e.call.1 ∙ ap (λ (z : NameSeat). z.caller) e.argument_is ∙ old.1)

pub returns-clause-made : goal.returns-clause-made
returns-clause-made g c k d l =
    let e = (c.for_each_mut.ensures k d l).1 in ap (λ (z : NameSeat). z.made) (sym e.left) ∙ e.call.2 ∙ ap (λ (z : NameSeat). z.made) e.argument_is
