use Rattle.std.proofs.Common.{true, false, refl}
use Rattle.hb_tables.specs.declared.entry.Act.TheVariants.{Busy, WornType}
use Rattle.hb_eval.proofs.TableLemmas.{typed_acts, busy_acts, worn_type_acts}
use Rattle.hb_eval.proofs.GrowthLemmas.{type_changes, changes_stand, changes_grown}
use Rattle.hb_eval.proofs.KeepingLemmas.{stays_left, stays_retyped}
use Rattle.hb_eval.proofs.tables.declare.Goals as goal

pub returns-then-asks-clause-act : goal.returns-then-asks-clause-act
returns-then-asks-clause-act g c = rw c.if-asks.true (typed_acts true _ _ _ c.args.key c.args.site c.in-Done.ensures.entry)

pub returns-else-asks-clause-act : goal.returns-else-asks-clause-act
returns-else-asks-clause-act g c = rw c.if-asks.false (typed_acts false _ _ _ c.args.key c.args.site c.in-Done.ensures.entry)

pub returns-in-Busy-clause-act : goal.returns-in-Busy-clause-act
returns-in-Busy-clause-act g c = rw c.if-asks-2.true (busy_acts true _ _ _ _ c.args.key c.args.site c.in-Busy.ensures.entry)

pub returns-in-Busy-2-clause-act : goal.returns-in-Busy-2-clause-act
returns-in-Busy-2-clause-act g c = rw c.if-asks-2.false (busy_acts false _ _ _ _ c.args.key c.args.site c.in-Busy-2.ensures.entry)

pub returns-in-Worn-clause-act : goal.returns-in-Worn-clause-act
returns-in-Worn-clause-act g c = worn_type_acts c.args.asks _ _ _ c.args.key c.args.site c.in-Worn.ensures.entry

pub returns-then-asks-clause-others : goal.returns-then-asks-clause-others
returns-then-asks-clause-others g c = changes_stand _ c.args.key.0 _ _ (type_changes _ _ _ c.args.key c.args.site c.set_type.result c.set_type.ensures.entry)

pub returns-then-asks-clause-grown : goal.returns-then-asks-clause-grown
returns-then-asks-clause-grown g c t known was asked named = changes_grown t _ c.args.key.0 known was asked _ _ (type_changes _ _ _ c.args.key c.args.site c.set_type.result c.set_type.ensures.entry) named

pub returns-else-asks-clause-others : goal.returns-else-asks-clause-others
returns-else-asks-clause-others g c = changes_stand _ c.args.key.0 _ _ (type_changes _ _ _ c.args.key c.args.site c.set_type.result c.set_type.ensures.entry)

pub returns-else-asks-clause-grown : goal.returns-else-asks-clause-grown
returns-else-asks-clause-grown g c t known was asked named = changes_grown t _ c.args.key.0 known was asked _ _ (type_changes _ _ _ c.args.key c.args.site c.set_type.result c.set_type.ensures.entry) named

pub returns-in-Busy-clause-others : goal.returns-in-Busy-clause-others
returns-in-Busy-clause-others g c = changes_stand _ c.args.key.0 _ _ (type_changes _ _ _ c.args.key c.args.site c.set_type.result c.set_type.ensures.entry)

pub returns-in-Busy-clause-grown : goal.returns-in-Busy-clause-grown
returns-in-Busy-clause-grown g c t known was asked named = changes_grown t _ c.args.key.0 known was asked _ _ (type_changes _ _ _ c.args.key c.args.site c.set_type.result c.set_type.ensures.entry) named

pub returns-in-Busy-2-clause-others : goal.returns-in-Busy-2-clause-others
returns-in-Busy-2-clause-others g c = changes_stand _ c.args.key.0 _ _ (type_changes _ _ _ c.args.key c.args.site c.set_type.result c.set_type.ensures.entry)

pub returns-in-Busy-2-clause-grown : goal.returns-in-Busy-2-clause-grown
returns-in-Busy-2-clause-grown g c t known was asked named = changes_grown t _ c.args.key.0 known was asked _ _ (type_changes _ _ _ c.args.key c.args.site c.set_type.result c.set_type.ensures.entry) named

pub returns-in-Worn-clause-others : goal.returns-in-Worn-clause-others
returns-in-Worn-clause-others g c = changes_stand _ c.args.key.0 _ _ (type_changes _ _ _ c.args.key c.args.site c.set_type.result c.set_type.ensures.entry)

pub returns-in-Worn-clause-grown : goal.returns-in-Worn-clause-grown
returns-in-Worn-clause-grown g c t known was asked named = changes_grown t _ c.args.key.0 known was asked _ _ (type_changes _ _ _ c.args.key c.args.site c.set_type.result c.set_type.ensures.entry) named

pub returns-then-asks-clause-own : goal.returns-then-asks-clause-own
returns-then-asks-clause-own g c = stays_retyped _ _ _ c.args.key c.args.site _ _ c.in-Done.ensures.entry c.drop_type.ensures.each

pub returns-else-asks-clause-own : goal.returns-else-asks-clause-own
returns-else-asks-clause-own g c = stays_retyped _ _ _ c.args.key c.args.site _ _ c.in-Done.ensures.entry c.drop_type.ensures.each

pub returns-in-Busy-clause-own : goal.returns-in-Busy-clause-own
returns-in-Busy-clause-own g c = stays_left _ _ _ (Busy c.args.key c.in-Busy.pins) _ c.in-Busy.ensures.entry refl (λ past before. tt)

pub returns-in-Busy-2-clause-own : goal.returns-in-Busy-2-clause-own
returns-in-Busy-2-clause-own g c = stays_left _ _ _ (Busy c.args.key c.in-Busy-2.pins) _ c.in-Busy-2.ensures.entry refl (λ past before. tt)

pub returns-in-Worn-clause-own : goal.returns-in-Worn-clause-own
returns-in-Worn-clause-own g c = stays_left _ _ _ (WornType c.args.key) _ c.in-Worn.ensures.entry refl (λ past before. tt)
