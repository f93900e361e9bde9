use Rattle.std.proofs.Common.{refl}
use Rattle.hb_tables.specs.declared.entry.Act.TheVariants.{WornDef}
use Rattle.hb_eval.proofs.TableLemmas.{defined_acts, worn_def_acts}
use Rattle.hb_eval.proofs.GrowthLemmas.{def_changes, changes_stand, changes_grown}
use Rattle.hb_eval.proofs.KeepingLemmas.{stays_left, stays_defined}
use Rattle.hb_eval.proofs.tables.define.Goals as goal

pub returns-in-Done-clause-act : goal.returns-in-Done-clause-act
returns-in-Done-clause-act g c = defined_acts _ _ _ c.args.key c.args.site c.in-Done.ensures.entry

pub returns-in-Worn-clause-act : goal.returns-in-Worn-clause-act
returns-in-Worn-clause-act g c = worn_def_acts _ _ _ c.args.key c.args.site c.in-Worn.ensures.entry

pub returns-in-Done-clause-others : goal.returns-in-Done-clause-others
returns-in-Done-clause-others g c = changes_stand _ c.args.key.0 _ _ (def_changes _ _ _ c.args.key c.args.site c.set_def.result c.set_def.ensures.entry)

pub returns-in-Done-clause-grown : goal.returns-in-Done-clause-grown
returns-in-Done-clause-grown g c t known was asked named = changes_grown t _ c.args.key.0 known was asked _ _ (def_changes _ _ _ c.args.key c.args.site c.set_def.result c.set_def.ensures.entry) named

pub returns-in-Worn-clause-others : goal.returns-in-Worn-clause-others
returns-in-Worn-clause-others g c = changes_stand _ c.args.key.0 _ _ (def_changes _ _ _ c.args.key c.args.site c.set_def.result c.set_def.ensures.entry)

pub returns-in-Worn-clause-grown : goal.returns-in-Worn-clause-grown
returns-in-Worn-clause-grown g c t known was asked named = changes_grown t _ c.args.key.0 known was asked _ _ (def_changes _ _ _ c.args.key c.args.site c.set_def.result c.set_def.ensures.entry) named

pub returns-in-Done-clause-own : goal.returns-in-Done-clause-own
returns-in-Done-clause-own g c = stays_defined _ _ _ c.args.key c.args.site _ _ c.in-Done.ensures.entry c.drop_def.ensures.each

pub returns-in-Worn-clause-own : goal.returns-in-Worn-clause-own
returns-in-Worn-clause-own g c = stays_left _ _ _ (WornDef c.args.key) _ c.in-Worn.ensures.entry refl (λ past before. tt)
