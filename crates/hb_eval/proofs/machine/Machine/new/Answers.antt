use Rattle.std.proofs.Common.{[], ◌∷◌, ◌++◌, ap, ◌∙◌}
use Rattle.hb_eval.specs.declared.cont.Cont.TheVariants as cont
use Rattle.hb_eval.specs.declared.stop.Stop.TheVariants as stop
use Rattle.hb_eval.proofs.RunLemmas.{new_stands}
use Rattle.hb_cache.specs.Kept.{kept_at}
use Rattle.hb_call.specs.OwnLaws.{own_none}
use Rattle.hb_eval.proofs.machine.Machine.new.Goals as goal

pub returns-clause-stands : goal.returns-clause-stands
returns-clause-stands c t known is =
    new_stands t known c.args.block c.args.caller stop.Steps c.new-4.result c.args.steps c.new.result c.new-2.result c.new-3.result c.push.new.self c.new-5.result c.journal.result c.new-2.ensures.items c.new-3.ensures.items
    (c.in_ok-push.ensures.items ∙ ap (λ l. l ++ cont.Items c.args.block 0 ∷ []) c.new-conts.ensures.items) c.new-5.ensures.items (c.journal.ensures.none c.args.caller) is

pub returns-clause-own : goal.returns-clause-own
returns-clause-own c t known asked log = own_none t known asked _ log _ (λ k. ap (λ l. kept_at l k) c.new-4.ensures)
