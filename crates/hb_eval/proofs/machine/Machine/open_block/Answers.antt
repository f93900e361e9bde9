use Rattle.std.proofs.Common.{[], ◌∷◌, ◌++◌, refl, ap, ◌∙◌}
use Rattle.hb_eval.specs.declared.cont.Cont.{Cont}
use Rattle.hb_eval.specs.declared.cont.Cont.TheVariants as cont
use Rattle.hb_eval.proofs.AdvanceLemmas.{opens_block}
use Rattle.hb_eval.proofs.machine.Machine.open_block.Goals as goal

pub returns-clause-opens : goal.returns-clause-opens
returns-clause-opens c =
    let rest = c.pop.new.self.items in
    let k : Cont = cont.Items c.in-Some-Items.block c.in-Some-Items.at in
    let n = c.items-next.ensures in
    opens_block c.args.prog.now c.args.self.now _ rest k c.items-next.result c.requires.fine c.requires.going c.requires.gives
    (c.in-Some-Items.ensures.items ∙ ap (λ (q : Cont). rest ++ q ∷ []) c.in-Some-Items.field-0-is)
    n.moves n.plain n.steady n.known n.light (refl, refl) refl c.in_ok-self-in-Some-Items.ensures.took
