use Rattle.std.proofs.{Common.arith, lemmas.Result.on_ok_weaker}
use Rattle.hb_draft.proofs.{Steps.two_nodes, Steps.while_can, Steps.while_puts, MadeLemmas.node-made}
use Rattle.hb_draft.specs.Unfinished.{while_over}
use Rattle.hb_draft.proofs.draft.Draft.while_loop.Goals as goal

pub on_top-condition-requires : goal.on_top-condition-requires
on_top-condition-requires c = omega (arith, two_nodes c.args.self.now c.requires.parts)

pub put-requires-clause-over : goal.put-requires-clause-over
put-requires-clause-over c =
    rw c.placed.ensures (while_can c.args.self.now c.args.place c.requires.room c.on_top-condition.result c.on_top-block.result c.requires.parts c.on_top-condition.ensures c.on_top-block.ensures)

pub returns-clause-put : goal.returns-clause-put
returns-clause-put c =
    on_ok_weaker c.put.result (λ h. while_puts c.args.self.now c.put.new.self c.args.place c.on_top-condition.result c.on_top-block.result c.requires.parts c.on_top-condition.ensures c.on_top-block.ensures
    (rw c.placed.ensures at h)) c.put.ensures

pub returns-clause-made : goal.returns-clause-made
returns-clause-made c = on_ok_weaker c.put.result (node-made c.args.self.now c.put.new.self c.args.place (while_over)) (returns-clause-put c)
