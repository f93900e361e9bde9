use Rattle.std.proofs.{Common.arith, lemmas.Result.on_ok_weaker}
use Rattle.hb_draft.proofs.{Steps.three_nodes, Steps.if_can, Steps.if_puts, MadeLemmas.node-made}
use Rattle.hb_draft.specs.Unfinished.{if_over}
use Rattle.hb_draft.proofs.draft.Draft.if_else.Goals as goal

pub on_top-condition-requires : goal.on_top-condition-requires
on_top-condition-requires c = omega (arith, three_nodes c.args.self.now c.requires.parts)

pub put-requires-clause-over : goal.put-requires-clause-over
put-requires-clause-over c =
    rw c.placed.ensures (if_can c.args.self.now c.args.place c.requires.room c.on_top-condition.result c.on_top-then.result c.on_top-other.result c.requires.parts
    c.on_top-condition.ensures c.on_top-then.ensures c.on_top-other.ensures)

pub returns-clause-put : goal.returns-clause-put
returns-clause-put c =
    on_ok_weaker c.put.result (λ h. if_puts c.args.self.now c.put.new.self c.args.place c.on_top-condition.result c.on_top-then.result c.on_top-other.result c.requires.parts
    c.on_top-condition.ensures c.on_top-then.ensures c.on_top-other.ensures (rw c.placed.ensures at h)) c.put.ensures

pub returns-clause-made : goal.returns-clause-made
returns-clause-made c = on_ok_weaker c.put.result (node-made c.args.self.now c.put.new.self c.args.place (if_over)) (returns-clause-put c)
