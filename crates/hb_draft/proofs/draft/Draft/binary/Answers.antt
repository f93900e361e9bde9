use Rattle.std.proofs.{Common.arith, lemmas.Result.on_ok_weaker}
use Rattle.hb_draft.proofs.{Steps.enough_nodes, Steps.binary_can, Steps.binary_puts, MadeLemmas.node-made}
use Rattle.hb_draft.specs.Unfinished.{binary_over}
use Rattle.hb_draft.proofs.draft.Draft.binary.Goals as goal

pub on_top-a-requires : goal.on_top-a-requires
on_top-a-requires c = omega (arith, enough_nodes c.args.self.now 2 c.requires.parts)

pub put-requires-clause-over : goal.put-requires-clause-over
put-requires-clause-over c = rw c.placed.ensures (binary_can c.args.self.now c.args.place c.requires.room c.args.op c.on_top-a.result c.on_top-b.result c.requires.parts c.on_top-a.ensures c.on_top-b.ensures)

pub returns-clause-put : goal.returns-clause-put
returns-clause-put c = on_ok_weaker c.put.result (λ h. binary_puts c.args.self.now c.put.new.self c.args.place c.args.op c.on_top-a.result c.on_top-b.result c.requires.parts c.on_top-a.ensures
    c.on_top-b.ensures (rw c.placed.ensures at h)) c.put.ensures

pub returns-clause-made : goal.returns-clause-made
returns-clause-made c = on_ok_weaker c.put.result (node-made c.args.self.now c.put.new.self c.args.place (binary_over c.args.op)) (returns-clause-put c)
