use Rattle.std.proofs.{Common.arith, Common.refl, lemmas.Result.on_ok_weaker}
use Rattle.hb_tree.specs.declared.node.Node.TheVariants as node
use Rattle.hb_tree.specs.Tree.{TPrint}
use Rattle.hb_draft.proofs.{Steps.enough_nodes, Steps.unary_can, Steps.unary_puts, MadeLemmas.node-made}
use Rattle.hb_draft.specs.Unfinished.{unary_over}
use Rattle.hb_draft.proofs.draft.Draft.print.Goals as goal

pub on_top-e-requires : goal.on_top-e-requires
on_top-e-requires c = omega (arith, enough_nodes c.args.self.now 1 c.requires.parts)

pub put-requires-clause-over : goal.put-requires-clause-over
put-requires-clause-over c = rw c.placed.ensures (unary_can c.args.self.now c.args.place c.requires.room (node.Print c.on_top-e.result) c.on_top-e.result c.requires.parts c.on_top-e.ensures refl refl tt tt)

pub returns-clause-put : goal.returns-clause-put
returns-clause-put c = on_ok_weaker c.put.result (λ h. unary_puts c.args.self.now c.put.new.self c.args.place
    (node.Print c.on_top-e.result) c.on_top-e.result TPrint c.requires.parts c.on_top-e.ensures refl (rw c.placed.ensures at h)) c.put.ensures

pub returns-clause-made : goal.returns-clause-made
returns-clause-made c = on_ok_weaker c.put.result (node-made c.args.self.now c.put.new.self c.args.place (unary_over TPrint)) (returns-clause-put c)
