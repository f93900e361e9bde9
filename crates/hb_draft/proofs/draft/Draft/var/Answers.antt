use Rattle.std.proofs.{Common.refl, lemmas.Result.on_ok_weaker}
use Rattle.hb_tree.specs.declared.node.Node.TheVariants as node
use Rattle.hb_tree.specs.Tree.{TVar}
use Rattle.hb_draft.proofs.MadeLemmas.{leaf-made}
use Rattle.hb_draft.proofs.draft.Draft.var.Goals as goal

pub returns-clause-made : goal.returns-clause-made
returns-clause-made c = on_ok_weaker c.put.result (λ h. leaf-made c.args.self.now c.put.new.self c.args.place (node.Var c.args.name) (λ id. TVar id c.args.name.0) refl (rw c.placed.ensures at h)) c.put.ensures
