use Rattle.std.proofs.{Common.arith, lemmas.Grind.common_steps, lemmas.Result.on_ok_weaker}
use Rattle.hb_draft.specs.Unfinished.{leaf_over}
use Rattle.hb_tree.specs.Tree.{TInt}
use Rattle.hb_draft.proofs.MadeLemmas.{node-made}
use Rattle.hb_draft.proofs.draft.Draft.int.Goals as goal

pub returns-clause-put : goal.returns-clause-put
returns-clause-put c = grind (arith, common_steps)

pub returns-clause-made : goal.returns-clause-made
returns-clause-made c = on_ok_weaker c.put.result (node-made c.args.self.now c.put.new.self c.args.place (leaf_over (λ id. TInt id c.args.value))) (returns-clause-put c)
