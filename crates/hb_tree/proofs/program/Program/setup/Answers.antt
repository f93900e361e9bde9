use Rattle.hb_tree.proofs.Known.{setup_read}
use Rattle.hb_tree.proofs.program.Program.setup.Goals as goal

pub returns-clause-block : goal.returns-clause-block
returns-clause-block c = setup_read _ _ c.self.view_is c.self.invariant
