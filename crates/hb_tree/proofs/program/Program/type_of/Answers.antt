use Rattle.std.proofs.Common.{subst}
use Rattle.hb_tree.specs.Program.{IsProgram}
use Rattle.hb_tree.proofs.Known.{got}
use Rattle.hb_tree.proofs.program.Program.type_of.Goals as goal

pub returns-clause-meets : goal.returns-clause-meets
returns-clause-meets c =
    let ok = subst (λ t. IsProgram t) c.self.view_is c.self.invariant in
    (ok.types _ _ (got (λ t. t.types) _ _ c.self.view_is _ _ c.requires c.index.ensures)).known
