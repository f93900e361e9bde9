use Rattle.std.proofs.Common.{subst}
use Rattle.hb_tree.specs.Program.{IsProgram}
use Rattle.hb_tree.proofs.Known.{got, block_known}
use Rattle.hb_tree.proofs.program.Program.body.Goals as goal

pub returns : goal.returns
returns c =
    let ok = subst (λ t. IsProgram t) c.self.view_is c.self.invariant in
    let value = got (λ t. t.bodies) _ _ c.self.view_is _ _ c.requires c.index.ensures in
    let meets = ok.bodies _ _ value in
    record { value = value; meets = meets; block = block_known c.args.self.now ok _ meets.block }
