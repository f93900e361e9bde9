use Rattle.std.proofs.Common.{subst}
use Rattle.hb_tree.proofs.{Lists.each_at, Known.got, Known.block_known}
use Rattle.hb_tree.specs.{Program.IsProgram, Program.IsScriptIn}
use Rattle.hb_tree.proofs.program.Program.script.Goals as goal

pub returns : goal.returns
returns c =
    let ok = subst (λ t. IsProgram t) c.self.view_is c.self.invariant in
    let value = got (λ t. t.scripts) _ _ c.self.view_is _ _ c.requires c.index.ensures in
    let meets = each_at (IsScriptIn c.args.self.now) _ _ _ value ok.scripts in
    record { value = value; meets = meets; block = block_known c.args.self.now ok _ meets.root.block }
