use Rattle.std.proofs.Common.{subst}
use Rattle.hb_tree.specs.Program.{IsProgram}
use Rattle.hb_tree.proofs.Known.{got_node, node_read}
use Rattle.hb_tree.proofs.program.Program.node.Goals as goal

pub returns : goal.returns
returns c =
    let value = got_node _ _ c.self.view_is _ _ c.requires c.index.ensures in
    let read = node_read c.args.self.now (subst (λ t. IsProgram t) c.self.view_is c.self.invariant) _ _ value in
    record { value = value; places = read.places; tree = read.tree; parts = read.parts; kinds = read.kinds; known = read.known }
