use Rattle.std.proofs.Common.{arith}
use Rattle.hb_tree.specs.Table.{table_of}
use Rattle.hb_tree.proofs.Sites.{length-bodies}
use Rattle.hb_tree.proofs.program.Program.bodies.Goals as goal

pub returns-clause-few : goal.returns-clause-few
returns-clause-few c = omega (arith, c.self.inside.parts.bodies.ok.0, length-bodies (table_of c.self.inside.parts) c.self.invariant, c.self.invariant.limits.nodes)
