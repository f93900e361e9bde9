use Rattle.std.proofs.Common.{refl, arith}
use Rattle.hb_verify.proofs.ParameterLemmas.{parameter_set, parameter_room}
use Rattle.hb_verify.proofs.bodies.parameters.Goals as goal

pub unreachable-requires : goal.unreachable-requires
unreachable-requires c =
    let full = c.in-Err.ensures.full.0 refl in
    parameter_room c.args.body.now.params c.args.ty.now.params c.args.body.now.count c.args.ty.now.count c.loop-i.i c.loop-i.env c.requires.few c.loop-i-test.true c.loop-i.invariant full.0

pub loop-i-preserved : goal.loop-i-preserved
loop-i-preserved c =
    parameter_set c.args.body.now.params c.args.ty.now.params c.args.body.now.count c.args.ty.now.count c.loop-i.i _ _ c.loop-i.env c.set.new.self
    c.requires.count (omega arith) (omega arith) c.requires.params c.loop-i-test.true c.loop-i.invariant c.in-Ok.ensures.ok
