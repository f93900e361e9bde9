use Rattle.std.proofs.Common.{refl, arith, ◌-◌}
use Rattle.hb_eval.proofs.EndLemmas.{leaves_stop, leaves_lowers, passes_operands, operands_lower}
use Rattle.hb_call.specs.GrowthLaws.{grown_itself}
use Rattle.hb_eval.proofs.frames.pass.Goals as goal

pub returns-in-Frame-clause-reads : goal.returns-in-Frame-clause-reads
returns-in-Frame-clause-reads g c t known = rw c.in-Frame.is (leaves_stop known t _ _ _ _ _ _ _ c.end.ensures.leaves)

pub returns-in-Frame-clause-lowers : goal.returns-in-Frame-clause-lowers
returns-in-Frame-clause-lowers g c t = rw c.in-Frame.is (leaves_lowers t _ _ _ _ _ _ _ c.end.ensures.leaves)

pub returns-in_default-clause-reads : goal.returns-in_default-clause-reads
returns-in_default-clause-reads g c t known =
    passes_operands known t _ _ c.args.cont c.args.frames.now.items c.args.state.now _ c.truncate.new.self (c.len.result - c.needs.result) c.in_default.not-Frame refl c.truncate.ensures.items
    (omega (arith, c.requires.operands, c.len.ensures, c.args.state.now.operands.ok, c.needs.ensures))

pub returns-in_default-clause-lowers : goal.returns-in_default-clause-lowers
returns-in_default-clause-lowers g c t =
    operands_lower t c.args.cont c.args.frames.now.items c.args.state.now _ c.truncate.new.self (c.len.result - c.needs.result) c.in_default.not-Frame refl c.truncate.ensures.items
    (omega (arith, c.requires.operands, c.len.ensures, c.args.state.now.operands.ok, c.needs.ensures))

pub returns-in_default-clause-grown : goal.returns-in_default-clause-grown
returns-in_default-clause-grown g c t names asked = grown_itself t _ names asked _
