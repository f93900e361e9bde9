use Rattle.std.proofs.Common.{refl}
use Rattle.hb_call.specs.GrowthLaws.{prefix_itself}
use Rattle.hb_eval.proofs.AdvanceLemmas.{carries_held, settled_rest}
use Rattle.hb_eval.proofs.machine.Machine.end_stop.Goals as goal

pub returns-in_default-clause-unwinds : goal.returns-in_default-clause-unwinds
returns-in_default-clause-unwinds g c t fine known asked = carries_held t _ known asked _ c.args.self.now c.args.self.now.conts refl fine

pub returns-in_default-clause-rest : goal.returns-in_default-clause-rest
returns-in_default-clause-rest g c = settled_rest c.args.self.now.hand c.args.self.now.conts.items c.in_default.not-Stops c.requires.settled

pub returns-in_default-clause-kept : goal.returns-in_default-clause-kept
returns-in_default-clause-kept g c = prefix_itself _
