use Rattle.hb_eval.proofs.NotingLemmas.{noted_adds}
use Rattle.hb_eval.proofs.noting.NotingDesk.set_type.Goals as goal

pub invariant_of-self : goal.invariant_of-self
invariant_of-self g c = record { whose = c.args.self.now.whose; noted = noted_adds c.args.self.now.caller _ _ _ _ _ _ _ _ _ _ c.set_type-answer.ensures.fixed (c.act_of_type-act.ensures _ _ _ c.set_type-answer.ensures.entry) c.args.self.now.noted c.note.ensures }
