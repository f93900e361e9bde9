use Rattle.hb_eval.proofs.NotingLemmas.{noted_learns}
use Rattle.hb_eval.proofs.noting.NotingDesk.look.Goals as goal

pub invariant_of-self : goal.invariant_of-self
invariant_of-self g c =
    let s = c.args.self.now in
    record { whose = s.whose; noted = noted_learns s.caller _ _ (g.D.Desk.front s.desk) (g.D.Desk.front c.look.new.self) g.B.Begun.before s.notes.items s.missed c.look.ensures.fixed c.look.ensures.seen.0 s.noted }
