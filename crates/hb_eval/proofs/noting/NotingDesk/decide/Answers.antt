use Rattle.hb_eval.proofs.NotingLemmas.{noted_adds, noted_learns}
use Rattle.hb_eval.proofs.noting.NotingDesk.decide.Goals as goal

pub invariant_of-self : goal.invariant_of-self
invariant_of-self g c =
    let came = c.in-Ok.ensures.answer in
    record { whose = c.args.self.now.whose; noted = noted_adds c.args.self.now.caller _ _ _ _ _ _ _ _ _ _ c.decide.ensures.fixed (came.0, came.1, came.2) c.args.self.now.noted c.note.ensures }

pub invariant_of-self-in-Err-1 : goal.invariant_of-self-in-Err-1
invariant_of-self-in-Err-1 g c =
    let s = c.args.self.now in
    record { whose = s.whose; noted = noted_learns s.caller _ _ (g.D.Desk.front s.desk) (g.D.Desk.front c.decide.new.self) g.B.Begun.before s.notes.items s.missed c.decide.ensures.fixed c.in-Err.ensures.answer.0 s.noted }
