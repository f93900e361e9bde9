use Rattle.hb_eval.proofs.AdvanceLemmas.{ended_nothing}
use Rattle.hb_eval.proofs.NotingLemmas.{none_noted}
use Rattle.hb_eval.proofs.RunLemmas.{stands_on}
use Rattle.hb_eval.proofs.machine.Machine.advance_unnoted.Goals as goal

pub returns-in-Ok-clause-stands : goal.returns-in-Ok-clause-stands
returns-in-Ok-clause-stands g c block steps done s =
    let noted = none_noted (g.D.Desk.fixed c.args.desk.now).caller (g.D.Desk.front c.args.desk.now) (g.D.Desk.front c.run.new.desk) c.args.self.now c.run.new.self c.requires.plain c.run.ensures.journal in
    stands_on c.args.prog.now _ _ _ _ _ _ _ c.run.ensures.stays.named c.in-Ok.ensures.advances.reads noted block steps done s

pub returns-in-Ok-clause-ended : goal.returns-in-Ok-clause-ended
returns-in-Ok-clause-ended g c = ended_nothing c.args.prog.now _ _ _ _ _ _ c.in-Ok.ensures.advances.fine c.run.ensures.holding c.in-Ok.ensures.turns
