use Rattle.hb_eval.proofs.AdvanceLemmas.{ended_nothing}
use Rattle.hb_eval.proofs.RunLemmas.{stands_on}
use Rattle.hb_eval.proofs.machine.Machine.advance.Goals as goal

pub returns-in-Ok-clause-stands : goal.returns-in-Ok-clause-stands
returns-in-Ok-clause-stands g c block steps done s =
    stands_on c.args.prog.now _ _ _ _ _ _ _ c.run_kept.ensures.stays.named c.in-Ok.ensures.advances.reads c.in-Ok.ensures.notes block steps done s

pub returns-in-Ok-clause-ended : goal.returns-in-Ok-clause-ended
returns-in-Ok-clause-ended g c = ended_nothing c.args.prog.now _ _ _ _ _ _ c.in-Ok.ensures.advances.fine c.run_kept.ensures.holding c.in-Ok.ensures.turns
