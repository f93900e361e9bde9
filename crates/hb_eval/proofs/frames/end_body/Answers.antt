use Rattle.hb_eval.proofs.EndLemmas.{leaves_reads, leaves_lowers, lowers_goes}
use Rattle.hb_eval.proofs.frames.end_body.Goals as goal

pub returns-clause-reads : goal.returns-clause-reads
returns-clause-reads g c t known = leaves_reads known t _ _ _ _ _ _ _ _ c.end.ensures.leaves c.in_hand.ensures

pub returns-clause-goes : goal.returns-clause-goes
returns-clause-goes g c t = lowers_goes t _ _ _ _ _ (leaves_lowers t _ _ _ _ _ _ _ c.end.ensures.leaves) c.in_hand.ensures
