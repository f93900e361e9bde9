use Rattle.hb_top.proofs.top.hbird.Goals as goal

pub returns-clause-complete : goal.returns-clause-complete
returns-clause-complete g c = c.complete.ensures _ _ _ _ c.answer.ensures
