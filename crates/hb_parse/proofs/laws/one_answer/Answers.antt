use Rattle.hb_parse.proofs.OneLemmas.{one-fault, one-said, said-apart}
use Rattle.hb_parse.proofs.laws.one_answer.Goals as goal

pub returns-clause-said : goal.returns-clause-said
returns-clause-said c = one-said

pub returns-clause-apart : goal.returns-clause-apart
returns-clause-apart c = said-apart

pub returns-clause-fault : goal.returns-clause-fault
returns-clause-fault c = one-fault
