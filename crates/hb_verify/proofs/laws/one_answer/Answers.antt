use Rattle.hb_verify.proofs.AnswerLemmas.{good_goes_on, one_fault}
use Rattle.hb_verify.proofs.laws.one_answer.Goals as goal

pub returns : goal.returns
returns c = record { good = good_goes_on; first = one_fault }
