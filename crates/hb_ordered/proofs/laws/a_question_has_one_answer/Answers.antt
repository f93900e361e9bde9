use Rattle.hb_ordered.proofs.AnswerLemmas.{one_answer}
use Rattle.hb_ordered.proofs.laws.a_question_has_one_answer.Goals as goal

pub returns : goal.returns
returns c t limit names others d log u v a b differ differ' shared one asked meet stays stays' x y fa fb = one_answer t limit names others differ differ' d log shared u v a b one asked meet stays stays' x y fa fb
