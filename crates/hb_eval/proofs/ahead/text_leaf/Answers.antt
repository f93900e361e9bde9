use Rattle.hb_eval.proofs.AheadLemmas.{text_comes, variable_may_be_text}
use Rattle.hb_eval.proofs.ahead.text_leaf.Goals as goal

pub returns-in-Text-clause-comes : goal.returns-in-Text-clause-comes
returns-in-Text-clause-comes c = text_comes _ _ _ _ _ c.in-Text.ensures.tree c.text.ensures.value

pub returns-in-Var-clause-comes : goal.returns-in-Var-clause-comes
returns-in-Var-clause-comes c = variable_may_be_text _ _ _ _ (λ bytes. bytes.now) c.text_of.result c.in-Var.ensures.tree c.text_of.ensures.comes
