use Rattle.std.proofs.Common.{◌≡◌, ◌++◌, [], ◌∷◌, sym, ap, ◌∙◌, arith, take, ℕ}
use Rattle.hb_call.specs.declared.answers.Answer.{Answer}
use Rattle.hb_call.specs.Comparing.{answers_kept}
use Rattle.hb_call.proofs.NoteLemmas.{take_more, take_other}
use Rattle.hb_call.proofs.comparing.note.Goals as goal

pub loop-i-preserved : goal.loop-i-preserved
loop-i-preserved c =
    c.in_ok-push.ensures.items ∙ ap (λ l. l ++ c.kept_answer-answer.result ∷ []) c.loop-i.invariant ∙ sym (take_more (answers_kept c.args.kept.now) c.loop-i.i c.kept_answer-answer.result c.kept_answer-answer.ensures)

pub returns : goal.returns
returns c =
    let at : c.loop-i.i ≡ c.args.last = omega arith in
    c.in_ok-push-2.ensures.items ∙ ap (λ l. l ++ record c.kept_answer.result { held = c.args.held } ∷ []) c.loop-i.invariant
    ∙ ap (λ (n : ℕ). take n (answers_kept c.args.kept.now) ++ record c.kept_answer.result { held = c.args.held } ∷ []) at
    ∙ sym (take_other (λ (a : Answer). record a { held = c.args.held }) (answers_kept c.args.kept.now) c.args.last c.kept_answer.result c.kept_answer.ensures)
