use Rattle.std.proofs.Common.{◌≡◌, ◌++◌, ◌∙◌, map, sym}
use Rattle.std.proofs.lemmas.List.{length-map}
use Rattle.hb_eval.specs.Told.{told_by}
use Rattle.hb_top.specs.Work.{calls_text, head_of, others_text}
use Rattle.hb_top.proofs.work.work_line.Goals as goal

pub returns : goal.returns
returns c =
    c.in_ok-push_others.ensures
    ∙ (λ i. (c.in_ok-push_calls.ensures
    ∙ (λ j. (c.in_ok-line.ensures ∙ (λ k. head_of c.args.size (sym (length-map c.args.runs.now told_by) k))) j ++ calls_text (c.total-calls.ensures j) (c.total-own.ensures j))) i
    ++ others_text (c.total-shared.ensures i) (c.total-fresh.ensures i))
