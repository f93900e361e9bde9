use Rattle.std.proofs.Common.{◌∙◌, sym, rules}
use Rattle.std.proofs.{lemmas.Iterator.YieldsList-from_slice, lemmas.Iterator.Search.all_from_yields_List, lemmas.List.Folds.list_all-map}
use Rattle.hb_eval.specs.Told.{is_done, told_by}
use Rattle.hb_report.proofs.sections.all_done.Goals as goal

pub returns : goal.returns
returns c =
    all_from_yields_List (λ run. is_done run.outcome) _ _ _ c.all.ensures.ran (YieldsList-from_slice c.args.runs.now cc) (λ x b q k. search rules)
    ∙ sym (list_all-map (λ r. is_done r.outcome) told_by c.args.runs.now)
