use Rattle.std.proofs.Common.{◌∙◌}
use Rattle.hb_top.proofs.FaultLemmas.{column-within, line-within}
use Rattle.hb_top.proofs.faults.place_at.Goals as goal

pub returns-clause-line : goal.returns-clause-line
returns-clause-line c = c.place_of.ensures.line ∙ line-within c.args.text.now c.args.at _ c.min.ensures

pub returns-clause-column : goal.returns-clause-column
returns-clause-column c = c.place_of.ensures.column ∙ column-within c.args.text.now c.args.at _ c.min.ensures
