use Rattle.hb_tree.specs.Spelling.{keywords}
use Rattle.hb_eval.proofs.spelling.is_keyword.Goals as goal

pub returns : goal.returns
unfolding keywords
returns c = c.is_among.ensures
