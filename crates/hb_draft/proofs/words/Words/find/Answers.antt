use Rattle.std.proofs.Common.{◌∙◌}
use Rattle.hb_draft.proofs.WordLists.{word-position}
use Rattle.hb_draft.proofs.words.Words.find.Goals as goal

pub returns : goal.returns
returns c = c.get_index_of.ensures.index ∙ word-position c.self.inside.set.keys (λ v. v.items) c.args.self.now c.self.view_is c.args.word.now
