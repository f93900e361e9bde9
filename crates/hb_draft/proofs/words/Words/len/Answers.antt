use Rattle.std.specs.Prelude.{bytes_eq}
use Rattle.hb_draft.proofs.WordLists.{IsDistinct-map}
use Rattle.hb_draft.proofs.words.Words.len.Goals as goal

pub returns-clause-apart : goal.returns-clause-apart
returns-clause-apart c = rw (← c.self.view_is) (IsDistinct-map (λ v. v.items) bytes_eq c.self.inside.set.keys c.len.ensures.unique)
