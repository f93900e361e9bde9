use Rattle.hb_grammar.proofs.CourseLemmas.{sight_is}
use Rattle.hb_grammar.proofs.course.sight.Goals as goal

pub returns-then-read-tokens : goal.returns-then-read-tokens
returns-then-read-tokens c = sight_is c.args.tokens.now c.args.read _ c.if-read-tokens.true
