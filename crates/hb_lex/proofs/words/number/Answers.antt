use Rattle.hb_lex.proofs.Nexts.{number_next}
use Rattle.hb_lex.proofs.words.number.Goals as goal

pub returns : goal.returns
returns c = number_next c.args.text.now _ c.requires.some c.requires.digit c.digits_len.ensures
