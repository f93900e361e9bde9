use Rattle.hb_top.proofs.TextLemmas.{lex-reading, parse-reading}
use Rattle.hb_top.proofs.texts.read_text.Goals as goal

pub returns-in-Err-clause-reading : goal.returns-in-Err-clause-reading
returns-in-Err-clause-reading c = lex-reading c.args.text.now _ _ c.refused.result c.in-Err.ensures.fault c.lex_fault.ensures c.refused.ensures.due

pub returns-clause-reading : goal.returns-clause-reading
returns-clause-reading c =
    parse-reading c.args.text.now _ _ _ c.refused-in-Err-parse.result c.in-Ok.ensures.tokens c.in-Err-parse.ensures.answer c.parse_fault.ensures c.refused-in-Err-parse.ensures.due
