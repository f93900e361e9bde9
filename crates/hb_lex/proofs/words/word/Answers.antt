use Rattle.std.proofs.Common.{get_or, sym, ◌∙◌}
use Rattle.hb_lex.proofs.Nexts.{word_run, ask_next, reserved_next, name_next, class_next, asked, capital_from}
use Rattle.hb_lex.proofs.words.word.Goals as goal

pub returns-then-starts_with : goal.returns-then-starts_with
returns-then-starts_with c =
    let ask = asked _ _ _ c.spelling.ensures c.starts_with.ensures.value in
    rw c.spelling-then-starts_with.ensures (ask_next _ c.requires.some c.requires.letter (sym ask ∙ c.if-starts_with.true))

pub returns-in-Some : goal.returns-in-Some
returns-in-Some c =
    let ask = asked _ _ _ c.spelling.ensures c.starts_with.ensures.value in
    let run = word_run _ _ c.requires.some c.requires.letter (sym ask ∙ c.if-starts_with.false) c.word_len-n.ensures in
    reserved_next _ _ _ run (sym c.reserved.ensures ∙ c.in-Some.is)

pub returns-in-None : goal.returns-in-None
returns-in-None c =
    let ask = asked _ _ _ c.spelling.ensures c.starts_with.ensures.value in
    let run = word_run _ _ c.requires.some c.requires.letter (sym ask ∙ c.if-starts_with.false) c.word_len-n.ensures in
    name_next _ _ run (sym c.is_small.ensures ∙ c.if-is_small.true) (sym c.reserved.ensures ∙ c.in-None.is)

pub returns-in-None-2 : goal.returns-in-None-2
returns-in-None-2 c =
    let ask = asked _ _ _ c.spelling.ensures c.starts_with.ensures.value in
    let run = word_run _ _ c.requires.some c.requires.letter (sym ask ∙ c.if-starts_with.false) c.word_len-n.ensures in
    class_next _ _ run (capital_from (get_or c.args.text.now 0 0) c.requires.letter (sym c.is_small.ensures ∙ c.if-is_small.false)) (sym c.reserved.ensures ∙ c.in-None.is)
