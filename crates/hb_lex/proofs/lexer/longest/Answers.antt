use Rattle.std.proofs.{Common.sym, Common.◌∙◌, lemmas.Result.err_from_is_err_and}
use Rattle.std.proofs.lemmas.Bool.{or_from, ne_eqb, eq-eqb}
use Rattle.hb_lex.proofs.{Signs.mark_next, Signs.bad_byte, Texts.text_next, Texts.text_none}
use Rattle.hb_lex.proofs.lexer.longest.Goals as goal

pub returns-in_err-n : goal.returns-in_err-n
returns-in_err-n c =
    let p = err_from_is_err_and c.from_residual.result c.from_residual.ensures.1 in
    rw (p.1, p.2) (text_none _ _ _ c.requires.some (eq-eqb _ _ c.if-b-eq34.true) c.in_err-n.ensures.closed)

pub returns-then-b-eq34 : goal.returns-then-b-eq34
returns-then-b-eq34 c = text_next _ _ c.requires.some (eq-eqb _ _ c.if-b-eq34.true) c.in_ok-n.ensures.within c.in_ok-n.ensures.closed

pub returns-in-Some : goal.returns-in-Some
returns-in-Some c =
    let letters = or_from _ _ (sym c.is_small.ensures ∙ c.if-is_small.false) (sym c.is_capital.ensures ∙ c.if-is_capital.false) in
    let word = or_from _ _ letters (sym c.is_digit.ensures ∙ c.if-is_digit.false) in
    rw c.spelling.ensures (mark_next _ _ c.requires.some word (ne_eqb _ _ c.if-b-eq34.false) (sym c.mark.ensures ∙ c.in-Some.is))

pub returns-in-None : goal.returns-in-None
returns-in-None c =
    let letters = or_from _ _ (sym c.is_small.ensures ∙ c.if-is_small.false) (sym c.is_capital.ensures ∙ c.if-is_capital.false) in
    let word = or_from _ _ letters (sym c.is_digit.ensures ∙ c.if-is_digit.false) in
    bad_byte _ _ c.requires.some word (ne_eqb _ _ c.if-b-eq34.false) (sym c.mark.ensures ∙ c.in-None.is)
