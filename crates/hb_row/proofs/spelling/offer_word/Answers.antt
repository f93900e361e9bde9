use Rattle.std.proofs.Common.{◌≡◌, ◌-◌, ◌*◌, sym, ap, ◌∙◌, drop, take, length, length-drop, arith, drop_of_length-le}
use Rattle.std.proofs.Math.Seq.{take-length}
use Rattle.hb_row.specs.Row.{packed, spelt}
use Rattle.hb_row.proofs.PackingLemmas.{packed_none, spelt_first, spelt_next}
use Rattle.hb_row.proofs.spelling.offer_word.Goals as goal

pub returns-then-number-eq0 : goal.returns-then-number-eq0
returns-then-number-eq0 c = sym (ap (spelt (c.args.class.0, c.args.name.now)) c.if-number-eq0.true ∙ spelt_first (c.args.class.0, c.args.name.now))

pub returns-then-name-start : goal.returns-then-name-start
returns-then-name-start c =
    let f = c.if-number-eq0.false in let past = drop_of_length-le c.args.name.now c.if-name-start.true in
    sym (spelt_next (c.args.class.0, c.args.name.now) c.args.number (c.args.number - 1) (omega arith) ∙ ap (packed 8) past ∙ packed_none 8)

pub returns : goal.returns
returns c =
    let f = c.if-number-eq0.false in
    let start = 8 * (c.args.number - 1) in let rest = drop start c.args.name.now in
    let whole : take (length c.args.name.now - start) rest ≡ rest = ap (λ n. take n rest) (sym (length-drop start c.args.name.now)) ∙ take-length rest in
    c.packed_word.ensures ∙ ap (packed 8) whole ∙ sym (spelt_next (c.args.class.0, c.args.name.now) c.args.number (c.args.number - 1) (omega arith))
