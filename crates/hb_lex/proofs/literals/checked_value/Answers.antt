use Rattle.std.proofs.Common.{arith}
use Rattle.hb_lex.proofs.Values.{Reads-more, Reads-least}
use Rattle.hb_lex.proofs.literals.checked_value.Goals as goal

pub returns-then-value-digit : goal.returns-then-value-digit
returns-then-value-digit c = λ small.
    let reads = Reads-more c.args.digits.now c.loop-b.b-index c.loop-b.value c.loop-b-test.true c.loop-b.invariant.reads in
    let least = Reads-least _ _ _ reads in
    omega (arith, least, c.from-digit.ensures)
