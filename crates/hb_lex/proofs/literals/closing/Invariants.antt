use Rattle.hb_lex.proofs.Closings.{Inside}
use Rattle.hb_lex.proofs.literals.closing.Given as goal

abbrev pub invariant-loop-i : goal.invariant-loop-i
invariant-loop-i l = Inside l.quote l.behind l.i l.escaped
