use Rattle.std.proofs.Common.{◌-◌, length}
use Rattle.hb_lex.proofs.Runs.{Read}
use Rattle.hb_lex.proofs.lexer.lex.Given as goal

abbrev pub invariant-loop-at : goal.invariant-loop-at
invariant-loop-at l = Read l.bytes l.tokens.items l.at l.before

abbrev pub decreases-loop-at : goal.decreases-loop-at
decreases-loop-at l = length l.bytes - l.at
