use Rattle.std.proofs.Common.{◌≡◌, ◌≤◌, drop, length, reverse}
use Rattle.hb_grammar.specs.{Language.kinds_of, Course.Leads, Course.left, Measure.potential}
use Rattle.hb_grammar.proofs.course.Course.next_step.Given as goal

abbrev pub invariant-loop-symbol : goal.invariant-loop-symbol
invariant-loop-symbol l = record {
  tokens : l.self-inside.tokens.now ≡ l.fn.self.tokens;
  within : l.self-inside.read ≤ length l.self-inside.tokens.now;
  started : l.fn.self.read ≤ length l.fn.self.tokens;
  leads : Leads l.fn.self.ahead (left l.fn.self) (reverse l.self-inside.stack.items) (drop l.self-inside.read (kinds_of l.self-inside.tokens.now));
}

abbrev pub decreases-loop-symbol : goal.decreases-loop-symbol
decreases-loop-symbol l = potential (reverse l.self-inside.stack.items) (drop l.self-inside.read (kinds_of l.self-inside.tokens.now))
