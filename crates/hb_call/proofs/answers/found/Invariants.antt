use Rattle.std.proofs.Common.{◌≡◌, drop}
use Rattle.hb_call.specs.Calling.{held_among}
use Rattle.hb_call.proofs.answers.found.Given as goal

-- those that are left decide
abbrev pub invariant-loop-answer : goal.invariant-loop-answer
invariant-loop-answer l = held_among l.answers l.key.0 ≡ held_among (drop l.answer-index l.answers) l.key.0
