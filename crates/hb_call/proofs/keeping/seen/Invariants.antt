use Rattle.std.proofs.Common.{◌≡◌, map, take}
use Rattle.hb_call.specs.Keeping.{seen_of}
use Rattle.hb_call.proofs.keeping.seen.Given as goal

-- the first answers are kept
abbrev pub invariant-loop-answer : goal.invariant-loop-answer
invariant-loop-answer l = l.counts.items ≡ map seen_of (take l.answer-index l.answers)
