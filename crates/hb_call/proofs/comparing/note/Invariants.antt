use Rattle.std.proofs.Common.{◌≡◌, take}
use Rattle.hb_call.specs.Comparing.{answers_kept}
use Rattle.hb_call.proofs.comparing.note.Given as goal

-- the first answers are noted
abbrev pub invariant-loop-i : goal.invariant-loop-i
invariant-loop-i l = l.compared.items ≡ take l.i (answers_kept l.fn.kept)
