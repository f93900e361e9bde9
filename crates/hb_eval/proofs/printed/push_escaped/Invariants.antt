use Rattle.std.proofs.Common.{◌≡◌, ◌++◌, take, flat_map}
use Rattle.hb_eval.specs.Printing.{escape}
use Rattle.hb_eval.proofs.printed.push_escaped.Given as goal

abbrev pub invariant-loop-byte : goal.invariant-loop-byte
invariant-loop-byte l = l.output.items ≡ l.fn.output.items ++ flat_map escape (take l.byte-index l.text)
