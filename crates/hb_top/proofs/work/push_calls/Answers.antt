use Rattle.std.proofs.Common.{append_assoc, rules}
use Rattle.hb_top.proofs.work.push_calls.Goals as goal

pub returns : goal.returns
returns c = simp append_assoc (search rules)
