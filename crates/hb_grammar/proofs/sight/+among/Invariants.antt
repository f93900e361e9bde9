use Rattle.std.proofs.Common.{length}
use Rattle.hb_grammar.proofs.sight.+among.Given as goal

abbrev pub decreases-among : goal.decreases-among
decreases-among l = length l.kinds.now
