use Rattle.std.proofs.Common.{arith}
use Rattle.hb_words.proofs.QuietLemmas.{quiets}
use Rattle.hb_words.proofs.steps.quiet.Goals as goal

pub load-requires : goal.load-requires
load-requires g c = let r = c.requires in (r.seat.table_is, (let w = r.seat.words in omega arith), rw r.kind (quiets _ _ _ _ r.seat.live r.first))
