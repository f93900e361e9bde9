use Rattle.std.proofs.Common.{arith}
use Rattle.hb_row.proofs.PlacingLemmas.{reads_place}
use Rattle.hb_row.proofs.steps.read.Goals as goal

pub load-requires : goal.load-requires
load-requires c = let s = c.requires.seat in let w = s.wide in let at = c.requires.at in
    (s.here, omega arith, reads_place _ _ _ s.live at.1 c.args.word at.0)
