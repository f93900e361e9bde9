use Rattle.std.proofs.Common.{arith}
use Rattle.hb_row.proofs.SeatLemmas.{joins}
use Rattle.hb_row.proofs.gather.take_in.Goals as goal

pub join_seat-requires : goal.join_seat-requires
join_seat-requires c = let p = c.requires.place in let o = c.requires.other.place in let w = o.wide in (p.here, o.here, o.empty, omega (arith, w), joins _ _ _ _ p.live o.live)
