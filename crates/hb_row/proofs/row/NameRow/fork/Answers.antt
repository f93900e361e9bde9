use Rattle.std.proofs.Common.{arith}
use Rattle.hb_row.proofs.SeatLemmas.{splits}
use Rattle.hb_row.proofs.row.NameRow.fork.Goals as goal

pub split_seat-next-requires : goal.split_seat-next-requires
split_seat-next-requires c = let seat = c.requires.seat in let w = seat.place.wide in let here = seat.place.here in
    (here, omega (arith, w), splits _ _ c.requires.first seat.place.live c.requires.room)
