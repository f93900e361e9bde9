use Rattle.std.proofs.Common.{arith}
use Rattle.hb_row.proofs.PlacingLemmas.{places_name}
use Rattle.hb_row.proofs.steps.place.Goals as goal

pub compare_exchange-requires : goal.compare_exchange-requires
compare_exchange-requires g c = let s = c.requires.seat in let w = s.wide in let r = c.requires.room in let at = c.requires.at in
    (s.here, omega arith, rw c.requires.asked (places_name _ _ _ s.live _ r.1 c.requires.fresh c.requires.valid r.0 s.still c.requires.ready c.args.word c.args.offer at.0 at.1))
