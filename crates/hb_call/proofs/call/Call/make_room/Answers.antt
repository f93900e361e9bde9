use Rattle.hb_call.specs.Alike.{alike_itself}
use Rattle.hb_call.proofs.call.Call.make_room.Goals as goal

pub returns-in_err-reserve-clause-alike : goal.returns-in_err-reserve-clause-alike
returns-in_err-reserve-clause-alike g c = alike_itself _ _

pub returns-in_err-reserve-2-clause-alike : goal.returns-in_err-reserve-2-clause-alike
returns-in_err-reserve-2-clause-alike g c = alike_itself _ _

pub returns-clause-alike : goal.returns-clause-alike
returns-clause-alike g c = rw (c.reserve-3.ensures.fixed, c.reserve-3.ensures.front) (alike_itself _ _)
