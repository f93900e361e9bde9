use Rattle.hb_trials.proofs.HoldLemmas.{idle_room}
use Rattle.hb_trials.proofs.desks.call.Goals as goal

pub enter-requires-clause-room : goal.enter-requires-clause-room
enter-requires-clause-room g c = idle_room (g.D.Desk.fixed c.args.desk.now) _ (g.D.Desk.front c.args.desk.now) c.requires.ready.idle
