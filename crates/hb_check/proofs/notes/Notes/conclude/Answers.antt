use Rattle.hb_check.proofs.RunLemmas.{runs_given, runs_denied}
use Rattle.hb_check.specs.Runs.{state}
use Rattle.hb_check.proofs.notes.Notes.conclude.Goals as goal

pub returns-in-Ok : goal.returns-in-Ok
returns-in-Ok c sites G answers refused = runs_given c.args.verdict c.in-Ok.is (c.finish.ensures sites G answers refused)

pub returns-in-Err : goal.returns-in-Err
returns-in-Err c sites G answers refused = runs_denied sites G (state answers refused c.args.self.now) c.args.node c.in-Err.reason c.args.verdict c.in-Err.is
