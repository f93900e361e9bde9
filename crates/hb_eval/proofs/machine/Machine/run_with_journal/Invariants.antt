use Rattle.hb_tables.specs.Frames.{acts}
use Rattle.hb_eval.specs.Noting.{entries}
use Rattle.hb_eval.proofs.machine.Machine.run_with_journal.Given as goal

abbrev pub ghosts-run_noting : goal.ghosts-run_noting
ghosts-run_noting g a = record { caller = a.self.now.caller; before = entries a.self.now.caller (acts (g.D.Desk.fixed a.desk.now).caller (g.D.Desk.front a.desk.now)) }
