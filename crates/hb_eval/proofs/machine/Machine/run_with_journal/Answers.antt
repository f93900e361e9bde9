use Rattle.hb_tables.specs.Frames.{acts}
use Rattle.hb_eval.proofs.NotingLemmas.{advances_noted, noted_more}
use Rattle.hb_eval.proofs.machine.Machine.run_with_journal.Goals as goal

pub returns-clause-advances : goal.returns-clause-advances
returns-clause-advances g c = advances_noted c.args.prog.now _ _ _ _ _ _ _ c.args.self.now c.run_noting.new.self c.note.new.self c.note.new.self.journal c.note.ensures.same c.in_ok-turn.ensures.advances

pub returns-clause-notes : goal.returns-clause-notes
returns-clause-notes g c more done came kept =
    let old = c.args.self.now in
    let mid = c.run_noting.new.self in
    let who = (g.D.Desk.fixed c.args.desk.now).caller in
    let made = noted_more old.caller (acts who (g.D.Desk.front c.args.desk.now)) (acts who (g.D.Desk.front c.run_noting.new.desk)) more c.run_noting.new.notes.items came c.in_ok-turn.ensures.notes in
    c.in_ok-note.ensures.noted done (rw (c.run_noting.ensures.caller, c.run_noting.ensures.journal) kept) more (rw c.run_noting.ensures.caller made)
