use Rattle.std.proofs.Common.{List, ℕ, subst, ◌∙◌, sym}
use Rattle.hb_gen.specs.Generated.{generated}
use Rattle.hb_top.specs.Texts.{IsReading}
use Rattle.hb_top.specs.Work.{IsWorked}
use Rattle.hb_top.proofs.RunLemmas.{faulty-due, whole-due}
use Rattle.hb_top.proofs.work.work.Goals as goal

pub returns-in-Program-clause-due : goal.returns-in-Program-clause-due
returns-in-Program-clause-due g c =
    let size = c.args.size.now.number in
    let read = subst (λ (text : List ℕ). IsReading text c.in_ok-reading.reading) (c.as_slice.ensures.value ∙ c.in_ok-text.ensures.text) c.in_ok-reading.ensures.reading in
    whole-due (IsWorked size) (generated size) 0 _ c.work_program.result (subst (IsReading (generated size)) c.in-Program.is read).0 c.work_program.ensures.is c.work_program.ensures.due

pub returns-clause-due : goal.returns-clause-due
returns-clause-due g c =
    let size = c.args.size.now.number in
    let read = subst (λ (text : List ℕ). IsReading text c.in_ok-reading.reading) (c.as_slice.ensures.value ∙ c.in_ok-text.ensures.text) c.in_ok-reading.ensures.reading in
    faulty-due (IsWorked size) (generated size) 0 _ (subst (IsReading (generated size)) c.in-Refused.is read)
