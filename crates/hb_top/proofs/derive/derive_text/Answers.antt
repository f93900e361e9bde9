use Rattle.std.proofs.Common.{length, subst}
use Rattle.hb_tree.specs.Table.{Table}
use Rattle.hb_top.specs.Derived.{IsDerived}
use Rattle.hb_top.specs.Texts.{IsReading}
use Rattle.hb_top.proofs.RunLemmas.{faulty-due, whole-due}
use Rattle.hb_top.proofs.derive.derive_text.Goals as goal

pub returns-in-Program-clause-due : goal.returns-in-Program-clause-due
returns-in-Program-clause-due c =
    let text = c.args.text.now in
    whole-due (λ (t : Table). IsDerived t text) text (length text) _ c.derive_program.result
    (subst (IsReading text) c.in-Program.is c.in_ok-reading.ensures.reading).0 c.derive_program.ensures.is c.derive_program.ensures.due

pub returns-in-Refused-clause-due : goal.returns-in-Refused-clause-due
returns-in-Refused-clause-due c =
    let text = c.args.text.now in
    faulty-due (λ (t : Table). IsDerived t text) text (length text) _ (subst (IsReading text) c.in-Refused.is c.in_ok-reading.ensures.reading)
