use Rattle.std.proofs.Common.{length, rules, subst}
use Rattle.hb_top.specs.Texts.{IsReading}
use Rattle.hb_top.specs.Verified.{IsVerified}
use Rattle.hb_top.proofs.RunLemmas.{faulty-due, whole-due}
use Rattle.hb_top.proofs.VerifyLemmas.{none-due, opened-due, opened-is}
use Rattle.hb_top.proofs.verify.verify_bundle.Goals as goal

pub returns-in-Program-clause-due : goal.returns-in-Program-clause-due
returns-in-Program-clause-due c =
    let bytes = c.args.bytes.now in
    let opened = c.in-Some.opened in
    let begins = c.in-Some.ensures.some in
    opened-due bytes opened.text.now opened.rest.now c.verify_rest.result begins
    (whole-due (IsVerified bytes opened.text.now opened.rest.now) opened.text.now (length bytes) _ c.verify_rest.result
    (subst (IsReading opened.text.now) c.in-Program.is c.in_ok-reading.ensures.reading).0 c.verify_rest.ensures.is c.verify_rest.ensures.due)

pub returns-in_default-clause-due : goal.returns-in_default-clause-due
returns-in_default-clause-due c = none-due c.args.bytes.now c.bad_bundle.result (c.open_bundle.ensures.none (search rules)) c.bad_bundle.ensures.due

pub returns-in-Refused-clause-due : goal.returns-in-Refused-clause-due
returns-in-Refused-clause-due c =
    let bytes = c.args.bytes.now in
    let opened = c.in-Some.opened in
    opened-is bytes opened.text.now opened.rest.now _ c.in-Some.ensures.some
    (faulty-due (IsVerified bytes opened.text.now opened.rest.now) opened.text.now (length bytes) _ (subst (IsReading opened.text.now) c.in-Refused.is c.in_ok-reading.ensures.reading))
