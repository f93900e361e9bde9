use Rattle.std.proofs.Common.{Err, inl, arith, length, refl, rules, subst}
use Rattle.hb_bundle.specs.Bundle.{AreTexts}
use Rattle.hb_bundle.specs.Verifies.{VerifiesTexts}
use Rattle.hb_bundle.specs.declared.verifying.TextsFail.{TextsFail}
use Rattle.hb_top.specs.Verified.{verdicts}
use Rattle.hb_top.proofs.VerifyLemmas.{bundle-length, fault-within, wrong-due}
use Rattle.hb_top.proofs.verify.verify_rest.Goals as goal

pub returns-in-Ok-clause-due : goal.returns-in-Ok-clause-due
returns-in-Ok-clause-due c =
    let v = c.in-Ok.verdicts in (
      verdicts v.lines.items v.all_good (length c.args.bytes.now),
      inl (record { lines = v.lines.items; good = v.all_good; verified = c.in-Ok.ensures; same = refl }),
      search rules,
      refl,
    )

pub returns-in-Err-BadTexts-clause-due : goal.returns-in-Err-BadTexts-clause-due
returns-in-Err-BadTexts-clause-due c =
    let bytes = c.args.bytes.now in
    let text = c.args.opened.text.now in
    let rest = c.args.opened.rest.now in
    let t = c.args.program.now in
    let whole = bundle-length bytes text rest c.requires.begins in
    let fault = subst (λ (e : TextsFail). VerifiesTexts t rest (Err e)) c.in-Err-BadTexts.field-0-is c.in-Err-BadTexts.ensures in
    let within = fault-within (AreTexts t) rest c.in-Err-BadTexts.at fault in
    wrong-due t bytes text rest c.in-Err-BadTexts.at _ c.bad_bundle.result (omega (arith, whole, within)) fault c.bad_bundle.ensures.due
