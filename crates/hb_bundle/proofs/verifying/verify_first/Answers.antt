use Rattle.std.proofs.Common.{Err, subst, sym, take}
use Rattle.hb_tree.specs.Table.{Table}
use Rattle.hb_deriv_text.specs.Text.{raw_content_of}
use Rattle.hb_deriv_text.specs.Reads.{Reads}
use Rattle.hb_deriv_text.specs.Faults.{IsFault}
use Rattle.hb_deriv_text.specs.declared.texts.DerivFail.{DerivFail}
use Rattle.hb_bundle.specs.Bundle.{AreTexts}
use Rattle.hb_bundle.specs.Told.{Adds}
use Rattle.hb_bundle.proofs.VerdictLemmas.{one_verified, first_fault}
use Rattle.hb_bundle.proofs.verifying.verify_first.Goals as goal

pub returns-in_ok-add_verdict-in-Ok : goal.returns-in_ok-add_verdict-in-Ok
returns-in_ok-add_verdict-in-Ok c =
    let content = raw_content_of c.in-Ok.raw in
    let added = subst (λ (t : Table). Adds t content c.args.verdicts.now c.add_verdict.new.verdicts) c.program-prog.ensures.prog c.in_ok-add_verdict-in-Ok.ensures in
    one_verified c.args.finder.now c.args.bytes.now c.up_to_end-length.result c.args.verdicts.now c.add_verdict.new.verdicts content
    c.up_to_end-length.ensures.some c.up_to_end-length.ensures.within c.in-Ok.ensures added

pub returns-in-Err-BadText : goal.returns-in-Err-BadText
returns-in-Err-BadText c =
    let refused = subst (λ (f : DerivFail). Reads c.args.finder.now (take c.up_to_end-length.result c.args.bytes.now) (Err f)) c.in-Err-BadText.field-0-is c.in-Err-BadText.ensures in
    subst (λ n. IsFault (AreTexts c.args.finder.now) c.args.bytes.now n) (sym c.in-Err-BadText.at-is)
    (first_fault c.args.finder.now c.args.bytes.now c.up_to_end-length.result _ c.requires.program c.program-prog.ensures.small c.requires.some c.up_to_end-length.ensures.end refused)
