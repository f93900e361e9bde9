use Rattle.std.proofs.Common.{ℕ, ◌+◌, List, Err, arith, drop, length, subst, sym}
use Rattle.std.proofs.lemmas.List.{length-drop, take_rest}
use Rattle.std.specs.Prelude.{slice_range}
use Rattle.hb_tree.specs.Table.{Table}
use Rattle.hb_deriv_text.specs.Faults.{IsFault}
use Rattle.hb_bundle.specs.Bundle.{AreTexts}
use Rattle.hb_bundle.specs.Verifies.{VerifiesOne, VerifiesFirst}
use Rattle.hb_bundle.specs.declared.verifying.TextsFail.{TextsFail}
use Rattle.hb_bundle.proofs.VerdictLemmas.{more_verified, fault_further}
use Rattle.hb_bundle.proofs.verifying.verify_texts.Goals as goal

pub loop-at-preserved : goal.loop-at-preserved
loop-at-preserved c =
    let rest = take_rest c.args.bytes.now c.loop-at.at in
    let read = subst (λ (t : Table). VerifiesOne t (slice_range c.args.bytes.now c.loop-at.at (length c.args.bytes.now)) c.in-Ok.length c.loop-at.verdicts c.verify_first.new.verdicts) c.in_ok-finder.ensures.prog c.in-Ok.ensures in
    let one = subst (λ (l : List ℕ). VerifiesOne c.args.prog.now l c.in-Ok.length c.loop-at.verdicts c.verify_first.new.verdicts) rest read in
    let short = one.within in
    let within = c.loop-at.invariant.within in
    record {
      within = omega (arith, short, within, length-drop c.loop-at.at c.args.bytes.now);
      before = more_verified c.args.prog.now c.args.bytes.now c.loop-at.at c.in-Ok.length c.loop-at.verdicts c.verify_first.new.verdicts c.loop-at.invariant.before one;
    }

pub returns-in-Err-BadTexts : goal.returns-in-Err-BadTexts
returns-in-Err-BadTexts c =
    let rest = take_rest c.args.bytes.now c.loop-at.at in
    let first = subst (λ (f : TextsFail). VerifiesFirst c.args.prog.now (drop c.loop-at.at c.args.bytes.now) c.loop-at.verdicts c.verify_first.new.verdicts (Err f)) c.in-Err-BadTexts.field-0-is
    (subst (λ (l : List ℕ). VerifiesFirst c.args.prog.now l c.loop-at.verdicts c.verify_first.new.verdicts (Err c.in-Err-BadTexts.field-0)) rest
    (subst (λ (t : Table). VerifiesFirst t (slice_range c.args.bytes.now c.loop-at.at (length c.args.bytes.now)) c.loop-at.verdicts c.verify_first.new.verdicts (Err c.in-Err-BadTexts.field-0)) c.in_ok-finder.ensures.prog c.in-Err-BadTexts.ensures)) in
    subst (λ n. IsFault (AreTexts c.args.prog.now) c.args.bytes.now (c.loop-at.at + n)) (sym c.in-Err-BadTexts.further-is)
    (fault_further c.args.prog.now c.args.bytes.now _ _ c.loop-at.at _ c.nodes-nodes.ensures.program c.in_ok-finder.ensures.small c.loop-at.invariant.within c.loop-at.invariant.before first)
