use Rattle.std.proofs.Common.{◌+◌, sym, ◌∙◌, arith}
use Rattle.hb_deriv_text.proofs.ReadLemmas.{same_bytes}
use Rattle.hb_deriv_text.proofs.TextLemmas.{other_number}
use Rattle.hb_bundle.proofs.CutLemmas.{ended_here, other_here, plain_here, none_begun, not_end}
use Rattle.hb_bundle.proofs.ends.up_to_end.Goals.{then-bytes-i-eq10+else-eq, else-bytes-i-eq10}
use Rattle.hb_bundle.proofs.ends.up_to_end.Goals as goal

pub returns-then-eq-clause-end : goal.returns-then-eq-clause-end
returns-then-eq-clause-end c =
    ended_here c.args.bytes.now c.loop-i.line c.loop-i.i _ c.loop-i.invariant.begun c.loop-i-test.true c.loop-i.invariant.before
    (same_bytes _ _ (sym c.eq.ensures ∙ c.if-eq.true) ∙ c.as_slice.ensures) c.if-bytes-i-eq10.true

pub loop-i-preserved : goal.loop-i-preserved
loop-i-preserved c =
    let i = c.loop-i in
    let begun = c.loop-i.invariant.begun in
    elim c.if-bytes-i-eq10.branch [
      | then-bytes-i-eq10+else-eq w ↦ rw w.line-is (record {
        begun = omega arith;
        before = other_here c.args.bytes.now i.line i.i _ begun c.loop-i-test.true i.invariant.before i.invariant.plain
            (not_end _ _ w.as_slice.ensures (sym w.eq.ensures ∙ w.if-eq.false)) w.if-bytes-i-eq10.true;
        plain = none_begun c.args.bytes.now (i.i + 1);
      })
      | else-bytes-i-eq10 w ↦ rw w.line-is (record {
        begun = omega (arith, begun);
        before = i.invariant.before;
        plain = plain_here c.args.bytes.now i.line i.i _ begun c.loop-i-test.true i.invariant.plain (other_number _ _ w.if-bytes-i-eq10.false);
      })
    ]
