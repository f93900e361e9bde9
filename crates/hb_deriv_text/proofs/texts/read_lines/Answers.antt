use Rattle.std.proofs.Common.{arith}
use Rattle.hb_deriv_text.specs.Reads.{draft_of}
use Rattle.hb_deriv_text.proofs.TextLemmas.{goes_on, line_fits, other_number, same_number, was_taken}
use Rattle.hb_deriv_text.proofs.texts.read_lines.Goals.{then-bytes-i-eq10+in_ok-take_line+else-not-branch, else-bytes-i-eq10}
use Rattle.hb_deriv_text.proofs.texts.read_lines.Goals as goal

pub loop-i-preserved : goal.loop-i-preserved
loop-i-preserved c =
    let i = c.loop-i in
    let begun = c.loop-i.invariant.begun in
    elim c.if-bytes-i-eq10.branch [
      | then-bytes-i-eq10+in_ok-take_line+else-not-branch w ↦ rw (w.draft-is, w.at-is) (record {
        begun = omega arith;
        rest = line_fits c.args.finder.now c.args.bytes.now (draft_of i.draft) i.at i.i 0 _ begun (draft_of w.take_line.new.draft) c.loop-i-test.true i.invariant.rest (same_number _ _ w.if-bytes-i-eq10.true)
            (was_taken _ _ _ w.in_ok-take_line.ensures w.if-not-branch.false);
      })
      | else-bytes-i-eq10 w ↦ rw (w.draft-is, w.at-is) (record {
        begun = omega (arith, begun);
        rest = goes_on c.args.finder.now c.args.bytes.now (draft_of i.draft) i.at i.i 0 _ begun c.loop-i-test.true i.invariant.rest (other_number _ _ w.if-bytes-i-eq10.false);
      })
    ]
