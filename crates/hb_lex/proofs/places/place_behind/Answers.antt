use Rattle.std.proofs.Common.{arith}
use Rattle.hb_lex.proofs.{Columns.line_feed_next, Columns.other_next, places.place_behind.Goals.then-b-eq10, places.place_behind.Goals.else-b-eq10}
use Rattle.hb_lex.proofs.places.place_behind.Goals as goal

pub loop-b-preserved : goal.loop-b-preserved
loop-b-preserved c =
    elim c.if-b-eq10.branch [
      | then-b-eq10 w ↦
          let next = line_feed_next c.args.bytes.now c.args.from c.args.to c.loop-b.b-index c.loop-b-test.true w.if-b-eq10.true in
          record { line = omega (arith, next.0, c.loop-b.invariant.line); column = omega (arith, next.1) }
      | else-b-eq10 w ↦
          let next = other_next c.args.bytes.now c.args.from c.args.to c.loop-b.b-index c.loop-b-test.true w.if-b-eq10.false in
          record { line = omega (arith, next.0, c.loop-b.invariant.line); column = omega (arith, next.1, c.loop-b.invariant.column) }
    ]
