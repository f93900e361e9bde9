use Rattle.std.proofs.{Common.sym, Common.◌∙◌, lemmas.Bool.ne_eqb, lemmas.Bool.eq-eqb}
use Rattle.hb_lex.proofs.{Closings.Inside-escape, Closings.Inside-backslash, Closings.Inside-plain, literals.closing.Goals.then-escaped+else-b-eq10+else-not-is_escape}
use Rattle.hb_lex.proofs.{literals.closing.Goals.else-escaped+else-b-eq34+then-b-eq92, literals.closing.Goals.else-escaped+else-b-eq34+else-b-eq92+else-b-eq10-2+else-not-is_plain}
use Rattle.hb_lex.proofs.literals.closing.Goals as goal

pub loop-i-preserved : goal.loop-i-preserved
loop-i-preserved c =
    elim c.if-escaped.branch [
      | then-escaped+else-b-eq10+else-not-is_escape w ↦ rw w.escaped-is
          (Inside-escape _ _ _ _ c.loop-i-test.true c.loop-i.invariant w.if-escaped.true (ne_eqb _ _ w.if-b-eq10.false) (sym w.is_escape.ensures ∙ w.if-not-is_escape.false))
      | else-escaped+else-b-eq34+then-b-eq92 w ↦ rw w.escaped-is
          (Inside-backslash _ _ _ _ c.loop-i-test.true c.loop-i.invariant w.if-escaped.false (ne_eqb _ _ w.if-b-eq34.false) (eq-eqb _ _ w.if-b-eq92.true))
      | else-escaped+else-b-eq34+else-b-eq92+else-b-eq10-2+else-not-is_plain w ↦ rw (w.escaped-is, w.if-escaped.false)
          (Inside-plain _ _ _ _ c.loop-i-test.true c.loop-i.invariant w.if-escaped.false (ne_eqb _ _ w.if-b-eq34.false) (ne_eqb _ _ w.if-b-eq92.false) (ne_eqb _ _ w.if-b-eq10-2.false)
          (sym w.is_plain.ensures ∙ w.if-not-is_plain.false))
    ]
