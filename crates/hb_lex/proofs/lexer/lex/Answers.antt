use Rattle.std.proofs.Common.{sym, ◌∙◌, inr, arith}
use Rattle.std.proofs.{lemmas.Bool.ne_eqb, lemmas.Bool.eq-eqb, lemmas.Result.err_from_is_err_and}
use Rattle.hb_lex.proofs.Runs.{Read-none, Read-blank, Read-comment, Read-line, Read-break, Read-token, Read-fault, Read-end, token-goes}
use Rattle.hb_lex.proofs.lexer.lex.Goals as goal
use Rattle.hb_lex.proofs.lexer.lex.Goals.{then-separates+in_ok-push, else-separates}

pub loop-at-init : goal.loop-at-init
loop-at-init c = rw c.new-tokens.ensures.items (Read-none c.args.bytes.now)

pub loop-at-preserved-then-is_blank : goal.loop-at-preserved-then-is_blank
loop-at-preserved-then-is_blank c = Read-blank _ _ _ _ c.loop-at.invariant c.loop-at-test.true (sym c.is_blank.ensures ∙ c.if-is_blank.true)

pub loop-at-preserved-then-b-eq35 : goal.loop-at-preserved-then-b-eq35
loop-at-preserved-then-b-eq35 c =
    rw c.comment_len-at.ensures
    (Read-comment _ _ _ _ c.loop-at.invariant c.loop-at-test.true (sym c.is_blank.ensures ∙ c.if-is_blank.false) (eq-eqb _ _ c.if-b-eq35.true))

pub loop-at-preserved-then-b-eq10 : goal.loop-at-preserved-then-b-eq10
loop-at-preserved-then-b-eq10 c =
    let blank = sym c.is_blank.ensures ∙ c.if-is_blank.false in
    let hash = ne_eqb _ _ c.if-b-eq35.false in
    let feed = eq-eqb _ _ c.if-b-eq10.true in
    elim c.if-separates.branch [
      | then-separates+in_ok-push w ↦ rw (w.tokens-is, w.before-is, w.in_ok-push.ensures.ok)
          (Read-break _ _ _ _ c.loop-at.invariant c.loop-at-test.true blank hash feed (sym c.separates.ensures ∙ w.if-separates.true))
      | else-separates w ↦ rw (w.tokens-is, w.before-is)
          (Read-line _ _ _ _ c.loop-at.invariant c.loop-at-test.true blank hash feed (sym c.separates.ensures ∙ w.if-separates.false))
    ]

pub returns-in_err-kind-clause-fault : goal.returns-in_err-kind-clause-fault
returns-in_err-kind-clause-fault c =
    let blank = sym c.is_blank.ensures ∙ c.if-is_blank.false in
    let hash = ne_eqb _ _ c.if-b-eq35.false in
    let feed = ne_eqb _ _ c.if-b-eq10.false in
    let p = err_from_is_err_and c.from_residual-in_err-kind.result c.from_residual-in_err-kind.ensures.1 in
    rw (p.1, p.2) (inr (Read-fault _ _ _ _ c.loop-at.invariant c.loop-at-test.true _ blank hash feed c.in_err-kind.ensures))

pub loop-at-smaller : goal.loop-at-smaller
loop-at-smaller c =
    let goes = token-goes _ _ _ _ c.loop-at.invariant c.loop-at-test.true c.in_ok-kind.kind c.in_ok-kind.n c.in_ok-kind.ensures in
    omega (arith, goes.0, goes.1)

pub loop-at-preserved : goal.loop-at-preserved
loop-at-preserved c =
    let blank = sym c.is_blank.ensures ∙ c.if-is_blank.false in
    let hash = ne_eqb _ _ c.if-b-eq35.false in
    let feed = ne_eqb _ _ c.if-b-eq10.false in
    rw c.in_ok-push-2.ensures.ok
    (Read-token _ _ _ _ c.loop-at.invariant c.loop-at-test.true c.in_ok-kind.kind c.in_ok-kind.n blank hash feed c.in_ok-kind.ensures)

pub returns-clause-tokens : goal.returns-clause-tokens
returns-clause-tokens c = rw c.from_vec.ensures (Read-end _ _ _ _ c.loop-at.invariant c.loop-at-test.false)
