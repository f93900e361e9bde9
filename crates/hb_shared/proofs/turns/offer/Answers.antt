use Rattle.std.proofs.Common.{sym, ap, ◌∙◌, arith}
use Rattle.hb_shared.specs.Cells.{first_of}
use Rattle.hb_shared.proofs.TurnLemmas.{taken_more, takes, full}
use Rattle.hb_shared.proofs.turns.offer.Goals as goal

pub returns-in-Ok-clause-taken : goal.returns-in-Ok-clause-taken
returns-in-Ok-clause-taken c =
    takes c.args.item.value c.loop-at.item.value c.first_of-first.result c.loop-at.at c.args.notes.now.items c.loop-at.notes.items c.put.new.notes.items c.loop-at.invariant.item
    (c.first_of-first.ensures ∙ ap (λ caller. first_of caller.0) (sym c.requires.own)) c.loop-at.auto.at c.loop-at-test.true c.loop-at.invariant.later c.loop-at.invariant.taken
    c.put.ensures.learns c.in-Ok.ensures.put

pub loop-at-preserved : goal.loop-at-preserved
loop-at-preserved c =
    let put = c.in-Err.ensures.put in
    let learns = c.put.ensures.learns in
    record {
      item = put.0 ∙ c.loop-at.invariant.item;
      notes = c.put.ensures.notes;
      kept = λ k published e. learns.kept k published (c.loop-at.invariant.kept k published e);
      taken = taken_more c.first_of-first.result c.loop-at.at c.loop-at.notes.items c.put.new.notes.items learns c.loop-at.invariant.taken put.1;
      later = λ k low. learns.others k (λ e. omega (arith, low, e)) ∙ c.loop-at.invariant.later k (omega (arith, low));
    }

pub returns-clause-taken : goal.returns-clause-taken
returns-clause-taken c = full c.args.caller c.first_of-first.result c.loop-at.at c.loop-at.notes.items c.first_of-first.ensures c.loop-at-test.false c.loop-at.invariant.taken
