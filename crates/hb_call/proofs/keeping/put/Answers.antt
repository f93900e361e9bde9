use Rattle.std.proofs.Common.{inr, refl}
use Rattle.hb_call.proofs.DecideLemmas.{on_err}
use Rattle.hb_call.specs.Sharing.{collected}
use Rattle.hb_call.proofs.KeepingLemmas.{ok_then, shares_copy, when_ok}
use Rattle.hb_call.proofs.keeping.put.Goals as goal

pub returns-clause-put : goal.returns-clause-put
returns-clause-put c = when_ok c.take.result (record {
  kept = record { key = c.args.key; changes = c.args.own.changes; counts = c.in_ok-counts.counts; derivation = c.args.derivation };
  key_is = refl;
  changes = refl;
  counts = c.in_ok-counts.ensures;
  derivation = refl;
  put = c.in_ok-put.ensures.each;
})

pub returns-clause-unput : goal.returns-clause-unput
returns-clause-unput c = on_err c.take.result (inr (record {
  kept = record { key = c.args.key; changes = c.args.own.changes; counts = c.in_ok-counts.counts; derivation = c.args.derivation };
  key_is = refl;
  changes = refl;
  counts = c.in_ok-counts.ensures;
  derivation = refl;
  put = c.in_ok-put.ensures.each;
}))

pub returns-clause-shared : goal.returns-clause-shared
returns-clause-shared c = ok_then c.take.result c.take.ensures.taken (shares_copy c.args.derivation (collected c.args.share.now) (collected c.take.new.self) c.in_ok-copy.copy c.in_ok-copy.ensures)
