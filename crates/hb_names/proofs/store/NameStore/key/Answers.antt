use Rattle.std.proofs.Common.{ap, arith, length}
use Rattle.hb_names.specs.Stored.{Stock}
use Rattle.hb_names.proofs.NameLemmas.{place-within}
use Rattle.hb_names.proofs.store.NameStore.key.Goals as goal

pub returns-in-Some-clause-below : goal.returns-in-Some-clause-below
returns-in-Some-clause-below c =
    let same = ap (λ (s : Stock). length s.names) c.find.ensures.same in
    let within = place-within c.args.self.now.names (c.args.class.0, c.args.name.now) c.in-Some.key.0 c.in-Some.ensures.key in omega (arith, same, within)
