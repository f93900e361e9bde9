use Rattle.std.proofs.Common.{subst}
use Rattle.hb_names.specs.{Names.Differ, Stored.name_of}
use Rattle.hb_names.proofs.KeyLemmas.{same-names, differ}
use Rattle.hb_names.proofs.store.NameStore.len.Goals as goal

pub returns-clause-differ : goal.returns-clause-differ
returns-clause-differ c = subst Differ (same-names c.self.view_is) (differ name_of c.self.inside.names.keys c.len.ensures.unique)
