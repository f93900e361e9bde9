use Rattle.std.proofs.Common.{subst, Some, None}
use Rattle.hb_names.specs.{Names.Differ, Stored.name_of}
use Rattle.hb_names.proofs.KeyLemmas.{same-names, differ, found}
use Rattle.hb_names.proofs.store.NameStore.look_up.Goals as goal

pub returns-in-Some-clause-key : goal.returns-in-Some-clause-key
returns-in-Some-clause-key c = found name_of c.self.inside.names.keys c.args.self.now.names (same-names c.self.view_is) c.new-name.result _ c.new-name.ensures (Some c.in-Some.at) c.in-Some.ensures.index

pub returns-in-Some-clause-differ : goal.returns-in-Some-clause-differ
returns-in-Some-clause-differ c = subst Differ (same-names c.self.view_is) (differ name_of c.self.inside.names.keys c.len-count.ensures.unique)

pub returns-in-None-clause-unknown : goal.returns-in-None-clause-unknown
returns-in-None-clause-unknown c = found name_of c.self.inside.names.keys c.args.self.now.names (same-names c.self.view_is) c.new-name.result _ c.new-name.ensures None c.in-None.ensures.index

pub returns-in-None-clause-differ : goal.returns-in-None-clause-differ
returns-in-None-clause-differ c = subst Differ (same-names c.self.view_is) (differ name_of c.self.inside.names.keys c.len-count.ensures.unique)
