use Rattle.std.proofs.Common.{◌∙◌}
use Rattle.hb_names.specs.Stored.{name_of}
use Rattle.hb_names.proofs.KeyLemmas.{same-names, added, index-new}
use Rattle.hb_names.proofs.store.NameStore.push.Goals as goal

pub returns-clause-names : goal.returns-clause-names
returns-clause-names c = added name_of c.self.inside.names.keys c.args.self.now.names (same-names c.self.view_is) c.new-name.result _ c.new-name.ensures c.requires.new c.insert_full.new.self.keys c.in-Ok.ensures.keys

pub returns-clause-key : goal.returns-clause-key
returns-clause-key c = c.in-Ok.ensures.index ∙ index-new name_of c.self.inside.names.keys c.args.self.now.names (same-names c.self.view_is) c.new-name.result _ c.new-name.ensures c.requires.new
