use Rattle.std.proofs.Common.{length, refl, sym, ap, ◌∙◌, subst}
use Rattle.std.specs.Prelude.{slice_get}
use Rattle.std.proofs.lemmas.Option.{slice_get_read}
use Rattle.hb_names.specs.{Names.Differ, Stored.name_of}
use Rattle.hb_names.proofs.KeyLemmas.{same-names, differ, stands, none-past}
use Rattle.hb_names.proofs.store.NameStore.is_key.Goals as goal

pub returns-in-Some-clause-differ : goal.returns-in-Some-clause-differ
returns-in-Some-clause-differ c = subst Differ (same-names c.self.view_is) (differ name_of c.self.inside.names.keys c.as_slice.ensures.unique)

pub returns-in-Some-clause-key : goal.returns-in-Some-clause-key
returns-in-Some-clause-key c =
    let lookup = c.in-Some.ensures.lookup in
    let at = ap (λ keys. slice_get keys c.args.key.0) (sym c.as_slice.ensures.keys) ∙ slice_get_read c.as_slice.result.now (length c.as_slice.result.now) c.args.key.0 c.in-Some.known.now refl lookup.3.0 lookup.1 in
    rw c.is.ensures (stands name_of c.self.inside.names.keys c.args.self.now.names (same-names c.self.view_is) (c.args.class.0, c.args.name.now) c.args.key.0 c.in-Some.known.now c.as_slice.ensures.unique at)

pub returns-in-None-clause-differ : goal.returns-in-None-clause-differ
returns-in-None-clause-differ c = subst Differ (same-names c.self.view_is) (differ name_of c.self.inside.names.keys c.as_slice.ensures.unique)

pub returns-in-None-clause-key : goal.returns-in-None-clause-key
returns-in-None-clause-key c =
    let keys = c.as_slice.ensures.keys in let past = c.in-None.ensures.lookup.3 in
    (λ e. absurd (cc), λ e. absurd (none-past name_of c.self.inside.names.keys c.args.self.now.names (same-names c.self.view_is) (c.args.class.0, c.args.name.now) c.args.key.0 (rw keys at past) e))
