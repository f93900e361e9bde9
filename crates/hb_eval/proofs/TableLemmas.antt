-- An act that comes to a caller's journal, and what reading it gives.
use Rattle.std.proofs.Common.{◌≡◌, ℕ, List, [], ◌∷◌, ◌++◌, Option, Some, Bool, true, refl, ap, ◌∙◌, nat_eq, eq-eqb}
use Rattle.std.specs.Prelude.{Result, Ok, Err, cond}
use Rattle.hb_types.specs.declared.{ids.KeyId.KeyId, ids.BodySite.BodySite, ids.TypeSite.TypeSite}
use Rattle.hb_tables.specs.declared.{entry.Entry.Entry, entry.Act.Act}
use Rattle.hb_tables.specs.declared.entry.Act.TheVariants as act
use Rattle.hb_tables.specs.declared.desk.DefAnswer.TheVariants as defined
use Rattle.hb_tables.specs.declared.desk.TypeAnswer.TheVariants as typed
use Rattle.hb_tables.specs.{History.entry, History.Adds as AddsEntry, Answers.DefAdds, Answers.TypeAdds, Frames.acts}
use Rattle.hb_tables.proofs.{FrameLemmas.acts_append, DeskLemmas.learns_acts}
use Rattle.hb_eval.specs.declared.{value.Value.Value, stop.Stop.Stop}
use Rattle.hb_eval.specs.declared.value.Value.TheVariants as value
use Rattle.hb_eval.specs.declared.stop.Stop.TheVariants as stop
use Rattle.hb_eval.specs.State.{St, gives, reads, read_act, meant, next_act}
use Rattle.hb_eval.specs.Methods.{define_meaning, declare_meaning, changed, unchanged}
use Rattle.hb_eval.specs.Tables.{Adds}

same_number : (n : ℕ) → nat_eq n n ≡ true
same_number n = eq-eqb n n refl

pub own_act : (c : ℕ) (a : Act) → acts c (entry c a ∷ []) ≡ a ∷ []
own_act c a = ap (λ (b : Bool). cond b (a ∷ []) []) (same_number c)

added_act : (c : ℕ) (old new : List Entry) (a : Act) → AddsEntry c old new a → acts c new ≡ acts c old ++ a ∷ []
added_act c old new a (between, is, none) =
    ap (acts c) is ∙ acts_append c (old ++ between) (entry c a ∷ [])
    ∙ ap (λ l. l ++ acts c (entry c a ∷ [])) (learns_acts c old (old ++ between) (between, refl, none))
    ∙ ap (λ l. acts c old ++ l) (own_act c a)

pub defined_acts : (c : ℕ) (old new : List Entry) (key : KeyId) (site : BodySite) → DefAdds c old new key site defined.Done
    → Adds c old new (define_meaning key.0 site.0) (Ok value.Nil)
defined_acts c old new key site adds = record {
  act = act.Define key site;
  grows = added_act c old new (act.Define key site) adds;
  means = rw (same_number key.0, same_number site.0) refl;
  apart = refl;
}

pub worn_def_acts : (c : ℕ) (old new : List Entry) (key : KeyId) (site : BodySite) → DefAdds c old new key site defined.Worn
    → Adds c old new (define_meaning key.0 site.0) (Err stop.Worn)
worn_def_acts c old new key site adds = record {
  act = act.WornDef key;
  grows = added_act c old new (act.WornDef key) adds;
  means = rw (same_number key.0) refl;
  apart = refl;
}

pub typed_acts : (asks : Bool) (c : ℕ) (old new : List Entry) (key : KeyId) (site : TypeSite) → TypeAdds c old new key site typed.Done
    → Adds c old new (declare_meaning asks key.0 site.0) (changed asks)
typed_acts asks c old new key site adds = record {
  act = act.Retype key site;
  grows = added_act c old new (act.Retype key site) adds;
  means = rw (same_number key.0, same_number site.0) refl;
  apart = refl;
}

pub busy_acts : (asks : Bool) (pins c : ℕ) (old new : List Entry) (key : KeyId) (site : TypeSite) → TypeAdds c old new key site (typed.Busy pins)
    → Adds c old new (declare_meaning asks key.0 site.0) (unchanged asks)
busy_acts asks pins c old new key site adds = record {
  act = act.Busy key pins;
  grows = added_act c old new (act.Busy key pins) adds;
  means = rw (same_number key.0) refl;
  apart = refl;
}

pub worn_type_acts : (asks : Bool) (c : ℕ) (old new : List Entry) (key : KeyId) (site : TypeSite) → TypeAdds c old new key site typed.Worn
    → Adds c old new (declare_meaning asks key.0 site.0) (Err stop.Worn)
worn_type_acts asks c old new key site adds = record {
  act = act.WornType key;
  grows = added_act c old new (act.WornType key) adds;
  means = rw (same_number key.0) refl;
  apart = refl;
}

-- reading an act that is asked for gives what it means
pub reads_act : (meaning : Act → Option (Result Value Stop)) (id : ℕ) (a : Act) (r : Result Value Stop) (rest : List Act) (s : St)
    → meaning a ≡ Some r → s.journal ≡ a ∷ rest → reads meaning id s ≡ gives id r (read_act a rest s)
unfolding reads
reads_act meaning id a r rest s means here =
    ap (next_act meaning id s) here ∙ ap (λ o. meant id o (read_act a rest s)) means
