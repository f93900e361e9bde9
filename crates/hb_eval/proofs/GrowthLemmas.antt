-- What comes to a caller's front where a type or a definition is to be changed.
use Rattle.std.proofs.Common.{◌≡◌, ◌<◌, ℕ, false, List, [], ◌∷◌, ◌++◌, length, sym, refl, ap, ◌∙◌, subst}
use mathlib.Core.List.{IsPrefix}
use Rattle.hb_types.specs.declared.ids.KeyId.{KeyId}
use Rattle.hb_types.specs.declared.ids.BodySite.{BodySite}
use Rattle.hb_types.specs.declared.ids.TypeSite.{TypeSite}
use Rattle.hb_tree.specs.Table.{Table}
use Rattle.hb_names.specs.Names.{Name}
use Rattle.hb_tables.specs.declared.entry.Entry.{Entry}
use Rattle.hb_tables.specs.declared.entry.Act.{Act}
use Rattle.hb_tables.specs.declared.entry.Act.TheVariants.{Hold, Free, Retype, Busy, WornType, Define, WornDef, Call}
use Rattle.hb_tables.specs.declared.desk.DefAnswer.{DefAnswer}
use Rattle.hb_tables.specs.declared.desk.DefAnswer.TheVariants as defined
use Rattle.hb_tables.specs.declared.desk.TypeAnswer.{TypeAnswer}
use Rattle.hb_tables.specs.declared.desk.TypeAnswer.TheVariants as typed
use Rattle.hb_tables.specs.History.{Adds, key_of}
use Rattle.hb_tables.specs.Answers.{DefAdds, TypeAdds}
use Rattle.hb_tables.proofs.FrontLemmas.{adds_act}
use Rattle.hb_tables.proofs.StandingLemmas.{has_part}
use Rattle.hb_tables.proofs.DeskLemmas.{adds_apart, adds_prefix}
use Rattle.hb_call.specs.Held.{stands}
use Rattle.hb_call.specs.Rules.{FitsRules}
use Rattle.hb_call.specs.Growth.{Grown, with_key, asked_by}
use Rattle.hb_call.proofs.GrowthLemmas.{each_adds}

-- the act is no part of a call
abbrev pub IsChange : Act → Type 0
IsChange (Hold key q ty changes) = ⊥
IsChange (Free key q) = ⊥
IsChange (Call key q site args verdict) = ⊥
IsChange _ = Unit {0}

-- One act on the key that is no part of a call came to the caller's own.
pub record Changes (c k : ℕ) (old new : List Entry) : Type 0 where
  pub act : Act
  pub adds : Adds c old new act
  pub apart : IsChange act
  pub about : key_of act ≡ k

pub def_changes : (c : ℕ) (old new : List Entry) (key : KeyId) (site : BodySite) (answer : DefAnswer) → DefAdds c old new key site answer → Changes c key.0 old new
def_changes c old new key site defined.Done h = record { act = Define key site; adds = h; apart = tt; about = refl }
def_changes c old new key site defined.Worn h = record { act = WornDef key; adds = h; apart = tt; about = refl }

pub type_changes : (c : ℕ) (old new : List Entry) (key : KeyId) (site : TypeSite) (answer : TypeAnswer) → TypeAdds c old new key site answer → Changes c key.0 old new
type_changes c old new key site typed.Done h = record { act = Retype key site; adds = h; apart = tt; about = refl }
type_changes c old new key site (typed.Busy pins) h = record { act = Busy key pins; adds = h; apart = tt; about = refl }
type_changes c old new key site typed.Worn h = record { act = WornType key; adds = h; apart = tt; about = refl }

has_no_part : (q : ℕ) (a : Act) → IsChange a → has_part q a ≡ false
has_no_part q (Hold key p ty changes) h = absurd h
has_no_part q (Free key p) h = absurd h
has_no_part q (Call key p site args verdict) h = absurd h
has_no_part _ _ _ = refl

-- where its key is that of a name, it fits the rules
fits_any : (t : Table) (names : List Name) (c : ℕ) (before : List Entry) (a : Act) → IsChange a → key_of a < length names → FitsRules t names c before a
fits_any t names c before (Hold key p ty changes) h named = absurd h
fits_any t names c before (Free key p) h named = absurd h
fits_any t names c before (Call key p site args verdict) h named = absurd h
fits_any _ _ _ _ _ _ named = record { row = tt; hold = tt; free = tt; whole = tt; named = named }

-- it asks for the name of its key
asks_key : (names asked : List Name) (a : Act) → IsChange a → asked_by names asked a ≡ with_key names asked (key_of a)
asks_key names asked (Hold key p ty changes) h = absurd h
asks_key names asked (Free key p) h = absurd h
asks_key names asked (Call key p site args verdict) h = absurd h
asks_key _ _ _ _ = refl

pub changes_stand : (c k : ℕ) (old new : List Entry) → Changes c k old new → (q : ℕ) → stands c q new ≡ stands c q old
changes_stand c k old new h q = adds_apart c q old new h.act h.adds (has_no_part q h.act h.apart)

pub changes_kept : (c k : ℕ) (old new : List Entry) → Changes c k old new → IsPrefix old new
changes_kept c k old new h = adds_prefix c old new h.act h.adds

pub changes_grown : (t : Table) (c k : ℕ) (known was asked : List Name) (old new : List Entry) → Changes c k old new → k < length known → ((names : List Name) → IsPrefix known names → asked ≡ with_key names was k) → Grown t c known was asked old new
changes_grown t c k known was asked old new h named asks = record {
  made = h.act ∷ [];
  grows = adds_act c old new h.act h.adds;
  kept = adds_prefix c old new h.act h.adds;
  rules = each_adds (FitsRules t known c) c old new h.act h.adds (fits_any t known c (old ++ h.adds.0) h.act h.apart (subst (λ (j : ℕ). j < length known) (sym h.about) named));
  names = λ names p. asks names p ∙ ap (with_key names was) (sym h.about) ∙ sym (asks_key names was h.act h.apart);
}
