-- The kinds of step on the words.
use Rattle.hb_types.specs.declared.{ids.KeyId.KeyId, ids.CallNo.CallNo, ids.TypeSite.TypeSite, ids.BodySite.BodySite}
use Rattle.hb_tables.specs.declared.{desk.Look.Look, entry.ArgKinds.ArgKinds, entry.Verdict.Verdict}
use Rattle.hb_words.specs.Steps.{Telling, held, freed, type_looked, retyped, def_looked, def_tried, redefined, decided, quieted}

pub data Kind : Type 0 where
  holds : CallNo → KeyId → Kind
  frees : CallNo → KeyId → Kind
  looks_at_type : KeyId → Kind
  retypes : KeyId → TypeSite → Kind
  looks_at_def : KeyId → Kind
  tries_def : KeyId → Kind
  redefines : KeyId → BodySite → Kind
  decides : CallNo → KeyId → KeyId → Look → ArgKinds → Verdict → Kind
  quiets : Kind

-- what a step of this kind tells
abbrev pub told : Kind → Telling
told (holds q key) = held q key
told (frees q key) = freed q key
told (looks_at_type key) = type_looked key
told (retypes key site) = retyped key site
told (looks_at_def key) = def_looked key
told (tries_def key) = def_tried key
told (redefines key site) = redefined key site
told (decides q key owner look args verdict) = decided q key owner look args verdict
told quiets = quieted
