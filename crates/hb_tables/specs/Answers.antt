-- What a desk's answers say.
use Rattle.std.specs.Prelude.{◌≡◌, ℕ, ◌<◌, List, [], ◌∷◌, ◌++◌, Result, Ok, Err}
use Rattle.hb_types.specs.declared.{ids.KeyId.KeyId, ids.TypeSite.TypeSite, ids.BodySite.BodySite, ids.CallNo.CallNo}
use Rattle.hb_tables.specs.declared.{entry.Entry.Entry, desk.TypeAnswer.TypeAnswer, desk.TypeAnswer.TheVariants.Done, desk.TypeAnswer.TheVariants.Busy}
use Rattle.hb_tables.specs.declared.{desk.TypeAnswer.TheVariants.Worn, entry.Verdict.Verdict, entry.ArgKinds.ArgKinds, desk.Look.Look, desk.DefAnswer.DefAnswer}
use Rattle.hb_tables.specs.declared.entry.Act.TheVariants as act
use Rattle.hb_tables.specs.declared.desk.DefAnswer.TheVariants as defined
use Rattle.hb_tables.specs.History.{spot, journal, entry, Adds, Learns}

-- the caller, the limit of changes, and numbers that tell what the desk was made with
pub record Fixed : Type 0 where
  pub caller : ℕ
  pub limit : ℕ
  pub made_with : List ℕ

-- what is known grows by the entry of this answer to a type that is to be set
abbrev pub TypeAdds : ℕ → List Entry → List Entry → KeyId → TypeSite → TypeAnswer → Type 0
TypeAdds c old new key site Done = Adds c old new (act.Retype key site)
TypeAdds c old new key site (Busy pins) = Adds c old new (act.Busy key pins)
TypeAdds c old new key site Worn = Adds c old new (act.WornType key)

-- the look is true of the state after these entries
abbrev pub IsLookAt : ℕ → Look → List Entry → Type 0
IsLookAt k look log = (look.site ≡ (spot k log).body) × (look.changes ≡ (spot k log).redefs)

-- what is known grows by the entry of this answer to a definition that is to be set
abbrev pub DefAdds : ℕ → List Entry → List Entry → KeyId → BodySite → DefAnswer → Type 0
DefAdds c old new key site defined.Done = Adds c old new (act.Define key site)
DefAdds c old new key site defined.Worn = Adds c old new (act.WornDef key)

-- the call is decided at a place where the look is true, or the definition was changed since the look, and a newer look is true at the end
abbrev pub Decides : ℕ → List Entry → List Entry → CallNo → KeyId → KeyId → Look → ArgKinds → Verdict → Result (Unit {0}) Look → Type 0
Decides c old new q key owner look args verdict (Ok _) =
    (between : List Entry) × (new ≡ (old ++ between) ++ entry c (act.Call key q look.site args verdict) ∷ []) × (journal c between ≡ []) × IsLookAt owner.0 look (old ++ between)
Decides c old new q key owner look args verdict (Err newer) = Learns c old new × IsLookAt owner.0 newer new × (look.changes < newer.changes)
