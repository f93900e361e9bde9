-- How the checks that a script keeps stay its own.
use Rattle.std.proofs.Common.{◌≡◌, ℕ, Bool, true, false, List, [], ◌∷◌, Option, Some, None, sym, subst, if◌then◌else◌, ◌==◌}
use mathlib.Core.List.{IsPrefix}
use Rattle.hb_types.specs.declared.ids.KeyId.{KeyId}
use Rattle.hb_types.specs.declared.ids.BodySite.{BodySite}
use Rattle.hb_types.specs.declared.ids.TypeSite.{TypeSite}
use Rattle.hb_cache.specs.declared.kept.Kept.{Kept}
use Rattle.hb_cache.specs.Kept.{kept_at, not_using}
use Rattle.hb_tree.specs.Table.{Table}
use Rattle.hb_names.specs.Names.{Name, with_name}
use Rattle.hb_names.proofs.NameLemmas.{with_name-begins}
use Rattle.hb_tables.specs.declared.entry.Entry.{Entry}
use Rattle.hb_tables.specs.declared.entry.Act.{Act}
use Rattle.hb_tables.specs.declared.entry.Act.TheVariants.{Define, Retype}
use Rattle.hb_tables.specs.History.{Adds}
use Rattle.hb_tables.specs.Answers.{DefAdds, TypeAdds}
use Rattle.hb_tables.specs.declared.desk.DefAnswer.TheVariants as defined
use Rattle.hb_tables.specs.declared.desk.TypeAnswer.TheVariants as typed
use Rattle.hb_tables.proofs.FrontLemmas.{adds_act}
use Rattle.hb_tables.proofs.DeskLemmas.{adds_prefix}
use Rattle.hb_call.specs.GrowthLaws.{prefix_itself}
use Rattle.hb_call.specs.Own.{changes_kept}
use Rattle.hb_call.specs.OwnLaws.{keeps_named as keeps_more, own_stays, own_retype, own_define}
use Rattle.hb_call.specs.OwnCache.{KeepsChecks}
use Rattle.hb_call.specs.Rules.{EntersBy}
use Rattle.hb_call.proofs.GrowthLemmas.{each_adds}
use Rattle.hb_eval.specs.Entries.{asked_again}
use Rattle.hb_eval.specs.Keeping.{StaysOwn}

-- one act that changes nothing that is kept, and enters no body
pub stays_left : (c : ℕ) (old new : List Entry) (a : Act) (cache : List (Option Kept)) → Adds c old new a → changes_kept a ≡ false → ((past : List Act) (before : List Entry) → EntersBy c past before a) → StaysOwn c old new cache cache
stays_left c old new a cache adds left enters t names asked = record {
  own = λ past own. own_stays t names names asked asked c past old new cache (prefix_itself names) (prefix_itself asked) own (a ∷ []) (adds_prefix c old new a adds) (adds_act c old new a adds) (left, tt);
  ways = λ past own. each_adds (EntersBy c past) c old new a adds (enters past _);
}

-- a type, with what used it dropped
pub stays_retyped : (c : ℕ) (old new : List Entry) (key : KeyId) (site : TypeSite) (cache left : List (Option Kept)) → TypeAdds c old new key site typed.Done → ((k : ℕ) → kept_at left k ≡ not_using key.0 (kept_at cache k)) → StaysOwn c old new cache left
stays_retyped c old new key site cache left adds drops t names asked = record {
  own = λ past own. own_retype t names names asked asked c past old new cache (prefix_itself names) (prefix_itself asked) own key site left adds drops;
  ways = λ past own. each_adds (EntersBy c past) c old new (Retype key site) adds tt;
}

-- a definition, with what was kept for it dropped
pub stays_defined : (c : ℕ) (old new : List Entry) (key : KeyId) (site : BodySite) (cache left : List (Option Kept)) → DefAdds c old new key site defined.Done → ((k : ℕ) → kept_at left k ≡ (if key.0 == k then None else kept_at cache k)) → StaysOwn c old new cache left
stays_defined c old new key site cache left adds drops t names asked = record {
  own = λ past own. own_define t names names asked asked c past old new cache (prefix_itself names) (prefix_itself asked) own key site left adds drops;
  ways = λ past own. each_adds (EntersBy c past) c old new (Define key site) adds tt;
}

-- one name was asked for, and then what is kept stayed so
pub keeps_named : (t : Table) (c : ℕ) (names known was asked : List Name) (name : Name) (past now : List Entry) (old new : List (Option Kept)) → IsPrefix names known → asked ≡ with_name was name → StaysOwn c past now old new → KeepsChecks t c names known was asked past now old new
keeps_named t c names known was asked name past now old new longer is stays =
    let more = keeps_more t c names known was asked past old longer (subst (IsPrefix was) (sym is) (with_name-begins was name)) in
    record {
      own = λ first own. (stays t known asked).own first (more.own first own);
      ways = λ first own. (stays t known asked).ways first (more.own (Some first) own);
    }

-- the names are known, and none was asked for
pub keeps_known : (t : Table) (c : ℕ) (names known was asked : List Name) (log : List Entry) (cache : List (Option Kept)) → IsPrefix names known → asked ≡ was → KeepsChecks t c names known was asked log log cache cache
keeps_known t c names known was asked log cache longer is = keeps_more t c names known was asked log cache longer (subst (IsPrefix was) (sym is) (prefix_itself was))

-- the name of a call was asked for once more, or that was in vain
pub keeps_again : (placed : Bool) (t : Table) (c : ℕ) (names known was asked : List Name) (name : Name) (log : List Entry) (cache : List (Option Kept)) → IsPrefix names known → asked ≡ asked_again placed was name → KeepsChecks t c names known was asked log log cache cache
keeps_again true t c names known was asked name log cache longer is = keeps_more t c names known was asked log cache longer (subst (IsPrefix was) (sym is) (with_name-begins was name))
keeps_again false t c names known was asked name log cache longer is = keeps_known t c names known was asked log cache longer is
