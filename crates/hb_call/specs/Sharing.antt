-- What a share collects of the checks that calls make.
use Rattle.std.specs.Prelude.{◌≡◌, ℕ, ◌<◌, ◌≤◌, List, [], ◌∷◌, ◌++◌, length, Option, Some, None, Result, Ok, Err, Contains}
use Rattle.hb_types.specs.declared.ids.BodySite.{BodySite}
use Rattle.hb_types.specs.declared.ids.TypeSite.{TypeSite}
use Rattle.hb_tree.specs.Table.{Table}
use Rattle.hb_deriv.specs.declared.raw.Used.{Used}
use Rattle.hb_deriv.specs.declared.raw.Derivation.{Derivation}
use Rattle.hb_deriv.specs.Derivation.{IsCopy, key_of}
use Rattle.hb_cache.specs.declared.kept.Kept.{Kept}
use Rattle.hb_cache.specs.Kept.{kept_at}
use Rattle.hb_names.specs.Names.{Name, place}
use Rattle.hb_tables.specs.declared.entry.By.TheVariants as by
use Rattle.hb_tables.specs.Names.{name_of}
use Rattle.hb_tables.specs.Standing.{Stand}
use Rattle.hb_call.specs.declared.share.Share.{Share}
use Rattle.hb_call.specs.declared.share.Share.TheVariants as share
use Rattle.hb_call.specs.declared.share.TheConstants.{COLLECTED_MAX}
use Rattle.hb_call.specs.declared.frame.CallFail.{CallFail}
use Rattle.hb_call.specs.declared.frame.Entered.{Entered}
use Rattle.hb_call.specs.declared.frame.Entered.TheVariants as entered

-- what was collected, where anything is
abbrev pub collected : Share → Option (List Derivation)
collected share.Off = None
collected (share.Collect made) = Some made.items

-- a copy of the derivation, where fewer were collected than may be
abbrev pub IsCopyFor : Option (List Derivation) → Derivation → Option Derivation → Type 0
IsCopyFor None d copy = copy ≡ None
IsCopyFor (Some made) d None = COLLECTED_MAX ≤ length made
IsCopyFor (Some made) d (Some copy) = (length made < COLLECTED_MAX) × IsCopy d copy

-- a copy goes last
abbrev pub TakesCopy : Option (List Derivation) → Option Derivation → Option (List Derivation) → Type 0
TakesCopy (Some made) (Some copy) new = new ≡ Some (made ++ copy ∷ [])
TakesCopy (Some made) None new = new ≡ Some made
TakesCopy None copy new = new ≡ None

-- a Hold of the key found this type among those that stand
pub record Found (hs : List Stand) (k : ℕ) (site : TypeSite) : Type 0 where
  pub stand : Stand
  pub among : Contains hs stand
  pub key : stand.key ≡ k
  pub ty : stand.ty ≡ Some site

-- each use has the type that the Hold of its method's key found
abbrev pub FoundUses : Table → List Name → List Stand → List Used → Type 0
FoundUses t names hs [] = Unit {0}
FoundUses t names hs (u ∷ uses) = ((k : ℕ) × (place names (name_of t (key_of u)) ≡ Some k) × Found hs k u.site) × FoundUses t names hs uses

-- A copy of the derivation that is kept for the key, and is of its method, comes last. It is of this body, and its sites are those that the Holds that stand found.
pub record CollectsOne (t : Table) (names : List Name) (hs : List Stand) (cache : List (Option Kept)) (k : ℕ) (site : BodySite) (old : List Derivation) (new : Option (List Derivation)) : Type 0 where
  pub kept : Kept
  pub at : kept_at cache k ≡ Some kept
  pub key : kept.key.0 ≡ k
  pub body : kept.derivation.body ≡ site
  pub copy : Derivation
  pub same : IsCopy kept.derivation copy
  pub last : new ≡ Some (old ++ copy ∷ [])
  pub declared : Found hs k copy.declared
  pub uses : FoundUses t names hs copy.uses.items

-- where fewer are collected than may be, one comes
abbrev pub CollectsFew : Table → List Name → List Stand → List (Option Kept) → ℕ → BodySite → Option (List Derivation) → Option (List Derivation) → Type 0
CollectsFew t names hs cache k site None new = new ≡ None
CollectsFew t names hs cache k site (Some old) new = ((length old < COLLECTED_MAX) → CollectsOne t names hs cache k site old new) × ((COLLECTED_MAX ≤ length old) → new ≡ Some old)

-- a call that was checked afresh adds its derivation, and all others leave what was collected
abbrev pub Collects : Table → List Name → List Stand → List (Option Kept) → Share → Share → Result Entered CallFail → Type 0
Collects t names hs cache old new (Ok (entered.Frame f by.Fresh)) = CollectsFew t names hs cache f.key.0 f.body (collected old) (collected new)
Collects t names hs cache old new (Ok (entered.Frame f by.Own)) = collected new ≡ collected old
Collects t names hs cache old new (Ok (entered.Frame f by.Shared)) = collected new ≡ collected old
Collects t names hs cache old new (Ok (entered.Refused v)) = collected new ≡ collected old
Collects t names hs cache old new (Err cause) = collected new ≡ collected old
