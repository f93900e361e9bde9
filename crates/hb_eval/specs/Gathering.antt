-- What is collected of the checks that a script makes, by its acts.
use Rattle.std.specs.Prelude.{◌≡◌, ℕ, ◌<◌, ◌≤◌, List, [], ◌∷◌, ◌++◌, length, Option, Some, None}
use Rattle.hb_types.specs.declared.ids.BodySite.{BodySite}
use Rattle.hb_tree.specs.Table.{Table}
use Rattle.hb_deriv.specs.declared.raw.Derivation.{Derivation}
use Rattle.hb_deriv.specs.Derivation.{content_of}
use Rattle.hb_deriv.specs.Programs.{IsFor}
use Rattle.hb_names.specs.Names.{Name, place}
use Rattle.hb_tables.specs.declared.entry.Entry.{Entry}
use Rattle.hb_tables.specs.declared.entry.Act.{Act}
use Rattle.hb_tables.specs.declared.entry.Act.TheVariants.{Call}
use Rattle.hb_tables.specs.declared.entry.Verdict.{Verdict}
use Rattle.hb_tables.specs.declared.entry.Verdict.TheVariants as verdict
use Rattle.hb_tables.specs.declared.entry.By.TheVariants as by
use Rattle.hb_tables.specs.Standing.{Stand, standing}
use Rattle.hb_tables.specs.Frames.{acts}
use Rattle.hb_call.specs.declared.share.Share.{Share}
use Rattle.hb_call.specs.declared.share.TheConstants.{COLLECTED_MAX}
use Rattle.hb_call.specs.Sharing.{Found, FoundUses, collected}

-- The derivation is for the program, of the class of the key's name and of the body of this site. Its sites are those that the Holds found which stand for a call of the key.
pub record IsMadeBy (t : Table) (names : List Name) (held : List Stand) (k : ℕ) (site : BodySite) (d : Derivation) : Type 0 where
  pub good : IsFor t (content_of d)
  pub name : Name
  pub named : place names name ≡ Some k
  pub class : name.0 ≡ d.class.0
  pub body : d.body ≡ site
  pub declared : Found held k d.declared
  pub uses : FoundUses t names held d.uses.items

-- one derivation comes last
pub record TakesLast (t : Table) (names : List Name) (held : List Stand) (k : ℕ) (site : BodySite) (old : List Derivation) (new : Option (List Derivation)) : Type 0 where
  pub derivation : Derivation
  pub made : IsMadeBy t names held k site derivation
  pub last : new ≡ Some (old ++ derivation ∷ [])

-- it comes where fewer are collected than may be
abbrev pub TakesOne : Table → List Name → List Stand → ℕ → BodySite → (old new : Option (List Derivation)) → Type 0
TakesOne t names held k site None new = new ≡ None
TakesOne t names held k site (Some old) new = (length old < COLLECTED_MAX → TakesLast t names held k site old new) × (COLLECTED_MAX ≤ length old → new ≡ Some old)

-- what a call adds that was decided so, where these are its Holds: its derivation, if it entered on a fresh check
abbrev pub GathersCall : Table → List Name → List Stand → ℕ → Verdict → Option BodySite → (old new : Option (List Derivation)) → Type 0
GathersCall t names held k (verdict.Enter by.Fresh) (Some site) old new = TakesOne t names held k site old new
GathersCall t names held k v site old new = new ≡ old

-- what an act adds behind these acts: no act but a Call adds anything
abbrev pub GathersOne : Table → List Name → (before : List Act) → Act → (old new : Option (List Derivation)) → Type 0
GathersOne t names before (Call key q site args v) old new = GathersCall t names (standing q.0 before) key.0 v site old new
GathersOne t names before _ old new = new ≡ old

-- what these acts add, one behind the other
abbrev pub Gathers : Table → List Name → (before : List Act) → List Act → (old new : Option (List Derivation)) → Type 0
Gathers t names before [] old new = new ≡ old
Gathers t names before (a ∷ l) old new = (mid : Option (List Derivation)) × GathersOne t names before a old mid × Gathers t names (before ++ a ∷ []) l mid new

-- Some acts came to the caller's own, and this is what they added to what is collected.
pub record Shares (t : Table) (names : List Name) (c : ℕ) (past now : List Entry) (old new : Share) : Type 0 where
  pub made : List Act
  pub grows : acts c now ≡ acts c past ++ made
  pub gathers : Gathers t names (acts c past) made (collected old) (collected new)
