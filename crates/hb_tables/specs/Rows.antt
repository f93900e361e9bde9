-- A Call's row: what stands in it is the verdict in the tables before it.
use Rattle.std.specs.Prelude.{◌≡◌, ℕ, ◌-◌, Option, Some, None, List, ◌∷◌, ◌++◌, length, map, replicate, take, slice_get, Contains}
use Rattle.std.specs.Option.{option_map}
use Rattle.hb_types.specs.declared.types.Ty.{Ty}
use Rattle.hb_types.specs.declared.types.Ty.TheVariants as ty
use Rattle.hb_types.specs.declared.types.TheConstants.{PARAMS_MAX}
use Rattle.hb_types.specs.declared.types.MethodTy.{MethodTy}
use Rattle.hb_types.specs.declared.ids.BodySite.{BodySite}
use Rattle.hb_tree.specs.declared.parts.Body.{Body}
use Rattle.hb_tree.specs.Table.{Table}
use Rattle.hb_deriv.specs.Judge.{Key, Types}
use Rattle.hb_deriv.specs.Derivation.{type_at}
use Rattle.hb_deriv.specs.Programs.{sites_of}
use Rattle.hb_tables.specs.declared.entry.ArgKinds.{ArgKinds}
use Rattle.hb_tables.specs.declared.entry.Entry.{Entry}
use Rattle.hb_tables.specs.declared.entry.Act.{Act}
use Rattle.hb_tables.specs.declared.entry.Act.TheVariants.{Hold, Free, Retype, Busy, WornType, Define, WornDef, Call}
use Rattle.hb_tables.specs.declared.entry.Verdict.{Verdict}
use Rattle.hb_tables.specs.History.{spot, times, Every, IsLegal}
use Rattle.hb_names.specs.Names.{Name, place}
use Rattle.hb_tables.specs.Names.{name_of, key_in}
use Rattle.hb_tables.specs.Verdicts.{verdict_of, as_fresh, looks_of}

-- the site of the type of a key, where there is a key
abbrev pub site_in : List Entry → Option ℕ → Option ℕ
site_in log None = None
site_in log (Some k) = option_map (λ s. s.0) (spot k log).ty

-- the body at a site, where it is one of the program
abbrev pub body_at : Table → Option BodySite → Option Body
body_at t None = None
body_at t (Some site) = slice_get t.bodies site.0

-- the sites of the types that methods have after a list
abbrev pub declared_in : Table → List Name → List Entry → Key → Option ℕ
declared_in t names log k = site_in log (key_in t names k)

-- the types that methods have after a list
abbrev pub types_in : Table → List Name → List Entry → Types
types_in t names log k = type_at (sites_of t) (declared_in t names log k)

-- the type of a key after a list
abbrev pub type_of_key : Table → List Entry → ℕ → Option MethodTy
type_of_key t log k = type_at (sites_of t) (site_in log (Some k))

abbrev pub kinds_of : ArgKinds → List Ty
kinds_of args = take args.count args.kinds

-- these kinds, and behind them Nil
abbrev pub fill : List Ty → ArgKinds
fill kinds = record { count = length kinds; kinds = kinds ++ replicate (PARAMS_MAX - length kinds) ty.Nil }

-- what stands past the kinds that count is Nil
abbrev pub IsFilled : ArgKinds → Type 0
IsFilled args = args ≡ fill (kinds_of args)

-- what a fresh check of a call comes to behind a list
abbrev pub verdict_in : Table → List Name → List Entry → Name → (key : ℕ) → Option BodySite → List Ty → Verdict
verdict_in t names log name key site kinds = verdict_of t (types_in t names log) name.0 (body_at t site) (type_of_key t log key) kinds

-- the methods on whose types that rests: the called one, and those at which the check looks
abbrev pub needs_in : Table → List Name → List Entry → Name → (key : ℕ) → Option BodySite → List Ty → List Name
needs_in t names log name key site kinds = name ∷ map (name_of t) (looks_of t (types_in t names log) name.0 (body_at t site) (type_of_key t log key) kinds)

-- the call x, a caller and a number, holds the name's key
abbrev pub HoldsName : List Name → List Entry → ℕ × ℕ → Name → Type 0
HoldsName names log x p = (j : ℕ) × (place names p ≡ Some j) × (times x (spot j log).calls ≡ 1)

-- The call x of a key is decided behind this list: by its verdict there, with exactly the keys held on which that rests.
pub record IsDecided (t : Table) (names : List Name) (log : List Entry) (x : ℕ × ℕ) (key : ℕ) (site : Option BodySite) (kinds : List Ty) (v : Verdict) : Type 0 where
  pub name : Name
  pub is : place names name ≡ Some key
  pub defined : site ≡ (spot key log).body
  pub rules : as_fresh v ≡ verdict_in t names log name key site kinds
  pub held : (p : Name) → Contains (needs_in t names log name key site kinds) p → HoldsName names log x p
  pub only : (j : ℕ) → times x (spot j log).calls ≡ 1 → (p : Name) × Contains (needs_in t names log name key site kinds) p × (place names p ≡ Some j)

-- a Call is decided, and tells nothing but its arguments' kinds
abbrev pub FitsCall : Table → List Name → ℕ → List Entry → Act → Type 0
FitsCall t names c log (Call key q site args v) = IsDecided t names log (c, q.0) key.0 site (kinds_of args) v × IsFilled args
FitsCall t names c log (Hold key q ty changes) = Unit {0}
FitsCall t names c log (Free key q) = Unit {0}
FitsCall t names c log (Retype key site) = Unit {0}
FitsCall t names c log (Busy key pins) = Unit {0}
FitsCall t names c log (WornType key) = Unit {0}
FitsCall t names c log (Define key site) = Unit {0}
FitsCall t names c log (WornDef key) = Unit {0}

-- each Call is decided behind the entries before it
abbrev pub HasCallRows : Table → List Name → List Entry → Type 0
HasCallRows t names log = Every (λ before e. FitsCall t names e.caller.0 before e.act) log

-- a legal list of the program, for a limit of changes and a list of names
pub record IsLegalFor (limit : ℕ) (t : Table) (names : List Name) (log : List Entry) : Type 0 where
  pub legal : IsLegal limit log
  pub calls : HasCallRows t names log
