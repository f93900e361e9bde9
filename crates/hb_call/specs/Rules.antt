-- What is asked of each act of a caller, over the entries before it.
use Rattle.std.specs.Prelude.{◌≡◌, ◌⊎◌, ℕ, ◌+◌, ◌<◌, ◌≤◌, ◌==◌, cond, Bool, true, false, length, List, [], ◌∷◌, ◌++◌, Option, Some, map, Contains}
use mathlib.Core.List.{IsPrefix}
use Rattle.hb_types.specs.declared.types.MethodTy.{MethodTy}
use Rattle.hb_types.specs.declared.ids.CallNo.{CallNo}
use Rattle.hb_types.specs.declared.ids.KeyId.{KeyId}
use Rattle.hb_types.specs.declared.ids.BodySite.{BodySite}
use Rattle.hb_types.specs.declared.ids.TypeSite.{TypeSite}
use Rattle.hb_tree.specs.declared.parts.Body.{Body}
use Rattle.hb_tree.specs.Table.{Table}
use Rattle.hb_deriv.specs.Events.{looks}
use Rattle.hb_deriv.specs.Judge.{Key}
use Rattle.hb_names.specs.Names.{IsFull, Name, place}
use Rattle.hb_names.specs.declared.names.TheConstants.{NAMES_MAX}
use Rattle.hb_tables.specs.declared.entry.Entry.{Entry}
use Rattle.hb_tables.specs.declared.entry.Act.{Act}
use Rattle.hb_tables.specs.declared.entry.Act.TheVariants.{Hold, Free, Retype, Busy, WornType, Define, WornDef, Call}
use Rattle.hb_tables.specs.declared.entry.Verdict.{Verdict}
use Rattle.hb_tables.specs.declared.entry.Verdict.TheVariants as verdict
use Rattle.hb_tables.specs.declared.entry.By.{By}
use Rattle.hb_tables.specs.declared.entry.By.TheVariants as by
use Rattle.hb_tables.specs.History.{spot, times, entry}
use Rattle.hb_tables.specs.Standing.{Stand}
use Rattle.hb_tables.specs.Frames.{acts, KeepsHold}
use Rattle.hb_tables.specs.Names.{name_of}
use Rattle.hb_tables.specs.Rows.{FitsCall, HoldsName, body_at, type_of_key, types_in}
use Rattle.hb_tables.specs.Verdicts.{subject}
use Rattle.hb_call.specs.Held.{HasCall, stands}
use Rattle.hb_call.specs.Own.{OwnAgrees}

-- The call q of the caller c began with a Hold of the key, which ends the list `start`. It held nothing before it, and has not freed the key since.
pub record Began (c : ℕ) (q : CallNo) (key : KeyId) (start log : List Entry) : Type 0 where
  pub before : List Entry
  pub ty : Option TypeSite
  pub changes : ℕ
  pub is : start ≡ before ++ entry c (Hold key q ty changes) ∷ []
  pub none : stands c q.0 before ≡ []
  pub since : List Entry
  pub goes : start ++ since ≡ log
  pub keeps : KeepsHold q.0 key.0 (acts c since)

-- the key had this definition at some place from one list to a longer one
pub record HadBody (k : ℕ) (start log : List Entry) (site : Option BodySite) : Type 0 where
  pub at : List Entry
  pub from : IsPrefix start at
  pub to : IsPrefix at log
  pub is : site ≡ (spot k at).body

-- The next look of the call q: the first of the looks that q does not hold. The looks are those of a check behind this list, of a definition that the key of q had since q began, at the key's type.
pub record IsNextLook (t : Table) (names : List Name) (c : ℕ) (q : CallNo) (log : List Entry) (next : Key) : Type 0 where
  pub key : KeyId
  pub start : List Entry
  pub began : Began c q key start log
  pub name : Name
  pub named : place names name ≡ Some key.0
  pub site : Option BodySite
  pub had : HadBody key.0 start log site
  pub body : Body
  pub defined : body_at t site ≡ Some body
  pub declared : MethodTy
  pub typed : type_of_key t log key.0 ≡ Some declared
  pub held : List Key
  pub others : List Key
  pub order : looks (types_in t names log) (subject t name.0 body declared) ≡ held ++ next ∷ others
  pub holds : (p : Name) → Contains (map (name_of t) held) p → HoldsName names log (c, q.0) p

-- The key is that of the next look.
pub record HoldsNext (t : Table) (names : List Name) (c : ℕ) (q : CallNo) (key : KeyId) (log : List Entry) : Type 0 where
  pub look : Key
  pub next : IsNextLook t names c q log look
  pub is : place names (name_of t look) ≡ Some key.0

-- a call that holds nothing holds its method's key, and then the keys of its looks in their order
abbrev pub FitsHold : Table → List Name → ℕ → List Entry → Act → Type 0
FitsHold t names c log (Hold key q ty changes) = (stands c q.0 log ≡ []) ⊎ HoldsNext t names c q key log
FitsHold t names c log (Free key q) = Unit {0}
FitsHold t names c log (Retype key site) = Unit {0}
FitsHold t names c log (Busy key pins) = Unit {0}
FitsHold t names c log (WornType key) = Unit {0}
FitsHold t names c log (Define key site) = Unit {0}
FitsHold t names c log (WornDef key) = Unit {0}
FitsHold t names c log (Call key q site args verdict) = Unit {0}

-- how many runs of Frees by q there are in these acts, where `going` tells that one is going on
abbrev pub runs : ℕ → Bool → List Act → ℕ
runs q going [] = 0
runs q going (Hold key p ty changes ∷ l) = cond (q == p.0) (runs q false l) (runs q going l)
runs q going (Free key p ∷ l) = cond (q == p.0) (cond going 0 1 + runs q true l) (runs q going l)
runs q going (Retype key site ∷ l) = runs q going l
runs q going (Busy key pins ∷ l) = runs q going l
runs q going (WornType key ∷ l) = runs q going l
runs q going (Define key site ∷ l) = runs q going l
runs q going (WornDef key ∷ l) = runs q going l
runs q going (Call key p site args verdict ∷ l) = runs q going l

-- The call q gives back the next of the keys that it holds behind its first one. It retreats at most as often as the definition of its first key was changed since it began.
pub record Retreats (c : ℕ) (q : CallNo) (key : KeyId) (log : List Entry) : Type 0 where
  pub first : KeyId
  pub start : List Entry
  pub began : Began c q first start log
  pub own : Stand
  pub next : Stand
  pub others : List Stand
  pub held : stands c q.0 log ≡ own ∷ next ∷ others
  pub is : key.0 ≡ next.key
  pub few : runs q.0 false (acts c began.since ++ Free key q ∷ []) + (spot first.0 start).redefs ≤ (spot first.0 log).redefs

-- whether the last part that q had in these acts is a Free, where `going` tells it of what was before
abbrev pub gives : ℕ → Bool → List Act → Bool
gives q going [] = going
gives q going (Hold key p ty changes ∷ l) = gives q (cond (q == p.0) false going) l
gives q going (Free key p ∷ l) = gives q (cond (q == p.0) true going) l
gives q going (Retype key site ∷ l) = gives q going l
gives q going (Busy key pins ∷ l) = gives q going l
gives q going (WornType key ∷ l) = gives q going l
gives q going (Define key site ∷ l) = gives q going l
gives q going (WornDef key ∷ l) = gives q going l
gives q going (Call key p site args verdict ∷ l) = gives q going l

-- a call that gave keys back holds one key
abbrev pub IsWhole : ℕ → ℕ → List Entry → Type 0
IsWhole c q log = gives q false (acts c log) ≡ true → (own : Stand) × (stands c q log ≡ own ∷ [])

-- The call q gives back its first key, since the list of names is full for its next look. What else it holds are keys of the looks before that.
pub record IsFullRightly (t : Table) (names : List Name) (c : ℕ) (q : CallNo) (key : KeyId) (log : List Entry) : Type 0 where
  pub look : Key
  pub next : IsNextLook t names c q log look
  pub own : next.key ≡ key
  pub full : length names ≤ NAMES_MAX → IsFull names (name_of t look)
  pub only : (j : ℕ) → times (c, q.0) (spot j log).calls ≡ 1 → (j ≡ key.0) ⊎ ((p : Name) × Contains (map (name_of t) next.held) p × (place names p ≡ Some j))
  pub whole : IsWhole c q.0 log

-- The call q has given back its first key.
pub record GivesUp (c : ℕ) (q : CallNo) (log : List Entry) : Type 0 where
  pub key : KeyId
  pub start : List Entry
  pub at : List Entry
  pub began : Began c q key start at
  pub since : List Entry
  pub is : log ≡ at ++ entry c (Free key q) ∷ since

-- a call gives keys back behind its Call, as it retreats, or where the list of names is full
abbrev pub FitsFree : Table → List Name → ℕ → List Entry → Act → Type 0
FitsFree t names c log (Free key q) = HasCall c q.0 log ⊎ (Retreats c q key log ⊎ (IsFullRightly t names c q key log ⊎ GivesUp c q log))
FitsFree t names c log (Hold key q ty changes) = Unit {0}
FitsFree t names c log (Retype key site) = Unit {0}
FitsFree t names c log (Busy key pins) = Unit {0}
FitsFree t names c log (WornType key) = Unit {0}
FitsFree t names c log (Define key site) = Unit {0}
FitsFree t names c log (WornDef key) = Unit {0}
FitsFree t names c log (Call key q site args verdict) = Unit {0}

-- a retreat is whole before its call goes on
abbrev pub FitsWhole : ℕ → List Entry → Act → Type 0
FitsWhole c log (Hold key q ty changes) = (stands c q.0 log ≡ []) ⊎ IsWhole c q.0 log
FitsWhole c log (Free key q) = Unit {0}
FitsWhole c log (Retype key site) = Unit {0}
FitsWhole c log (Busy key pins) = Unit {0}
FitsWhole c log (WornType key) = Unit {0}
FitsWhole c log (Define key site) = Unit {0}
FitsWhole c log (WornDef key) = Unit {0}
FitsWhole c log (Call key q site args verdict) = IsWhole c q.0 log

-- An act that needs a key has that of one of the names. A Free and a Call have theirs from before.
abbrev pub HasName : List Name → Act → Type 0
HasName names (Hold key q ty changes) = key.0 < length names
HasName names (Free key q) = Unit {0}
HasName names (Retype key site) = key.0 < length names
HasName names (Busy key pins) = key.0 < length names
HasName names (WornType key) = key.0 < length names
HasName names (Define key site) = key.0 < length names
HasName names (WornDef key) = key.0 < length names
HasName names (Call key q site args verdict) = Unit {0}

-- A body is entered by an own check exactly where there is one that agrees, and else by a fresh one. Own are the checks of the caller's machine, before whose acts these stand.
abbrev pub IsWay : ℕ → (past : List Act) → ℕ → List Entry → By → Type 0
IsWay c past k before by.Own = OwnAgrees c past k before
IsWay c past k before by.Fresh = OwnAgrees c past k before → ⊥
IsWay c past k before by.Shared = ⊥

-- the way of a verdict that enters is the right one
abbrev pub IsRightWay : ℕ → (past : List Act) → ℕ → List Entry → Verdict → Type 0
IsRightWay c past k before (verdict.Enter way) = IsWay c past k before way
IsRightWay c past k before verdict.NoBody = Unit {0}
IsRightWay c past k before verdict.NoType = Unit {0}
IsRightWay c past k before verdict.BadArgs = Unit {0}
IsRightWay c past k before (verdict.IllTyped f) = Unit {0}

-- a Call that enters does so by an own check exactly where there is one that agrees
abbrev pub EntersBy : ℕ → (past : List Act) → List Entry → Act → Type 0
EntersBy c past before (Call key q site args v) = IsRightWay c past key.0 before v
EntersBy c past before (Hold key q ty changes) = Unit {0}
EntersBy c past before (Free key q) = Unit {0}
EntersBy c past before (Retype key site) = Unit {0}
EntersBy c past before (Busy key pins) = Unit {0}
EntersBy c past before (WornType key) = Unit {0}
EntersBy c past before (Define key site) = Unit {0}
EntersBy c past before (WornDef key) = Unit {0}

-- A Call is decided as its row says, keys are those of names and are held in the order of the looks, and are given back in a retreat or at the end alone. Which check a Call enters by is a rule of its own.
pub record FitsRules (t : Table) (names : List Name) (c : ℕ) (before : List Entry) (a : Act) : Type 0 where
  pub row : FitsCall t names c before a
  pub hold : FitsHold t names c before a
  pub free : FitsFree t names c before a
  pub whole : FitsWhole c before a
  pub named : HasName names a
