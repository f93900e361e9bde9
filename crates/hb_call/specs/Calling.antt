-- A call that is being decided: what it answers while its body is checked, and what is kept.
use Rattle.std.specs.Prelude.{◌≡◌, ℕ, ◌+◌, ◌<◌, ◌≤◌, ◌⊎◌, Bool, true, false, List, [], ◌∷◌, ◌++◌, length, map, slice_get, Option, Some, None, nat_eq, if◌then◌else◌}
use mathlib.Core.List.{IsPrefix}
use Rattle.hb_types.specs.declared.types.TheConstants.{PARAMS_MAX}
use Rattle.hb_types.specs.declared.ids.CallNo.{CallNo}
use Rattle.hb_types.specs.declared.ids.ClassId.{ClassId}
use Rattle.hb_types.specs.declared.ids.KeyId.{KeyId}
use Rattle.hb_types.specs.declared.ids.TypeSite.{TypeSite}
use Rattle.hb_tree.specs.Table.{Table}
use Rattle.hb_cache.specs.declared.kept.Kept.{Kept}
use Rattle.hb_check.specs.Asked.{Asked, Refusal, asked, refusal}
use Rattle.hb_names.specs.Names.{Name, Differ, IsFull, place}
use Rattle.hb_names.specs.declared.names.TheConstants.{NAMES_MAX}
use Rattle.hb_check.specs.declared.lookup.LookFail.TheVariants as look
use Rattle.hb_tables.specs.declared.entry.Entry.{Entry}
use Rattle.hb_tables.specs.declared.entry.Act.{Act}
use Rattle.hb_tables.specs.declared.entry.Act.TheVariants.{Hold, Free, Retype, Busy, WornType, Define, WornDef, Call}
use Rattle.hb_tables.specs.declared.entry.ArgKinds.{ArgKinds}
use Rattle.hb_tables.specs.Answers.{Fixed, IsLookAt}
use Rattle.hb_tables.specs.declared.desk.Held.{Held}
use Rattle.hb_tables.specs.declared.desk.Look.{Look}
use Rattle.hb_types.specs.declared.ids.BodySite.{BodySite}
use Rattle.hb_tables.specs.Frames.{acts, KeepsHold, StaysLive}
use Rattle.hb_tables.specs.History.{spot, times, Adds, IsLegal}
use Rattle.hb_tables.specs.Names.{name_of}
use Rattle.hb_tables.specs.Rows.{IsFilled, kinds_of}
use Rattle.hb_call.specs.declared.answers.Answer.{Answer}
use Rattle.hb_call.specs.declared.answers.Refused.{Refused}
use Rattle.hb_call.specs.Reading.{decision, call_of, takes_at}
use Rattle.hb_call.specs.Held.{HasRoom, Holds, stands}
use Rattle.hb_call.specs.Growth.{EachNew, Grown, Grows}
use Rattle.hb_call.specs.Rules.{Began, FitsRules, HadBody, IsWhole, runs}

abbrev pub answers_of : List Answer → List Asked
answers_of answers = map (λ a. asked a.class a.name a.held.ty) answers

abbrev pub refusal_of : Option Refused → Option Refusal
refusal_of None = None
refusal_of (Some r) = Some (refusal r.class r.name r.cause)

-- an answer tells of the key
abbrev pub IsAmong : ℕ → List Answer → Type 0
IsAmong k [] = ⊥
IsAmong k (a ∷ answers) = (k ≡ a.key.0) ⊎ IsAmong k answers

-- what an answer tells of a key
abbrev pub held_among : List Answer → ℕ → Option Held
held_among [] k = None
held_among (a ∷ answers) k = if nat_eq a.key.0 k then Some a.held else held_among answers k

-- the key is one of these
abbrev pub has_key : List KeyId → ℕ → Bool
has_key [] k = false
has_key (key ∷ keys) k = if nat_eq key.0 k then true else has_key keys k

-- the call x holds the key, and these are its type and its count
abbrev pub HasType : List Entry → ℕ × ℕ → ℕ → Held → Type 0
HasType log x k held = (times x (spot k log).calls ≡ 1) × (held.ty ≡ (spot k log).ty) × (held.changes ≡ (spot k log).changes)

-- each answer is the type of its method's key, which the call x holds
abbrev pub AreTrue : Table → List Name → List Entry → ℕ × ℕ → List Answer → Type 0
AreTrue t names log x [] = Unit {0}
AreTrue t names log x (a ∷ answers) = (place names (name_of t (a.class.0, a.name.0)) ≡ Some a.key.0) × HasType log x a.key.0 a.held × AreTrue t names log x answers

-- the name of the key was asked for
pub record IsAskedFor (names asked : List Name) (k : ℕ) : Type 0 where
  pub name : Name
  pub named : slice_get names k ≡ Some name
  pub at : ℕ
  pub there : place asked name ≡ Some at

-- What is kept while the call q of the caller c is decided: it holds its own key and those that it answered for, and no others. The names of these were asked for.
pub record IsCalling (t : Table) (door : Fixed) (q : ℕ) (names asked : List Name) (log : List Entry) (key : KeyId) (own : Held) (held : List KeyId) (answers : List Answer) : Type 0 where
  pub legal : IsLegal door.limit log
  pub room : HasRoom log door.caller q
  pub holds : Holds door.caller q held log
  pub first : (others : List KeyId) × (held ≡ key ∷ others)
  pub own_is : HasType log (door.caller, q) key.0 own
  pub answered : AreTrue t names log (door.caller, q) answers
  pub only : (k : ℕ) → times (door.caller, q) (spot k log).calls ≡ 1 → (k ≡ key.0) ⊎ IsAmong k answers
  pub asked_for : (k : ℕ) → times (door.caller, q) (spot k log).calls ≡ 1 → IsAskedFor names asked k
  pub whole : IsWhole door.caller q log

-- The call held the key before, or holds it from here on. This is what the hold found.
abbrev pub IsHeldFrom : ℕ → CallNo → KeyId → Held → List Entry → List Entry → Type 0
IsHeldFrom c q key held old new = ((new ≡ old) × HasType old (c, q.0) key.0 held) ⊎ Adds c old new (Hold key q held.ty held.changes)

-- where the list of names was full for a method, it is so, and the method's name is none of them
abbrev pub IsRefusedRightly : Table → List Name → Option Refused → Type 0
IsRefusedRightly t names None = Unit {0}
IsRefusedRightly t names (Some r) = r.cause ≡ look.Full → IsFull names (name_of t (r.class.0, r.name.0))

-- what the call was given, which stays
pub record Given : Type 0 where
  pub t : Table
  pub door : Fixed
  pub q : CallNo
  pub key : KeyId
  pub own : Held
  pub class : ClassId
  pub args : ArgKinds
  pub cache : List (Option Kept)
  pub desk : ℕ
  pub names : ℕ
  pub answers : ℕ

abbrev pub IsSame : Given → Given → Type 0
IsSame g h = g ≡ h

-- the type that the own key has takes the arguments
abbrev pub fits_of : Given → Bool
fits_of g = takes_at g.t g.own.ty (kinds_of g.args)

-- As far as it goes, the acts of the call that were made since the start are those of a decision, whatever comes behind.
pub record Begun (g : Given) (start log : List Entry) : Type 0 where
  pub made : List Act
  pub grows : acts g.door.caller log ≡ acts g.door.caller start ++ made
  pub reads : (l : List Act) → call_of g.t g.q.0 g.key.0 (kinds_of g.args) (made ++ l) ≡ decision (fits_of g) g.q.0 g.key.0 (kinds_of g.args) (stands g.door.caller g.q.0 log) l

-- a call whose type does not take the arguments did nothing meanwhile, and holds its own key alone
abbrev pub StaysUnfit : Given → (old new : List Entry) → List KeyId → Type 0
StaysUnfit g old new held = fits_of g ≡ false → (acts g.door.caller new ≡ acts g.door.caller old) × (held ≡ g.key ∷ [])

-- the list goes on with acts among which the call frees nothing
abbrev pub IsLive : ℕ → ℕ → List Entry → List Entry → Type 0
IsLive c q old new = (rest : List Entry) × (old ++ rest ≡ new) × StaysLive q (acts c rest)

-- the act is a Hold or a Free of the call q
abbrev pub IsPart : CallNo → Act → Type 0
IsPart q (Hold key p ty changes) = p ≡ q
IsPart q (Free key p) = p ≡ q
IsPart q (Retype key site) = ⊥
IsPart q (Busy key pins) = ⊥
IsPart q (WornType key) = ⊥
IsPart q (Define key site) = ⊥
IsPart q (WornDef key) = ⊥
IsPart q (Call key p site args verdict) = ⊥

-- each of the acts is a Hold or a Free of the call q
abbrev pub AreParts : CallNo → List Act → Type 0
AreParts q [] = Unit {0}
AreParts q (a ∷ l) = IsPart q a × AreParts q l

-- the names that are known, those that were asked for, and the entries at one time
pub record Moment : Type 0 where
  pub known : List Name
  pub asked : List Name
  pub log : List Entry

-- Names and entries went on, and no other call of the caller had a part in it.
pub record Went (g : Given) (was is : Moment) : Type 0 where
  pub named : IsPrefix was.known is.known
  pub few : length was.known ≤ NAMES_MAX → length is.known ≤ NAMES_MAX
  pub differ : Differ was.known → Differ is.known
  pub kept : IsPrefix was.log is.log
  pub legal : IsLegal g.door.limit was.log → IsLegal g.door.limit is.log
  pub others : (p : ℕ) → (p ≡ g.q.0 → ⊥) → stands g.door.caller p is.log ≡ stands g.door.caller p was.log

-- what came fits the rules, and the names asked for are those of it
abbrev pub Grew : Given → Moment → Moment → Type 0
Grew g was is = Grown g.t g.door.caller is.known was.asked is.asked was.log is.log

-- each act of the caller that came fits the rules
abbrev pub FitsSince : Given → Moment → Moment → Type 0
FitsSince g was is = EachNew (FitsRules g.t is.known g.door.caller) g.door.caller was.log is.log

-- names and entries went on, and with them the decision of the call
pub record Goes (g : Given) (was is : Moment) : Type 0 where
  pub went : Went g was is
  pub grew : Grows g.door.caller is.known was.asked is.asked was.log is.log
  pub keeps : KeepsHold g.q.0 g.key.0 grew.made
  pub parts : AreParts g.q grew.made
  pub begun : fits_of g ≡ true → (start : List Entry) → Begun g start was.log → Begun g start is.log

pub record IsAlike (g h : Given) (was is : Moment) : Type 0 where
  pub same : g ≡ h
  pub goes : Goes g was is

-- The act is the Hold of an answer's key, behind entries where the answers before it are true.
pub record HoldsAnswer (t : Table) (names : List Name) (c : ℕ) (q : CallNo) (answers : List Answer) (log : List Entry) (a : Act) : Type 0 where
  pub first : List Answer
  pub answer : Answer
  pub rest : List Answer
  pub among : answers ≡ first ++ answer ∷ rest
  pub told : AreTrue t names log (c, q.0) first
  pub named : place names (name_of t (answer.class.0, answer.name.0)) ≡ Some answer.key.0
  pub ty : Option TypeSite
  pub changes : ℕ
  pub is : a ≡ Hold answer.key q ty changes
  pub whole : IsWhole c q.0 log

-- answers were added, and what came are Holds of their keys
pub record IsAsking (g : Given) (was is : Moment) (old new : List Answer) : Type 0 where
  pub more : List Answer
  pub grows : new ≡ old ++ more
  pub holds : EachNew (HoldsAnswer g.t is.known g.door.caller g.q new) g.door.caller was.log is.log

-- The call began and has this definition from a place behind that.
pub record HasBody (c : ℕ) (q : CallNo) (key : KeyId) (site : Option BodySite) (log : List Entry) : Type 0 where
  pub start : List Entry
  pub began : Began c q key start log
  pub had : HadBody key.0 start log site

-- The call began and looked at its definition behind that.
pub record HasLooked (c : ℕ) (q : CallNo) (key : KeyId) (seen : Look) (log : List Entry) : Type 0 where
  pub start : List Entry
  pub began : Began c q key start log
  pub at : List Entry
  pub from : IsPrefix start at
  pub to : IsPrefix at log
  pub is : IsLookAt key.0 seen at
  -- the call retreated at most as often as the definition was changed up to the look
  pub few : runs q.0 false (acts c began.since) + (spot key.0 start).redefs ≤ seen.changes

-- The call began and may retreat once more.
pub record MayRetreat (c : ℕ) (q : CallNo) (key : KeyId) (log : List Entry) : Type 0 where
  pub start : List Entry
  pub began : Began c q key start log
  pub few : runs q.0 false (acts c began.since) + (spot key.0 start).redefs < (spot key.0 log).redefs

-- so many kinds as may be, some of which count, and Nil behind them
abbrev pub IsArgKinds : ArgKinds → Type 0
IsArgKinds args = (args.count ≤ PARAMS_MAX) × IsFilled args
