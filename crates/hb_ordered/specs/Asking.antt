-- What is asked of the tables next, and which acts answer it.
use Rattle.std.specs.Prelude.{◌≡◌, ℕ, true, Option, Some, List, [], length, ◌≤◌}
use Rattle.hb_types.specs.declared.ids.CallNo.{CallNo}
use Rattle.hb_types.specs.declared.ids.KeyId.{KeyId}
use Rattle.hb_types.specs.declared.ids.BodySite.{BodySite}
use Rattle.hb_types.specs.declared.ids.TypeSite.{TypeSite}
use Rattle.hb_types.specs.declared.types.Ty.{Ty}
use Rattle.hb_types.specs.declared.types.MethodTy.{MethodTy}
use Rattle.hb_tree.specs.Table.{Table}
use Rattle.hb_names.specs.declared.names.TheConstants.{NAMES_MAX}
use Rattle.hb_names.specs.Names.{Name, place}
use Rattle.hb_tables.specs.declared.entry.Act.{Act}
use Rattle.hb_tables.specs.declared.entry.Act.TheVariants.{Hold, Free, Retype, Busy, WornType, Define, WornDef, Call}
use Rattle.hb_tables.specs.declared.entry.ArgKinds.{ArgKinds}
use Rattle.hb_tables.specs.declared.entry.Entry.{Entry}
use Rattle.hb_tables.specs.declared.entry.Verdict.{Verdict}
use Rattle.hb_tables.specs.History.{FitsAct, key_of, spot}
use Rattle.hb_tables.specs.Rows.{kinds_of, type_of_key}
use Rattle.hb_tables.specs.Verdicts.{takes}
use Rattle.hb_call.specs.Held.{HasCall}
use Rattle.hb_call.specs.Rules.{Began, EntersBy, FitsRules, GivesUp}

-- A `def` of a key by a site, and a `type` or a `type?`; the first part of a call; what follows in a call that has begun, with its key and the kinds of its arguments; one of the Frees that end it.
pub data Question : Type 0 where
  Defines : (key site : ℕ) → Question
  Declares : (key site : ℕ) → Question
  Starts : (q key : ℕ) → Question
  Goes : (q key : ℕ) (kinds : List Ty) → Question
  Ends : (q key : ℕ) → Question

-- The same is asked for two lists of names: a name has its key in each of them.
pub data AsksOne (names others : List Name) : Question → Question → Type 0 where
  DefineOne : (p : Name) (k j s : ℕ) → place names p ≡ Some k → place others p ≡ Some j → AsksOne names others (Defines k s) (Defines j s)
  DeclareOne : (p : Name) (k j s : ℕ) → place names p ≡ Some k → place others p ≡ Some j → AsksOne names others (Declares k s) (Declares j s)
  StartOne : (p : Name) (k j q : ℕ) → place names p ≡ Some k → place others p ≡ Some j → AsksOne names others (Starts q k) (Starts q j)
  GoOne : (q k : ℕ) (kinds : List Ty) → AsksOne names others (Goes q k kinds) (Goes q k kinds)
  EndOne : (q k : ℕ) → AsksOne names others (Ends q k) (Ends q k)

-- the act is one of those that may follow
pub data Answers : Question → Act → Type 0 where
  Defined : (key : KeyId) (site : BodySite) → Answers (Defines key.0 site.0) (Define key site)
  Undefined : (s : ℕ) (key : KeyId) → Answers (Defines key.0 s) (WornDef key)
  Retyped : (key : KeyId) (site : TypeSite) → Answers (Declares key.0 site.0) (Retype key site)
  Held : (s : ℕ) (key : KeyId) (pins : ℕ) → Answers (Declares key.0 s) (Busy key pins)
  Worn : (s : ℕ) (key : KeyId) → Answers (Declares key.0 s) (WornType key)
  Started : (q : CallNo) (key : KeyId) (ty : Option TypeSite) (changes : ℕ) → Answers (Starts q.0 key.0) (Hold key q ty changes)
  Looked : (k : ℕ) (kinds : List Ty) (q : CallNo) (key : KeyId) (ty : Option TypeSite) (changes : ℕ) → Answers (Goes q.0 k kinds) (Hold key q ty changes)
  GaveBack : (k : ℕ) (kinds : List Ty) (q : CallNo) (key : KeyId) → Answers (Goes q.0 k kinds) (Free key q)
  Decided : (kinds : List Ty) (args : ArgKinds) (q : CallNo) (key : KeyId) (site : Option BodySite) (v : Verdict) → kinds_of args ≡ kinds → Answers (Goes q.0 key.0 kinds) (Call key q site args v)
  Ended : (q : CallNo) (key : KeyId) → Answers (Ends q.0 key.0) (Free key q)

-- the method's type takes these arguments
abbrev pub TakesAt : Table → List Entry → ℕ → List Ty → Type 0
TakesAt t log k kinds = (m : MethodTy) × (type_of_key t log k ≡ Some m) × (takes m kinds ≡ true)

-- What a call does before its Call, it does for arguments that its method's type takes.
abbrev pub FitsArguments : Table → List Entry → Question → Act → Type 0
FitsArguments t log (Goes q k kinds) (Hold key p ty changes) = TakesAt t log k kinds
FitsArguments t log (Goes q k kinds) (Free key p) = TakesAt t log k kinds
FitsArguments t log _ _ = Unit {0}

-- The call q of a key has begun, and its definition is the same since. It was not decided, and has not given up.
pub record IsOpen (c q k : ℕ) (log : List Entry) : Type 0 where
  pub call : CallNo
  pub number : call.0 ≡ q
  pub key : KeyId
  pub key_is : key.0 ≡ k
  pub start : List Entry
  pub began : Began c call key start log
  pub same : (spot k log).redefs ≡ (spot k start).redefs
  pub undecided : HasCall c q log → ⊥
  pub goes_on : (p : CallNo) → p.0 ≡ q → GivesUp c p log → ⊥

-- where the question is asked
abbrev pub IsAsked : ℕ → List Entry → Question → Type 0
IsAsked c log (Goes q k kinds) = IsOpen c q k log
IsAsked c log _ = Unit {0}

-- Behind this list the act of the caller answers the question and fits the tables and the rules.
pub record IsAnswer (t : Table) (limit : ℕ) (names : List Name) (c : ℕ) (log : List Entry) (u : Question) (a : Act) : Type 0 where
  pub answers : Answers u a
  pub few : length names ≤ NAMES_MAX
  pub fits : FitsAct limit c (spot (key_of a) log) a
  pub rules : FitsRules t names c log a
  pub way : EntersBy c [] log a
