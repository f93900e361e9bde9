-- What the entry into a call comes to.
use Rattle.std.specs.Prelude.{◌≡◌, ◌⊎◌, ℕ, true, List, [], ◌++◌, Option, Some, Result, Ok, Err}
use mathlib.Core.List.{IsPrefix}
use Rattle.hb_types.specs.declared.ids.CallNo.{CallNo}
use Rattle.hb_types.specs.declared.ids.ClassId.{ClassId}
use Rattle.hb_types.specs.declared.ids.KeyId.{KeyId}
use Rattle.hb_types.specs.declared.ids.BodySite.{BodySite}
use Rattle.hb_tree.specs.Table.{Table}
use Rattle.hb_names.specs.Names.{Name, place, IsFull, with_name}
use Rattle.hb_tables.specs.declared.entry.ArgKinds.{ArgKinds}
use Rattle.hb_tables.specs.declared.entry.Act.{Act}
use Rattle.hb_tables.specs.declared.entry.Entry.{Entry}
use Rattle.hb_tables.specs.declared.entry.Verdict.{Verdict}
use Rattle.hb_tables.specs.declared.entry.Verdict.TheVariants as verdict
use Rattle.hb_tables.specs.declared.entry.By.TheVariants as by
use Rattle.hb_tables.specs.Answers.{Fixed}
use Rattle.hb_tables.specs.Frames.{acts, StaysLive}
use Rattle.hb_tables.specs.Rows.{kinds_of}
use Rattle.hb_call.specs.declared.frame.CallFail.{CallFail}
use Rattle.hb_call.specs.declared.frame.CallFail.TheVariants as fail
use Rattle.hb_call.specs.declared.ruling.Ended.{Ended}
use Rattle.hb_call.specs.declared.ruling.Ended.TheVariants as ended
use Rattle.hb_call.specs.declared.frame.Frame.{Frame}
use Rattle.hb_deriv.specs.declared.raw.Derivation.{Derivation}
use Rattle.hb_call.specs.declared.frame.Entered.{Entered}
use Rattle.hb_call.specs.declared.frame.Entered.TheVariants as entered
use Rattle.hb_call.specs.Held.{HasCall, Holds, frees, stands}
use Rattle.hb_call.specs.Reading.{call_of, FullAt}
use Rattle.hb_call.specs.Calling.{Begun, Given, fits_of}
use Rattle.hb_call.specs.declared.answers.Answer.{Answer}
use Rattle.hb_call.specs.OwnCache.{IsOwnCache}
use Rattle.hb_call.specs.Deciding.{Decided, IsResting}
use Rattle.hb_call.specs.Rules.{IsFullRightly}

-- who calls what, with which arguments
pub record Asks : Type 0 where
  pub t : Table
  pub door : Fixed
  pub q : CallNo
  pub class : ClassId
  pub bytes : List ℕ
  pub args : ArgKinds

-- The call was decided with this verdict on this definition, and holds these keys then.
pub record IsDecidedOf (a : Asks) (names : List Name) (old mid : List Entry) (key : KeyId) (v : Verdict) (site : Option BodySite) (held : List KeyId) : Type 0 where
  pub given : Given
  pub program : given.t ≡ a.t
  pub door : given.door ≡ a.door
  pub q : given.q ≡ a.q
  pub class : given.class ≡ a.class
  pub args : given.args ≡ a.args
  pub called : given.key ≡ key
  pub named : place names (a.class.0, a.bytes) ≡ Some key.0
  pub first : List Entry
  pub begun : Begun given old first
  pub decided : Decided given names first mid v site
  pub holds : Holds a.door.caller a.q.0 held mid

-- The call was refused: it gave back all that it held.
pub record IsRefused (a : Asks) (names : List Name) (old new : List Entry) (v : Verdict) : Type 0 where
  pub mid : List Entry
  pub key : KeyId
  pub site : Option BodySite
  pub held : List KeyId
  pub decided : IsDecidedOf a names old mid key v site held
  pub kept : IsPrefix mid new
  pub freed : acts a.door.caller new ≡ acts a.door.caller mid ++ frees a.q held
  pub none : stands a.door.caller a.q.0 new ≡ []

-- The list of names is full, and the called method is none of them. Nothing was done.
pub record IsFullAtOnce (a : Asks) (names : List Name) (old new : List Entry) : Type 0 where
  pub full : IsFull names (a.class.0, a.bytes)
  pub same : new ≡ old

-- Its type takes the arguments, and a method that the call needs is none of the names, and their list is full. The call gave back all that it held.
pub record IsFullLater (a : Asks) (names : List Name) (old new : List Entry) : Type 0 where
  pub key : KeyId
  pub named : place names (a.class.0, a.bytes) ≡ Some key.0
  pub full : (name : Name) × IsFull names name
  pub made : List Act
  pub grows : acts a.door.caller new ≡ acts a.door.caller old ++ made
  pub reads : (l : List Act) → call_of a.t a.q.0 key.0 (kinds_of a.args) (made ++ l) ≡ FullAt l
  pub none : stands a.door.caller a.q.0 new ≡ []

abbrev pub Enters : Asks → List Name → List Entry → List Entry → Result Entered CallFail → Type 0
Enters a names old new (Ok (entered.Frame f way)) = (f.q ≡ a.q) × IsDecidedOf a names old new f.key (verdict.Enter way) (Some f.body) f.held.items
Enters a names old new (Ok (entered.Refused v)) = IsRefused a names old new v
Enters a names old new (Err fail.Full) = IsFullAtOnce a names old new ⊎ IsFullLater a names old new
Enters a names old new (Err fail.NoMemory) = stands a.door.caller a.q.0 new ≡ []

-- where a call found the list of names full, it is so, and one name is none of them, and its type takes the arguments
abbrev pub IsFullFor : Given → List Name → CallFail → Type 0
IsFullFor g names fail.Full = (fits_of g ≡ true) × ((name : Name) × IsFull names name)
IsFullFor g names fail.NoMemory = Unit {0}

-- where a call found the list of names full, it did so rightly
abbrev pub IsRightlyFor : Table → List Name → ℕ → CallNo → KeyId → List Entry → CallFail → Type 0
IsRightlyFor t names c q key log fail.Full = IsFullRightly t names c q key log
IsRightlyFor t names c q key log fail.NoMemory = Unit {0}

-- the call was decided, or found the list of names full
abbrev pub IsTold : {X : Type 0} → Result X CallFail → Type 0
IsTold (Ok e) = Unit {0}
IsTold (Err fail.Full) = Unit {0}
IsTold (Err fail.NoMemory) = ⊥

-- The call that was given so was decided, from what was seen before, and holds these keys then.
pub record IsFinished (g : Given) (names : List Name) (old mid : List Entry) (v : Verdict) (site : Option BodySite) (held : List KeyId) : Type 0 where
  pub decided : Decided g names old mid v site
  pub holds : Holds g.door.caller g.q.0 held mid

-- The call that was given so was refused, and gave back all that it held.
pub record GaveBack (g : Given) (names : List Name) (old new : List Entry) (v : Verdict) : Type 0 where
  pub mid : List Entry
  pub site : Option BodySite
  pub held : List KeyId
  pub finished : IsFinished g names old mid v site held
  pub kept : IsPrefix mid new
  pub freed : acts g.door.caller new ≡ acts g.door.caller mid ++ frees g.q held
  pub none : stands g.door.caller g.q.0 new ≡ []

-- A method that the call needs is none of the names, and their list is full. The call that was given so gave back all that it held.
pub record GaveUp (g : Given) (names : List Name) (old new : List Entry) : Type 0 where
  pub full : (name : Name) × IsFull names name
  pub reads : (start : List Entry) → Begun g start old
      → (made : List Act) × (acts g.door.caller new ≡ acts g.door.caller start ++ made)
      × ((l : List Act) → call_of g.t g.q.0 g.key.0 (kinds_of g.args) (made ++ l) ≡ FullAt l)
  pub none : stands g.door.caller g.q.0 new ≡ []

abbrev pub Finished : Given → List Name → List Entry → List Entry → Result Ended CallFail → Type 0
Finished g names old new (Ok (ended.Own f)) = (f.q ≡ g.q) × (f.key ≡ g.key) × IsFinished g names old new (verdict.Enter by.Own) (Some f.body) f.held.items
Finished g names old new (Ok (ended.Fresh f d)) = (f.q ≡ g.q) × (f.key ≡ g.key) × IsFinished g names old new (verdict.Enter by.Fresh) (Some f.body) f.held.items
Finished g names old new (Ok (ended.Refused v)) = GaveBack g names old new v
Finished g names old new (Err fail.Full) = GaveUp g names old new
Finished g names old new (Err fail.NoMemory) = stands g.door.caller g.q.0 new ≡ []

-- A frame of the call q holds these keys behind its Call.
abbrev pub IsFramed : ℕ → CallNo → List Entry → Entered → Type 0
IsFramed c q log (entered.Frame f way) = (f.q ≡ q) × Holds c q.0 f.held.items log × HasCall c q.0 log
IsFramed c q log (entered.Refused v) = Unit {0}

-- what its caller is told of a call that ended so
abbrev pub entered_of : Ended → Entered
entered_of (ended.Own f) = entered.Frame f by.Own
entered_of (ended.Fresh f d) = entered.Frame f by.Fresh
entered_of (ended.Refused v) = entered.Refused v

abbrev pub entered_by : Result Ended CallFail → Result Entered CallFail
entered_by (Ok e) = Ok (entered_of e)
entered_by (Err cause) = Err cause

-- The call ended with a check, and gave back all that it held.
pub record IsUndone (c : ℕ) (old new : List Entry) (e : Ended) : Type 0 where
  pub frame : Frame
  pub d : Derivation
  pub is : e ≡ ended.Fresh frame d
  pub none : stands c frame.q.0 new ≡ []
  pub others : (p : ℕ) → (p ≡ frame.q.0 → ⊥) → stands c p new ≡ stands c p old

-- the frame holds its keys, where a check was made
abbrev pub MayUndo : ℕ → List Entry → Ended → Type 0
MayUndo c log (ended.Own f) = Unit {0}
MayUndo c log (ended.Fresh f d) = Holds c f.q.0 f.held.items log
MayUndo c log (ended.Refused v) = Unit {0}

-- the frame of the call q holds its keys behind its Call, where its body may run
abbrev pub IsEndedWell : ℕ → CallNo → List Entry → Ended → Type 0
IsEndedWell c q log (ended.Own f) = (f.q ≡ q) × Holds c q.0 f.held.items log × HasCall c q.0 log
IsEndedWell c q log (ended.Fresh f d) = (f.q ≡ q) × Holds c q.0 f.held.items log × HasCall c q.0 log
IsEndedWell c q log (ended.Refused v) = Unit {0}

-- What is kept is true, and its machine's own, behind the call, but where a check was made: then it was so before the Call.
abbrev pub IsOwnAtEnd : Given → (past : Option (List Act)) → (known asked : List Name) → List Entry → List Answer → Result Ended CallFail → Type 0
IsOwnAtEnd g past known asked new answers (Ok (ended.Own f)) = IsOwnCache g.t known asked g.door.caller past new g.cache
IsOwnAtEnd g past known asked new answers (Ok (ended.Fresh f d)) = (f.q ≡ g.q) × (f.key ≡ g.key) × (f.body ≡ d.body) × IsResting g past known asked new f.held.items answers d
IsOwnAtEnd g past known asked new answers (Ok (ended.Refused v)) = IsOwnCache g.t known asked g.door.caller past new g.cache
IsOwnAtEnd g past known asked new answers (Err cause) = IsOwnCache g.t known asked g.door.caller past new g.cache

-- Where the body is entered by the caller's own check, and the call gave nothing back, the name of its method alone was asked for.
abbrev pub MarksOnce : Asks → (was asked : List Name) → List Entry → List Entry → Result Entered CallFail → Type 0
MarksOnce a was asked old new (Ok (entered.Frame f by.Own)) = (made : List Act) → acts a.door.caller new ≡ acts a.door.caller old ++ made → StaysLive a.q.0 made → asked ≡ with_name was (a.class.0, a.bytes)
MarksOnce a was asked old new _ = Unit {0}
