-- Where two runs of one block part.
use Rattle.std.specs.Prelude.{◌≡◌, ℕ, ◌<◌, ◌==◌, Bool, true, false, List, [], ◌∷◌, ◌++◌, map, nat_eq, Some}
use Rattle.std.specs.List.{AllByRecursion}
use mathlib.Core.List.{IsPrefix}
use Rattle.hb_types.specs.declared.ids.NodeId.{NodeId}
use Rattle.hb_types.specs.declared.types.Ty.{Ty}
use Rattle.hb_tree.specs.Table.{Table}
use Rattle.hb_names.specs.Names.{IsFull, Name, place}
use Rattle.hb_tables.specs.declared.entry.Act.{Act}
use Rattle.hb_tables.specs.declared.entry.Act.TheVariants.{Hold, Free, Retype, Busy, WornType, Define, WornDef, Call}
use Rattle.hb_call.specs.Reading.{takes_at}
use Rattle.hb_eval.specs.declared.stop.Outcome.TheVariants as outcome
use Rattle.hb_eval.specs.declared.stop.Stop.TheVariants as stop
use Rattle.hb_eval.specs.Runs.{Run}
use Rattle.hb_eval.specs.State.{St, tagged}
use Rattle.hb_ordered.specs.Asking.{AsksOne, Question, Defines, Declares, Starts, Goes, Ends, Answers}
use Rattle.hb_ordered.specs.Sharing.{IsOwnFree}

-- the call q of a key has another hold, or gives back another key
abbrev pub IsWithin : (q k : ℕ) → Act → Type 0
IsWithin q k (Hold key p ty changes) = p.0 ≡ q
IsWithin q k (Free key p) = (p.0 ≡ q) × (nat_eq key.0 k ≡ false)
IsWithin q k (Retype key site) = ⊥
IsWithin q k (Busy key pins) = ⊥
IsWithin q k (WornType key) = ⊥
IsWithin q k (Define key site) = ⊥
IsWithin q k (WornDef key) = ⊥
IsWithin q k (Call key p site args v) = ⊥

-- these are the acts so far of the call q of a key: it holds the key, and what follows is within it
abbrev pub IsSoFar : (q k : ℕ) → List Act → Type 0
IsSoFar q k [] = ⊥
IsSoFar q k (a ∷ l) = Answers (Starts q k) a × AllByRecursion (IsWithin q k) l

-- the acts since the question's expression or call began, where the next call has this number
abbrev pub IsReadFor : (next : ℕ) → Question → List Act → Type 0
IsReadFor n (Defines k s) l = l ≡ []
IsReadFor n (Declares k s) l = l ≡ []
IsReadFor n (Starts q k) l = (q ≡ n) × (l ≡ [])
IsReadFor n (Goes q k kinds) l = (q ≡ n) × IsSoFar q k l
IsReadFor n (Ends q k) l = Unit {0}

-- whether the type that the first of these Holds found takes arguments of these kinds
abbrev pub first_takes : Table → List Ty → List Act → Bool
first_takes t kinds (Hold key p ty changes ∷ l) = takes_at t ty kinds
first_takes t kinds _ = false

-- a Hold or a Free comes before a Call only where the arguments fit
abbrev pub IsPast : (fits : Bool) → Act → Type 0
IsPast fits (Hold key p ty changes) = fits ≡ true
IsPast fits (Free key p) = fits ≡ true
IsPast fits _ = Unit {0}

-- behind these acts of its call the act goes past the first Hold rightly
abbrev pub GoesPast : Table → Question → List Act → Act → Type 0
GoesPast t (Goes q k kinds) since a = IsPast (first_takes t kinds since) a
GoesPast t _ since a = Unit {0}

-- the act is no part of a call from this number on
abbrev pub IsBelow : (n : ℕ) → Act → Type 0
IsBelow n (Hold key p ty changes) = p.0 < n
IsBelow n (Free key p) = p.0 < n
IsBelow n (Call key p site args v) = p.0 < n
IsBelow n (Retype key site) = Unit {0}
IsBelow n (Busy key pins) = Unit {0}
IsBelow n (WornType key) = Unit {0}
IsBelow n (Define key site) = Unit {0}
IsBelow n (WornDef key) = Unit {0}

-- Two lists of acts go on with these behind common ones. Both runs, each for its list of names, came to the same state, in which each call that was read has a lower number than the next.
-- They asked the same there, and read answers to it that may differ.
pub record Parting (t : Table) (names others : List Name) (done first second : List Act) : Type 0 where
  pub state : St
  pub since : List Act
  pub read : map (λ e. e.1) state.read ++ since ≡ done
  pub below : AllByRecursion (IsBelow state.next) (map (λ e. e.1) state.read)
  pub question : Question
  pub other : Question
  pub one : AsksOne names others question other
  pub since_is : IsReadFor state.next question since
  pub a : Act
  pub b : Act
  pub behind_a : List Act
  pub behind_b : List Act
  pub is_a : first ≡ a ∷ behind_a
  pub is_b : second ≡ b ∷ behind_b
  pub answer_a : Answers question a
  pub answer_b : Answers other b
  pub past_a : GoesPast t question since a
  pub past_b : GoesPast t other since b

-- the acts of a run up to the one by which it parts, each with the number of beginnings
abbrev pub read_with : {t : Table} {names others : List Name} {done first second : List Act} → Parting t names others done first second → Act → List (ℕ × Act)
read_with x e = x.state.read ++ tagged x.state.begun (x.since ++ e ∷ [])

-- Frees
abbrev pub AreFrees : List Act → Type 0
AreFrees [] = Unit {0}
AreFrees (Free key q ∷ l) = AreFrees l
AreFrees (Hold key q ty changes ∷ l) = ⊥
AreFrees (Retype key site ∷ l) = ⊥
AreFrees (Busy key pins ∷ l) = ⊥
AreFrees (WornType key ∷ l) = ⊥
AreFrees (Define key site ∷ l) = ⊥
AreFrees (WornDef key ∷ l) = ⊥
AreFrees (Call key q site args v ∷ l) = ⊥

-- Behind these acts the run stops, since the list of names is full: where so many expressions have begun, and after Frees, which are the rest of its acts.
pub record StopsFull (begun : ℕ) (read : List (ℕ × Act)) (rest : List Act) (r : Run) : Type 0 where
  pub id : NodeId
  pub stops : r.outcome ≡ outcome.Stopped stop.Full id
  pub begun_is : r.begun ≡ begun
  pub frees : AreFrees rest
  pub acts_are : r.acts ≡ read ++ tagged begun rest

-- The runs part at a question, and each has its answer with the number of beginnings at which it was asked. One that gives its call's own key back then stops.
pub record Part (t : Table) (names others : List Name) (done first second : List Act) (r w : Run) : Type 0 where
  pub at : Parting t names others done first second
  pub first_read : IsPrefix (read_with at at.a) r.acts
  pub second_read : IsPrefix (read_with at at.b) w.acts
  pub first_stops : IsOwnFree at.question at.a → StopsFull at.state.begun (at.state.read ++ tagged at.state.begun at.since) first r
  pub second_stops : IsOwnFree at.other at.b → StopsFull at.state.begun (at.state.read ++ tagged at.state.begun at.since) second w

-- The run for the first list of names stops, since that is full and lacks a name, for which the run for the second list reads an act.
pub record Lacks (names others : List Name) (done first second : List Act) (r w : Run) : Type 0 where
  pub begun : ℕ
  pub read : List (ℕ × Act)
  pub read_is : map (λ e. e.1) read ≡ done
  pub name : Name
  pub full : IsFull names name
  pub key : ℕ
  pub has : place others name ≡ Some key
  pub b : Act
  pub behind : List Act
  pub is : second ≡ b ∷ behind
  pub goes_on : IsPrefix (read ++ (begun, b) ∷ []) w.acts
  pub stops : StopsFull begun read first r

-- how two runs of one block go on behind common acts: neither does and they are one run, or they part, or one of them stops for want of a name
pub data GoOn (t : Table) (names others : List Name) (done first second : List Act) (r w : Run) : Type 0 where
  Neither : first ≡ [] → second ≡ [] → r ≡ w → GoOn t names others done first second r w
  Parted : Part t names others done first second r w → GoOn t names others done first second r w
  FirstLacks : Lacks names others done first second r w → GoOn t names others done first second r w
  SecondLacks : Lacks others names done second first w r → GoOn t names others done first second r w

-- the act is a part of the call q
abbrev pub is_of : (q : ℕ) → Act → Bool
is_of q (Hold key p ty changes) = q == p.0
is_of q (Free key p) = q == p.0
is_of q (Call key p site args v) = q == p.0
is_of q (Retype key site) = false
is_of q (Busy key pins) = false
is_of q (WornType key) = false
is_of q (Define key site) = false
is_of q (WornDef key) = false

-- no act is a part of the call q
abbrev pub IsFresh : (q : ℕ) → List Act → Type 0
IsFresh q l = AllByRecursion (λ a. is_of q a ≡ false) l

-- the call that is asked about has no part in these acts
abbrev pub IsFreshFor : Question → List Act → Type 0
IsFreshFor (Goes q k kinds) l = IsFresh q l
IsFreshFor _ l = Unit {0}
