-- What is seen of a call that is being decided. A desk tells what is fixed and its front, and names tell those that are known and asked.
use Rattle.std.specs.Prelude.{ℕ, ◌<◌, ◌≤◌, Option, List, ◌++◌, vec_len, vec_capacity}
use Rattle.hb_names.specs.Names.{Name}
use Rattle.hb_tables.specs.declared.entry.Entry.{Entry}
use Rattle.hb_tables.specs.declared.entry.Act.{Act}
use Rattle.hb_tables.specs.Answers.{Fixed}
use Rattle.hb_call.specs.declared.answers.Answer.{Answer}
use Rattle.hb_call.specs.declared.call.Call.{Call}
use Rattle.hb_call.specs.Calling.{Given, Moment, IsAlike, IsAsking, IsCalling}
use Rattle.hb_call.specs.declared.ruling.Ruling.{Ruling}
use Rattle.hb_call.specs.Deciding.{IsRuledAt}
use Rattle.hb_call.specs.OwnCache.{IsOwnCache}
use Rattle.hb_types.specs.declared.ids.BodySite.{BodySite}

abbrev pub given_of : {D N : Type 0} → (D → Fixed) → Call D N → Given
given_of fixed s = record { t = s.prog.now; door = fixed s.desk.now; q = s.q; key = s.key; own = s.own; class = s.class; args = s.args; cache = s.cache.now; desk = s.desk.ghost_name; names = s.names.ghost_name; answers = s.answers.ghost_name }

abbrev pub moment_of : {D N : Type 0} → (D → List Entry) → (N → List Name) → (N → List Name) → Call D N → Moment
moment_of front known asked s = record { known = known s.names.now; asked = asked s.names.now; log = front s.desk.now }

abbrev pub IsUnderWay : {D N : Type 0} → (D → Fixed) → (D → List Entry) → (N → List Name) → (N → List Name) → Call D N → Type 0
IsUnderWay fixed front known asked s = IsCalling s.prog.now (fixed s.desk.now) s.q.0 (known s.names.now) (asked s.names.now) (front s.desk.now) s.key s.own s.held.now.items (s.compared.now.items ++ s.answers.now.items)

-- what is kept is true, and the machine's own where it is told which acts stand before its own
abbrev pub KeepsOwn : {D N : Type 0} → Option (List Act) → (D → Fixed) → (D → List Entry) → (N → List Name) → (N → List Name) → Call D N → Type 0
KeepsOwn past fixed front known asked s = IsOwnCache s.prog.now (known s.names.now) (asked s.names.now) (fixed s.desk.now).caller past (front s.desk.now) s.cache.now

-- it holds its own key first, and each key that it holds has an answer, whoever had it
abbrev pub IsHolding : {D N : Type 0} → (D → Fixed) → (D → List Entry) → (N → List Name) → (N → List Name) → Call D N → Type 0
IsHolding fixed front known asked s = (answers : List Answer) × IsCalling s.prog.now (fixed s.desk.now) s.q.0 (known s.names.now) (asked s.names.now) (front s.desk.now) s.key s.own s.held.now.items answers

-- this is what the call comes to with the definition
abbrev pub IsRuledNow : {D N : Type 0} → (D → Fixed) → (D → List Entry) → (N → List Name) → (N → List Name) → Call D N → Option BodySite → Ruling → Type 0
IsRuledNow fixed front known asked s site r = IsRuledAt (given_of fixed s) (moment_of front known asked s) s.held.now.items s.answers.now.items site r

-- The second is the first after some of its own steps.
abbrev pub GoesOn : {D N : Type 0} → (D → Fixed) → (D → List Entry) → (N → List Name) → (N → List Name) → Call D N → Call D N → Type 0
GoesOn fixed front known asked a b = IsAlike (given_of fixed a) (given_of fixed b) (moment_of front known asked a) (moment_of front known asked b)

-- what it held meanwhile are its answers' keys
abbrev pub AsksOn : {D N : Type 0} → (D → Fixed) → (D → List Entry) → (N → List Name) → (N → List Name) → Call D N → Call D N → Type 0
AsksOn fixed front known asked a b = IsAsking (given_of fixed a) (moment_of front known asked a) (moment_of front known asked b) a.answers.now.items b.answers.now.items

-- there is room for one more hold, with its free, and for its answer
abbrev pub HasSpare : {D N : Type 0} → (D → ℕ) → Call D N → Type 0
HasSpare spare s = (2 ≤ spare s.desk.now) × (vec_len s.held.now < vec_capacity s.held.now) × (vec_len s.answers.now < vec_capacity s.answers.now)
