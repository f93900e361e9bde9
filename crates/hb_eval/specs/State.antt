-- What a script has in hand, and what an expression comes to.
use Rattle.std.specs.Prelude.{◌≡◌, ℕ, Bool, true, false, ◌+◌, ◌-◌, List, [], ◌∷◌, ◌++◌, Option, Some, None, Result, Ok, Err, nat_eq, if◌then◌else◌}
use Rattle.hb_types.specs.declared.{ids.NameId.NameId, ids.ClassId.ClassId}
use Rattle.hb_tables.specs.declared.entry.Act.{Act}
use Rattle.hb_eval.specs.declared.{value.Value.Value, stop.Stop.Stop}
use Rattle.hb_eval.specs.declared.stop.Stop.TheVariants as stop

abbrev pub Bindings : Type 0
Bindings = List (NameId × Value)

-- The variables, self's class where a method runs, the fuel, how many expressions have begun, the number of the next
-- call, the bytes that were printed, the acts that were read, each with the number of beginnings, and those that are left.
pub record St : Type 0 where
  pub vars : Bindings
  pub self : Option ClassId
  pub fuel : ℕ
  pub begun : ℕ
  pub next : ℕ
  pub output : List ℕ
  pub read : List (ℕ × Act)
  pub journal : List Act

-- a value, or a stop at a node; or no answer, where the journal has another act than is asked for
pub data Answer : Type 0 where
  Lost : Answer
  Done : (v : Value) (s : St) → Answer
  Halt : (e : Stop) (id : ℕ) (s : St) → Answer

-- goes on from a value
unfoldable pub then_do : Answer → (Value → St → Answer) → Answer
then_do Lost go = Lost
then_do (Done v s) go = go v s
then_do (Halt e id s) go = Halt e id s

-- a value, or a stop at this node
abbrev pub gives : ℕ → Result Value Stop → St → Answer
gives id (Ok v) s = Done v s
gives id (Err e) s = Halt e id s

-- an expression begins: it takes one unit of fuel, or stops where there is none
unfoldable pub begin : ℕ → St → (St → Answer) → Answer
begin id s go =
    if nat_eq s.fuel 0
    then Halt stop.Steps id (record s { begun = s.begun + 1 })
    else go (record s { begun = s.begun + 1; fuel = s.fuel - 1 })

-- the value of a variable
abbrev pub value_at : Bindings → ℕ → Option Value
value_at [] x = None
value_at (b ∷ bs) x = if nat_eq b.0.0 x then Some b.1 else value_at bs x

-- the value of a variable came in hand, or it has none
abbrev pub IsFetched : Bool → Option Value → (old new : Value) → Type 0
IsFetched true found old new = found ≡ Some new
IsFetched false found old new = (found ≡ None) × (new ≡ old)

-- the variable has this value, and the others those that they had; a new one stands last
abbrev pub bind : Bindings → ℕ → Value → Bindings
bind [] x v = (record { 0 = x }, v) ∷ []
bind (b ∷ bs) x v = if nat_eq b.0.0 x then (record { 0 = x }, v) ∷ bs else b ∷ bind bs x v

-- each act with the number of beginnings
abbrev pub tagged : ℕ → List Act → List (ℕ × Act)
tagged n [] = []
tagged n (a ∷ more) = (n, a) ∷ tagged n more

-- an act is read
abbrev pub read_act : Act → List Act → St → St
read_act e rest s = record s { read = s.read ++ (s.begun, e) ∷ []; journal = rest }

-- what the act means at a node, where it is one that is asked for
abbrev pub meant : ℕ → Option (Result Value Stop) → St → Answer
meant id None s = Lost
meant id (Some r) s = gives id r s

abbrev pub next_act : (Act → Option (Result Value Stop)) → ℕ → St → List Act → Answer
next_act meaning id s [] = Lost
next_act meaning id s (e ∷ rest) = meant id (meaning e) (read_act e rest s)

-- reads the next act, by what the acts mean that are asked for
unfoldable pub reads : (Act → Option (Result Value Stop)) → ℕ → St → Answer
reads meaning id s = next_act meaning id s s.journal
