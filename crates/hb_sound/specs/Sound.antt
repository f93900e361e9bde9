-- What it is not to go wrong.
use Rattle.std.specs.Prelude.{◌≡◌, ℕ, List, [], ◌∷◌, length, Some, true, false}
use Rattle.hb_types.specs.declared.{ids.ClassId.ClassId, types.Ty.Ty, types.MethodTy.MethodTy}
use Rattle.hb_types.specs.declared.types.Ty.TheVariants as ty
use Rattle.hb_types.specs.{Types.params_of, Variables.Variables, Variables.get}
use Rattle.hb_deriv.specs.Judge.{Key, Types, all_below}
use Rattle.hb_deriv.specs.Events.{Events, Look, Done as Finished}
use Rattle.hb_tables.specs.declared.entry.Act.{Act}
use Rattle.hb_tables.specs.Frames.{frees}
use Rattle.hb_eval.specs.declared.{value.Value.Value, stop.Stop.Stop}
use Rattle.hb_eval.specs.declared.stop.Stop.TheVariants as stop
use Rattle.hb_eval.specs.{Values.conforms, Meaning.Calls}
use Rattle.hb_eval.specs.State.{Bindings, St, Answer, Lost, Done, Halt, value_at}

-- the value is one of the type
abbrev pub Conforms : Value → Ty → Type 0
Conforms v t = conforms v t ≡ true

-- each variable that has a type has a value of this type
abbrev pub Fits : Variables → Bindings → Type 0
Fits G vars = (x : ℕ) (t : Ty) → get G x ≡ Some t → (v : Value) × (value_at vars x ≡ Some v) × Conforms v t

-- the values are of these types
abbrev pub AllConform : List Value → List Ty → Type 0
AllConform [] [] = Unit {0}
AllConform (v ∷ vs) (t ∷ ts) = Conforms v t × AllConform vs ts
AllConform [] (t ∷ ts) = ⊥
AllConform (v ∷ vs) [] = ⊥

-- a cause for which a judged expression may stop; the others come at script level alone
abbrev pub IsNamed : Stop → Type 0
IsNamed stop.NilValue = Unit {0}
IsNamed stop.NoBody = Unit {0}
IsNamed (stop.IllTyped f) = Unit {0}
IsNamed stop.Overflow = Unit {0}
IsNamed stop.LongText = Unit {0}
IsNamed stop.OutputFull = Unit {0}
IsNamed stop.Busy = Unit {0}
IsNamed stop.BadName = Unit {0}
IsNamed stop.Deep = Unit {0}
IsNamed stop.Full = Unit {0}
IsNamed stop.Worn = Unit {0}
IsNamed stop.Steps = Unit {0}
IsNamed stop.NoType = ⊥
IsNamed stop.BadArgs = ⊥
IsNamed stop.BadOperand = ⊥
IsNamed stop.Unbound = ⊥
IsNamed stop.NoSelf = ⊥

-- what is true of the number of the next call and of the acts that are left
abbrev pub Rest : Type 1
Rest = ℕ → List Act → Type 0

-- a state in a frame: the variables have their types, and self is of its class
pub record Stands (Inv : Rest) (me : ℕ) (G : Variables) (s : St) : Type 0 where
  pub vars : Fits G s.vars
  pub self : s.self ≡ Some (record { 0 = me })
  pub inv : Inv s.next s.journal

-- a value of the type, in a state in which the variables have theirs; or a stop for a named cause
abbrev pub Sound : Rest → ℕ → Variables → Ty → Answer → Type 0
Sound Inv me G t Lost = Unit {0}
Sound Inv me G t (Done v s) = Conforms v t × Stands Inv me G s
Sound Inv me G t (Halt e id s) = IsNamed e

-- each look is at one of these keys
unfoldable pub LooksIn : (Key → Type 0) → Events → Type 0
LooksIn Uses [] = Unit {0}
LooksIn Uses (Look id k ∷ es) = Uses k × LooksIn Uses es
LooksIn Uses (Finished id t ∷ es) = LooksIn Uses es

-- In a frame, a call of a method that it uses and that has a type there, with arguments that this takes, is sound. What is true of the acts stays so behind one that gives no key back.
pub record AreSound (Inv : Rest) (me : ℕ) (Uses : Key → Type 0) (types : Types) (call : Calls) : Type 0 where
  pub calls : (G : Variables) (id m : ℕ) (c : ClassId) (r : Value) (vs : List Value) (ts : List Ty) (declared : MethodTy) (s : St)
      → Uses (c.0, m) → types (c.0, m) ≡ Some declared → Conforms r (ty.Class c) → AllConform vs ts → length ts ≡ declared.count → all_below ts (params_of declared) ≡ true → Stands Inv me G s
      → Sound Inv me G declared.result (call id r m vs s)
  pub reads : (a : Act) (next : ℕ) (rest : List Act) → ((q : ℕ) → frees q a ≡ false) → Inv next (a ∷ rest) → Inv next rest
