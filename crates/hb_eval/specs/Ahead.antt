-- What is read of an expression before it begins.
use Rattle.std.specs.Prelude.{◌≡◌, ℕ, ◌+◌, ◌-◌, ◌<◌, ◌≤◌, List, Option, Some, None, Vec}
use Rattle.std.specs.Global.{Global}
use Rattle.hb_types.specs.declared.ids.NodeId.{NodeId}
use Rattle.hb_tree.specs.{Table.Table, TreeAt.tree_at, Tree.TBinary}
use Rattle.hb_tree.specs.declared.node.Op.{Op}
use Rattle.hb_names.specs.Names.{Name}
use Rattle.hb_eval.specs.declared.{value.Value.Value, cont.Cont.Cont, state.State.State, state.Hand.Hand}
use Rattle.hb_eval.specs.{State.Bindings, State.St, State.Done, Meaning.Calls, Meaning.ev, Steps.AreKnown, Steps.Started, Steps.TakesFuel}

-- Where these are the variables and so much fuel is there, the expression gives this value: so many expressions begin, and nothing else happens.
abbrev pub ComesAtOnce : Table → Bindings → (id : ℕ) → Value → (begins : ℕ) → Type 0
ComesAtOnce t vars id v n = (names : List Name) (call : Calls) (s : St) → s.vars ≡ vars → n ≤ s.fuel
    → ev t names call (tree_at t id) s ≡ Done v (record s { begun = s.begun + n; fuel = s.fuel - n })

-- the node is this operator on these two
abbrev pub IsOperator : Table → (id : ℕ) → Op → (a b : NodeId) → Type 0
IsOperator t id o a b = tree_at t id ≡ TBinary id o (tree_at t a.0) (tree_at t b.0)

-- so many expressions have begun, and this value is in hand
abbrev pub behind : State → ℕ → Value → State
behind x n v = record x { begun = x.begun + n; fuel = x.fuel - n; acc = v }

-- Some expressions began, which read nothing and took their fuel, and the move of the last was taken.
pub record Leapt (t : Table) (old new : State) (was now : List Cont) (result : Hand) : Type 0 where
  pub started : Started t old new was now result
  pub begun : old.begun < new.begun
  pub fuel : TakesFuel old new
  pub known : AreKnown t old → AreKnown t new

-- some began, or there was nothing to be read and all is as it was
abbrev pub HasLeapt : Table → (old new : State) → (was now : Vec Cont Global) → Option Hand → Type 0
HasLeapt t old new was now (Some hand) = Leapt t old new was.items now.items hand
HasLeapt t old new was now None = (new ≡ old) × (now ≡ was)
