-- What small programs with calls do, worked out by hand and computed here.
use Rattle.std.proofs.Common.{◌≡◌, ℕ, ◌∷◌, List, [], pos, Option, Some, None, refl}
use Rattle.std.specs.Prelude.{codes}
use Rattle.hb_types.specs.declared.types.Ty.TheVariants as ty
use Rattle.hb_tree.specs.Table.{Table}
use Rattle.hb_tree.specs.declared.node.Op.TheVariants as op
use Rattle.hb_tree.specs.declared.node.Node.{Node}
use Rattle.hb_tree.specs.declared.node.Node.TheVariants as node
use Rattle.hb_tree.specs.declared.node.Placed.{Placed}
use Rattle.hb_tree.specs.Tree.{Tree, TInt, TNil, TNew, TAssign, TCall, TBlock, Forest, NoTree, Trees}
use Rattle.hb_tree.specs.TreeAt.{tree_at, tree_down}
use Rattle.hb_tables.specs.declared.entry.Act.{Act}
use Rattle.hb_tables.specs.declared.entry.Act.TheVariants as act
use Rattle.hb_tables.specs.declared.entry.ArgKinds.{ArgKinds}
use Rattle.hb_tables.specs.declared.entry.Verdict.{Verdict}
use Rattle.hb_tables.specs.declared.entry.Verdict.TheVariants as verdict
use Rattle.hb_tables.specs.declared.entry.By.TheVariants as by
use Rattle.hb_eval.specs.declared.value.Value.TheVariants as value
use Rattle.hb_eval.specs.declared.stop.Stop.{Stop}
use Rattle.hb_eval.specs.declared.stop.Stop.TheVariants as stop
use Rattle.hb_eval.specs.declared.stop.Outcome.TheVariants as outcome
use Rattle.hb_eval.specs.State.{then_do, begin}
use Rattle.hb_eval.specs.Meaning.{ev}
use Rattle.hb_eval.specs.Calls.{call_in}
use Rattle.hb_eval.specs.Runs.{Run, start, run_of}

at_place : Node → Placed
at_place n = record { node = n; line = 1; column = 1 }

-- `def A.f(x) x + y end`, and `y`, which is no variable of its body. There are types of one Int and of no parameter.
program : Table
program = record {
  classes = codes "A" ∷ [];
  names = codes "f" ∷ codes "x" ∷ codes "y" ∷ [];
  texts = [];
  nodes = at_place (node.Var (record { 0 = 1 })) ∷ at_place (node.Var (record { 0 = 2 })) ∷ at_place (node.Binary op.Add (record { 0 = 0 }) (record { 0 = 1 })) ∷ at_place (node.Block 0 1) ∷ at_place (node.Block 1 1) ∷ [];
  items = record { 0 = 2 } ∷ record { 0 = 0 } ∷ [];
  bodies = record { def = record { 0 = 9 }; block = record { 0 = 3 }; count = 1; params = record { 0 = 1 } ∷ [] } ∷ record { def = record { 0 = 9 }; block = record { 0 = 4 }; count = 1; params = record { 0 = 1 } ∷ [] } ∷ [];
  types = (record { count = 1; params = ty.Int ∷ ty.Nil ∷ ty.Nil ∷ ty.Nil ∷ []; result = ty.Any }, record { 0 = 8 }) ∷ (record { count = 0; params = ty.Nil ∷ ty.Nil ∷ ty.Nil ∷ ty.Nil ∷ []; result = ty.Any }, record { 0 = 9 }) ∷ [];
  setup = None;
  scripts = [];
}

run : (steps : ℕ) → List Act → Forest → Option Run
run steps journal items = run_of (ev program ((0, codes "f") ∷ []) (call_in program ((0, codes "f") ∷ []) 4096) (TBlock 99 items) (start steps journal))

stopped : Stop → ℕ → (begun : ℕ) → List (ℕ × Act) → Option Run
stopped e id begun acts = Some (record { outcome = outcome.Stopped e (record { 0 = id }); output = []; acts = acts; begun = begun })

one : Tree → Forest
one e = Trees e NoTree

kinds : ArgKinds
kinds = record { count = 1; kinds = ty.Int ∷ ty.Nil ∷ ty.Nil ∷ ty.Nil ∷ [] }

hold : ℕ → Act
hold q = act.Hold (record { 0 = 0 }) (record { 0 = q }) (Some (record { 0 = 0 })) 1

free : ℕ → Act
free q = act.Free (record { 0 = 0 }) (record { 0 = q })

call : ℕ → ℕ → Verdict → Act
call q site v = act.Call (record { 0 = 0 }) (record { 0 = q }) (Some (record { 0 = site })) kinds v

-- `A.new.f(7)`
asks : Tree
asks = TCall 12 (TNew 10 0) 0 (one (TInt 11 (pos 7)))

entered : Verdict
entered = verdict.Enter by.Fresh

-- a body gives its last item's value, and its call holds its key until then
gives : run 100 (hold 1 ∷ call 1 1 entered ∷ free 1 ∷ []) (one asks)
    ≡ Some (record { outcome = outcome.Done (value.Int (pos 7)); output = []; acts = (3, hold 1) ∷ (3, call 1 1 entered) ∷ (4, free 1) ∷ []; begun = 4 })
unfolding run one program at_place asks hold free call kinds entered call_in then_do begin tree_at tree_down
gives = refl

-- a body sees no variable of its caller, and its stop passes the call's Frees
sees : run 100 (hold 1 ∷ call 1 0 entered ∷ free 1 ∷ []) (Trees (TAssign 21 2 (TInt 20 (pos 1))) (one asks))
    ≡ stopped stop.Unbound 1 8 ((5, hold 1) ∷ (5, call 1 0 entered) ∷ (8, free 1) ∷ [])
unfolding run stopped one program at_place asks hold free call kinds entered call_in then_do begin tree_at tree_down
sees = refl

-- a call that may not run gives its key back at once
refuses : run 100 (hold 1 ∷ call 1 1 verdict.BadArgs ∷ free 1 ∷ []) (one asks)
    ≡ stopped stop.BadArgs 12 3 ((3, hold 1) ∷ (3, call 1 1 verdict.BadArgs) ∷ (3, free 1) ∷ [])
unfolding run stopped one program at_place asks hold free call kinds call_in then_do begin tree_at tree_down
refuses = refl

-- a call that finds the list of names full gives back what it holds, and has no Call
full : run 100 (hold 1 ∷ free 1 ∷ []) (one asks) ≡ stopped stop.Full 12 3 ((3, hold 1) ∷ (3, free 1) ∷ [])
unfolding run stopped one program at_place asks hold free kinds call_in then_do begin tree_at tree_down
full = refl

-- where its type does not take the argument, it finds no full list
unfit : run 100 (act.Hold (record { 0 = 0 }) (record { 0 = 1 }) (Some (record { 0 = 1 })) 1 ∷ free 1 ∷ []) (one asks) ≡ None
unfolding run one program at_place asks free kinds call_in then_do begin tree_at tree_down
unfit = refl

-- nil has no methods
nil_is_called : run 100 [] (one (TCall 12 (TNil 10) 0 NoTree)) ≡ stopped stop.NilValue 12 2 []
unfolding run stopped one program at_place call_in then_do begin tree_at tree_down
nil_is_called = refl
