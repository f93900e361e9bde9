-- What a program does: what each of its expressions comes to, as a function over trees.
use Rattle.std.specs.Prelude.{ℕ, zero, suc, ◌∷◌, ◌++◌, List, [], length, Option, Some, None, true, false, nat_le, if◌then◌else◌}
use Rattle.hb_types.specs.declared.ids.ClassId.{ClassId}
use Rattle.hb_tree.specs.{Table.Table, Canon.bytes_at}
use Rattle.hb_tree.specs.Tree.{Tree, TNil, TTrue, TFalse, TSelf, TInt, TText, TVar, TNew, TAssign, TPrint, TToStr, TNot, TBinary, TIf, TWhile, TCall, TDef, TDefComputed}
use Rattle.hb_tree.specs.Tree.{TDeclare, TDeclareComputed, TBlock, Forest, NoTree, Trees}
use Rattle.hb_names.specs.Names.{Name}
use Rattle.hb_eval.specs.declared.{printed.TheConstants.OUTPUT_MAX, value.Value.Value}
use Rattle.hb_eval.specs.declared.value.Value.TheVariants as value
use Rattle.hb_eval.specs.declared.stop.Stop.TheVariants as stop
use Rattle.hb_eval.specs.{Values.object, Values.is_false, Printing.shown, Printing.print_line, Operators.operate}
use Rattle.hb_eval.specs.State.{St, Answer, Lost, Done, Halt, then_do, gives, begin, value_at, bind}
use Rattle.hb_eval.specs.Methods.{named, define, declare}

-- what a call does: its node, the receiver, the number of the method's name, and the arguments
abbrev pub Calls : Type 0
Calls = ℕ → Value → ℕ → List Value → St → Answer

abbrev pub variable : ℕ → Option Value → St → Answer
variable id None s = Halt stop.Unbound id s
variable id (Some v) s = Done v s

abbrev pub self_value : ℕ → Option ClassId → St → Answer
self_value id None s = Halt stop.NoSelf id s
self_value id (Some c) s = Done (value.Object c) s

-- the line of a text is printed, where there is room for it
abbrev pub printed : ℕ → List ℕ → St → Answer
printed id text s =
    if nat_le (length (s.output ++ print_line text)) OUTPUT_MAX
    then Done value.Nil (record s { output = s.output ++ print_line text })
    else Halt stop.OutputFull id s

-- one of two ways, by a condition
abbrev pub choose : Value → Answer → Answer → Answer
choose v yes_way no_way = if is_false v then no_way else yes_way

-- at most so many turns of a loop
unfoldable pub turns : ℕ → (St → Answer) → (St → Answer) → St → Answer
turns zero test body s = Lost
turns (suc n) test body s =
    then_do (test s) (λ v s. choose v (then_do (body s) (λ w s. turns n test body s)) (Done value.Nil s))

-- a loop; each turn takes fuel, so there are no more turns than units of fuel
unfoldable pub loop : (St → Answer) → (St → Answer) → St → Answer
loop test body s = turns (suc s.fuel) test body s

-- an expression or a block of a program, for a list of the names of methods
abbrev mutual
  pub ev : Table → List Name → Calls → Tree → St → Answer
  ev t names call (TNil id) s = begin id s (λ s. Done value.Nil s)
  ev t names call (TTrue id) s = begin id s (λ s. Done (value.Bool true) s)
  ev t names call (TFalse id) s = begin id s (λ s. Done (value.Bool false) s)
  ev t names call (TSelf id) s = begin id s (λ s. self_value id s.self s)
  ev t names call (TInt id n) s = begin id s (λ s. Done (value.Int n) s)
  ev t names call (TText id x) s = begin id s (λ s. Done (value.Str (bytes_at t.texts x)) s)
  ev t names call (TVar id x) s = begin id s (λ s. variable id (value_at s.vars x) s)
  ev t names call (TNew id c) s = begin id s (λ s. Done (object c) s)
  ev t names call (TAssign id x e) s = begin id s (λ s.
      then_do (ev t names call e s) (λ v s. Done v (record s { vars = bind s.vars x v })))
  ev t names call (TPrint id e) s = begin id s (λ s.
      then_do (ev t names call e s) (λ v s. printed id (shown t v) s))
  ev t names call (TToStr id e) s = begin id s (λ s.
      then_do (ev t names call e s) (λ v s. Done (value.Str (shown t v)) s))
  ev t names call (TNot id e) s = begin id s (λ s.
      then_do (ev t names call e s) (λ v s. Done (value.Bool (is_false v)) s))
  ev t names call (TBinary id o a b) s = begin id s (λ s.
      then_do (ev t names call a s) (λ v s. then_do (ev t names call b s) (λ w s. gives id (operate o v w) s)))
  ev t names call (TIf id c a b) s = begin id s (λ s.
      then_do (ev t names call c s) (λ v s. choose v (ev t names call a s) (ev t names call b s)))
  ev t names call (TWhile id c b) s = begin id s (λ s. loop (ev t names call c) (ev t names call b) s)
  ev t names call (TCall id r m args) s = begin id s (λ s.
      then_do (ev t names call r s) (λ v s. ev_arguments t names call args [] (λ vs s. call id v m vs s) s))
  ev t names call (TDef id c m site b) s = begin id s (λ s. define names id (c, bytes_at t.names m) site s)
  ev t names call (TDefComputed id c e site b) s = begin id s (λ s.
      then_do (ev t names call e s) (λ v s. named id v s (λ bytes. define names id (c, bytes) site s)))
  ev t names call (TDeclare id c m site asks) s = begin id s (λ s. declare names id asks (c, bytes_at t.names m) site s)
  ev t names call (TDeclareComputed id c e site asks) s = begin id s (λ s.
      then_do (ev t names call e s) (λ v s. named id v s (λ bytes. declare names id asks (c, bytes) site s)))
  ev t names call (TBlock id es) s = ev_items t names call es value.Nil s

  -- the items of a block, behind one with this value
  pub ev_items : Table → List Name → Calls → Forest → Value → St → Answer
  ev_items t names call NoTree v s = Done v s
  ev_items t names call (Trees e es) v s = then_do (ev t names call e s) (λ w s. ev_items t names call es w s)

  -- the arguments of a call, behind those that are there
  pub ev_arguments : Table → List Name → Calls → Forest → List Value → (List Value → St → Answer) → St → Answer
  ev_arguments t names call NoTree vs go s = go vs s
  ev_arguments t names call (Trees e es) vs go s =
      then_do (ev t names call e s) (λ v s. ev_arguments t names call es (vs ++ v ∷ []) go s)
