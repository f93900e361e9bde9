-- What is left to do, as a function on answers.
--
-- Contracts see each stack with its last first, and a live frame as what it does with the answer of its body.
use Rattle.std.specs.Prelude.{ℕ, zero, suc, ◌+◌, ◌-◌, List, [], ◌∷◌, ◌++◌, length, take, drop, reverse}
use Rattle.hb_tree.specs.declared.node.Op.{Op}
use Rattle.hb_tree.specs.{Table.Table, TreeAt.tree_at, Canon.bytes_at}
use Rattle.hb_tree.specs.Tree.{Tree, TCall, TDef, TDefComputed, TDeclare, TDeclareComputed, TBlock, Forest, NoTree, Trees}
use Rattle.hb_names.specs.Names.{Name}
use Rattle.hb_tables.specs.declared.entry.Act.{Act}
use Rattle.hb_eval.specs.declared.{value.Value.Value, cont.Cont.Cont, state.State.State, state.Hand.Hand}
use Rattle.hb_eval.specs.declared.value.Value.TheVariants as value
use Rattle.hb_eval.specs.declared.cont.Cont.TheVariants as cont
use Rattle.hb_eval.specs.declared.state.Hand.TheVariants as hands
use Rattle.hb_eval.specs.{Values.is_false, Printing.shown, Operators.operate}
use Rattle.hb_eval.specs.State.{St, Answer, Lost, Done, Halt, then_do, gives, bind}
use Rattle.hb_eval.specs.Methods.{named, define, declare}
use Rattle.hb_eval.specs.Meaning.{Calls, ev, ev_items, ev_arguments, printed, choose, loop}

-- a program, the names of methods, and what a call does where there is room for so many more frames
pub record World : Type 0 where
  pub program : Table
  pub names : List Name
  pub calls : ℕ → Calls

-- the expression or the block at a node
abbrev pub meaning : World → (room : ℕ) → (id : ℕ) → St → Answer
meaning w room id s = ev w.program w.names (w.calls room) (tree_at w.program id) s

-- what a frame does with the answer of its body
abbrev pub Frames : Type 0
Frames = List (Answer → Answer)

-- the trees past the first n
abbrev pub trees_from : ℕ → Forest → Forest
trees_from n NoTree = NoTree
trees_from zero (Trees e es) = Trees e es
trees_from (suc n) (Trees e es) = trees_from n es

-- the items of a block
abbrev pub items_in : Tree → Forest
items_in (TBlock id es) = es
items_in _ = NoTree

-- the items of a block from a place on, behind one with this value
abbrev pub items_from : World → (room : ℕ) → Tree → ℕ → Value → St → Answer
items_from w room block at v s = ev_items w.program w.names (w.calls room) (trees_from at (items_in block)) v s

-- the arguments of a call from a place on, where these values are there: the receiver and the arguments before
abbrev pub arguments_from : World → (room : ℕ) → Tree → ℕ → List Value → St → Answer
arguments_from w room (TCall id r m args) at [] s = Lost
arguments_from w room (TCall id r m args) at (v ∷ vs) s =
    ev_arguments w.program w.names (w.calls room) (trees_from at args) vs (λ us s. w.calls room id v m us s) s
arguments_from w room _ at vs s = Lost

-- a `def` or a `type`, whose name is plain or has this value
abbrev pub method_named : World → Tree → Value → St → Answer
method_named w (TDef id c m site b) v s = define w.names id (c, bytes_at w.program.names m) site s
method_named w (TDeclare id c m site asks) v s = declare w.names id asks (c, bytes_at w.program.names m) site s
method_named w (TDefComputed id c e site b) v s = named id v s (λ bytes. define w.names id (c, bytes) site s)
method_named w (TDeclareComputed id c e site asks) v s = named id v s (λ bytes. declare w.names id asks (c, bytes) site s)
method_named w _ v s = Lost

-- how many operands this takes, and how many frames
abbrev pub need : Cont → ℕ
need (cont.Right id o) = 1
need (cont.Arguments id n) = suc n
need _ = 0

abbrev pub frames_in : Cont → ℕ
frames_in cont.Frame = 1
frames_in _ = 0

abbrev pub right_plug : ℕ → Op → List Value → Answer → Answer
right_plug id o [] a = Lost
right_plug id o (v ∷ us) a = then_do a (λ w s. gives id (operate o v w) s)

abbrev pub frame_plug : Frames → Answer → Answer
frame_plug [] a = Lost
frame_plug (f ∷ fs) a = f a

-- what becomes of an answer, where this is left to do with these operands and frames
abbrev pub plug : World → (room : ℕ) → Cont → List Value → Frames → Answer → Answer
plug w room (cont.Assign x) us fs a = then_do a (λ v s. Done v (record s { vars = bind s.vars x.0 v }))
plug w room (cont.Print id) us fs a = then_do a (λ v s. printed id.0 (shown w.program v) s)
plug w room cont.ToStr us fs a = then_do a (λ v s. Done (value.Str (shown w.program v)) s)
plug w room cont.Not us fs a = then_do a (λ v s. Done (value.Bool (is_false v)) s)
plug w room (cont.Left id o b) us fs a = then_do a (λ v s. then_do (meaning w room b.0 s) (λ u s. gives id.0 (operate o v u) s))
plug w room (cont.Right id o) us fs a = right_plug id.0 o us a
plug w room (cont.Choose x y) us fs a = then_do a (λ v s. choose v (meaning w room x.0 s) (meaning w room y.0 s))
plug w room (cont.Test c b) us fs a = then_do a (λ v s.
    choose v (then_do (meaning w room b.0 s) (λ u s. loop (meaning w room c.0) (meaning w room b.0) s)) (Done value.Nil s))
plug w room (cont.Turn c b) us fs a = then_do a (λ v s. loop (meaning w room c.0) (meaning w room b.0) s)
plug w room (cont.Items block at) us fs a = then_do a (λ v s. items_from w room (tree_at w.program block.0) at v s)
plug w room (cont.Receiver id) us fs a = then_do a (λ v s. arguments_from w room (tree_at w.program id.0) 0 (v ∷ []) s)
plug w room (cont.Arguments id n) us fs a = then_do a (λ v s.
    arguments_from w room (tree_at w.program id.0) (suc n) (reverse us ++ v ∷ []) s)
plug w room (cont.Method id) us fs a = then_do a (λ v s. method_named w (tree_at w.program id.0) v s)
plug w room cont.Frame us fs a = frame_plug fs a

-- for how many more frames there is room
abbrev pub room : Frames → ℕ
room fs = 4096 - length fs

-- what becomes of an answer, where all these are left to do
abbrev pub resume : World → List Cont → List Value → Frames → Answer → Answer
resume w [] vs fs a = a
resume w (k ∷ ks) vs fs a = resume w ks (drop (need k) vs) (drop (frames_in k) fs) (plug w (room fs) k (take (need k) vs) fs a)

-- what a machine has in hand, with the acts read and those left
abbrev pub st_of : State → List (ℕ × Act) → List Act → St
st_of x read journal = record {
  vars = drop x.base x.vars.items;
  self = x.class;
  fuel = x.fuel;
  begun = x.begun;
  next = x.made + 1;
  output = x.output.items;
  read = read;
  journal = journal;
}

-- what comes next: a value, a stop, or an expression
abbrev pub answer_of : World → (room : ℕ) → Hand → State → St → Answer
answer_of w room hands.Stops x s = Halt x.stop x.at.0 s
answer_of w room hands.Gives x s = Done x.acc s
answer_of w room hands.Begins x s = meaning w room x.at.0 s

-- the answer of the whole run, where these are left to do
abbrev pub stands : World → List Cont → Frames → Hand → State → List (ℕ × Act) → List Act → Answer
stands w ks fs hand x read journal =
    resume w ks (reverse x.operands.items) fs (answer_of w (room fs) hand x (st_of x read journal))
