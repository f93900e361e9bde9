-- How expressions begin.
use Rattle.std.proofs.Common.{◌≡◌, ℕ, ◌+◌, ◌-◌, ◌≢◌, List, [], ◌∷◌, take, drop, reverse, Some, None, Bool, Result, Ok, Err, IfOk, refl, sym, ap, ◌∙◌, nat_eq, arith}
use Rattle.hb_types.specs.declared.ids.NodeId.{NodeId}
use Rattle.hb_tree.specs.{Table.Table, TreeAt.tree_at, TreeAt.IsExprAt}
use Rattle.hb_tree.specs.Tree.{Tree, TWhile, TCall, TDefComputed, TDeclareComputed, Forest, NoTree, Trees}
use Rattle.hb_tree.proofs.Trees.{id_of-tree_at}
use Rattle.hb_eval.specs.declared.value.Value.TheVariants as value
use Rattle.hb_eval.specs.declared.stop.Stop.TheVariants as stop
use Rattle.hb_eval.specs.declared.{value.Value.Value, cont.Cont.Cont, state.State.State, state.Hand.Hand}
use Rattle.hb_eval.specs.declared.state.Hand.TheVariants as hands
use Rattle.hb_eval.specs.State.{St, Done, Halt, then_do}
use Rattle.hb_eval.specs.Meaning.{ev, ev_arguments, choose, loop}
use Rattle.hb_eval.specs.Fuel.{KeepsFuel}
use Rattle.hb_eval.specs.Machine.{World, Frames, meaning, need, frames_in, method_named, plug, room, resume, st_of, trees_from, arguments_from}
use Rattle.hb_eval.specs.Steps.{InEach, IsFine, HasNoFrame, Took, Started}
use Rattle.hb_eval.proofs.{FuelLemmas.starved, FuelLemmas.begin_goes, BlockLemmas.loop_turn}

-- one expression has begun, and took one unit of fuel
abbrev pub begun : St → St
begun s = record s { begun = s.begun + 1; fuel = s.fuel - 1 }

pub starved_at : (w : World) (room id : ℕ) (s : St) → IsExprAt w.program id → s.fuel ≡ 0 → meaning w room id s ≡ Halt stop.Steps id (record s { begun = s.begun + 1 })
starved_at w room id s x h =
    starved w.program w.names (w.calls room) (tree_at w.program id) s x.1 (ap (λ n. nat_eq n 0) h)
    ∙ ap (λ i. Halt stop.Steps i (record s { begun = s.begun + 1 })) (id_of-tree_at w.program id)

-- a loop begins with its condition
pub while_begins : (w : World) → ((r : ℕ) → KeepsFuel (w.calls r)) → (room id c b : ℕ) (s : St) → IsExprAt w.program c → s.fuel ≢ 0
    → tree_at w.program id ≡ TWhile id (tree_at w.program c) (tree_at w.program b)
    → meaning w room id s ≡ then_do (meaning w room c (begun s)) (λ v u. choose v (then_do (meaning w room b u) (λ x y. loop (meaning w room c) (meaning w room b) y)) (Done value.Nil u))
while_begins w keeps room id c b s x h e =
    ap (λ a. ev w.program w.names (w.calls room) a s) e
    ∙ begin_goes id s (λ u. loop (meaning w room c) (meaning w room b) u) h
    ∙ loop_turn w keeps room c b x (begun s)

whole : (f : Forest) → f ≡ trees_from 0 f
whole NoTree = refl
whole (Trees e es) = refl

-- a call begins with its receiver
pub call_begins : (w : World) (room id r m : ℕ) (args : Forest) (s : St) → s.fuel ≢ 0
    → tree_at w.program id ≡ TCall id (tree_at w.program r) m args
    → meaning w room id s ≡ then_do (meaning w room r (begun s)) (λ v s. arguments_from w room (tree_at w.program id) 0 (v ∷ []) s)
call_begins w room id r m args s h e =
    ap (λ a. ev w.program w.names (w.calls room) a s) e
    ∙ begin_goes id s (λ u. then_do (meaning w room r u) (λ v s. ev_arguments w.program w.names (w.calls room) args [] (λ us s. w.calls room id v m us s) s)) h
    ∙ ap (λ f. then_do (meaning w room r (begun s)) (λ v s. ev_arguments w.program w.names (w.calls room) f [] (λ us s. w.calls room id v m us s) s)) (whole args)
    ∙ ap (λ a. then_do (meaning w room r (begun s)) (λ v s. arguments_from w room a 0 (v ∷ []) s)) (sym e)

-- a `def` with a computed name begins with the name
pub define_begins : (w : World) (room id c e site : ℕ) (b : Tree) (s : St) → s.fuel ≢ 0
    → tree_at w.program id ≡ TDefComputed id c (tree_at w.program e) site b
    → meaning w room id s ≡ then_do (meaning w room e (begun s)) (λ v u. method_named w (tree_at w.program id) v u)
define_begins w room id c e site b s h is =
    ap (λ a. ev w.program w.names (w.calls room) a s) is
    ∙ begin_goes id s (λ u. then_do (meaning w room e u) (λ v u. method_named w (TDefComputed id c (tree_at w.program e) site b) v u)) h
    ∙ ap (λ a. then_do (meaning w room e (begun s)) (λ v u. method_named w a v u)) (sym is)

-- so does a `type` with one
pub declare_begins : (w : World) (room id c e site : ℕ) (asks : Bool) (s : St) → s.fuel ≢ 0
    → tree_at w.program id ≡ TDeclareComputed id c (tree_at w.program e) site asks
    → meaning w room id s ≡ then_do (meaning w room e (begun s)) (λ v u. method_named w (tree_at w.program id) v u)
declare_begins w room id c e site asks s h is =
    ap (λ a. ev w.program w.names (w.calls room) a s) is
    ∙ begin_goes id s (λ u. then_do (meaning w room e u) (λ v u. method_named w (TDeclareComputed id c (tree_at w.program e) site asks) v u)) h
    ∙ ap (λ a. then_do (meaning w room e (begun s)) (λ v u. method_named w a v u)) (sym is)

-- where no fuel is left, an expression stops
pub starved_starts : {E : Type 0} (t : Table) (old : State) (was now : List Cont) (result : Result Hand E)
    → IfOk result (Took (record { under = None; push = None; hand = hands.Stops }) was now)
    → IsExprAt t old.at.0 → old.fuel ≡ 0
    → IfOk result (Started t old (record old { begun = old.begun + 1; stop = stop.Steps }) was now)
starved_starts t old was now (Err e) took x h = tt
starved_starts t old was now (Ok hand) took x h = record {
  move = record { under = None; push = None; hand = hands.Stops };
  took = took;
  moves = λ names calls keeps.
      let w : World = record { program = t; names = names; calls = calls } in
      record {
        same = λ ks fs read journal. ap (resume w ks (reverse old.operands.items) fs) (starved_at w (room fs) old.at.0 (st_of old read journal) x h);
        keeps = record { under = tt; push = tt; step = tt; light = refl; operands = omega arith; base = refl; below = refl; size = omega arith };
      };
  under = tt;
  push = tt;
}

-- what an expression is, where another begins first and this is done with its value
abbrev pub BeginsWith : Cont → (first id : ℕ) → World → Type 0
BeginsWith k first id w = (room : ℕ) (s : St) (us : List Value) (fs : Frames) → s.fuel ≢ 0 → meaning w room id s ≡ plug w room k us fs (meaning w room first (begun s))

-- it takes no operand, and ends no frame
abbrev pub TakesNone : Cont → Type 0
TakesNone k = (need k ≡ 0) × (frames_in k ≡ 0)

-- a part of an expression begins first
pub first_starts : {E : Type 0} (t : Table) (k : Cont) (first : NodeId) (old : State) (was now : List Cont) (result : Result Hand E)
    → IfOk result (Took (record { under = None; push = Some k; hand = hands.Begins }) was now)
    → InEach t (BeginsWith k first.0 old.at.0) → old.fuel ≢ 0 → IsFine t k → IsExprAt t first.0 → TakesNone k → HasNoFrame (Some k)
    → IfOk result (Started t old (record old { begun = old.begun + 1; fuel = old.fuel - 1; at = first }) was now)
first_starts t k first old was now (Err e) took begins h fine x none apart = tt
first_starts t k first old was now (Ok hand) took begins h fine x none apart = record {
  move = record { under = None; push = Some k; hand = hands.Begins };
  took = took;
  moves = λ names calls keeps.
      let w : World = record { program = t; names = names; calls = calls } in
      record {
        same = λ ks fs read journal.
            let vs = reverse old.operands.items in
            let s = st_of old read journal in
            let a = meaning w (room fs) first.0 (begun s) in
            let us = take (need k) vs in
            ap (resume w ks vs fs) (begins names calls keeps (room fs) s us fs h)
            ∙ ap (λ n. resume w ks (drop n vs) fs (plug w (room fs) k us fs a)) (sym none.0)
            ∙ ap (λ n. resume w ks (drop (need k) vs) (drop n fs) (plug w (room fs) k us fs a)) (sym none.1);
        keeps = record { under = tt; push = fine; step = x; light = tt; operands = omega (arith, none.0); base = refl; below = refl; size = omega arith };
      };
  under = tt;
  push = apart;
}
