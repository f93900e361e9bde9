-- The items of a block from a place on, and loops.
use Rattle.std.proofs.Common.{◌≡◌, ℕ, zero, suc, ◌+◌, ◌-◌, ◌<◌, ◌≤◌, List, [], ◌∷◌, length, All, get_or, Some, None, refl, sym, ap, ◌∙◌, subst, arith, add-one}
use Rattle.std.specs.Prelude.{reverse, true, false, if◌then◌else◌, drop, Option, Bool}
use Rattle.std.proofs.{lemmas.List.length-take, lemmas.List.Elements.All-get_or}
use Rattle.hb_types.specs.declared.ids.NodeId.{NodeId}
use Rattle.hb_tree.specs.{Table.Table, Nodes.items_of}
use Rattle.hb_tree.specs.TreeAt.{tree_at, forest_at, IsExprAt, IsBlockAt}
use Rattle.hb_tree.specs.Tree.{Tree, TBlock, Forest, NoTree, Trees, IsBlock}
use Rattle.hb_eval.specs.declared.state.Hand.TheVariants as hands
use Rattle.hb_eval.specs.declared.value.Value.TheVariants as value
use Rattle.hb_eval.specs.declared.{cont.Cont.Cont, state.State.State, state.Move.Move}
use Rattle.hb_eval.specs.declared.cont.Cont.TheVariants as cont
use Rattle.hb_eval.specs.{Values.is_false, Fuel.KeepsFuel}
use Rattle.hb_eval.specs.State.{St, Answer, Lost, Done, Halt, then_do}
use Rattle.hb_eval.specs.Meaning.{ev, ev_items, choose, loop}
use Rattle.hb_eval.specs.Machine.{World, need, meaning, trees_from, items_in, items_from, room, resume, stands, st_of}
use Rattle.hb_eval.specs.Steps.{Starts, Moves, Keeps, IsFine, onto, need_of, forest_size}
use Rattle.hb_eval.proofs.FuelLemmas.{loop_step, leaves_expr, leaves_tree}

-- the tree at a place, and those behind it
pub from_place : (p : ℕ → Tree) (is : List NodeId) (at : ℕ) (d : NodeId) → at < length is → trees_from at (forest_at p is) ≡ Trees (p (get_or is at d).0) (trees_from (suc at) (forest_at p is))
from_place p [] at d h = absurd (omega arith)
from_place p (i ∷ is) zero d h = ap (Trees (p i.0)) (none_dropped (forest_at p is))
  where
    none_dropped : (f : Forest) → f ≡ trees_from zero f
    none_dropped NoTree = refl
    none_dropped (Trees e es) = refl
from_place p (i ∷ is) (suc at) d h = from_place p is at d (omega arith)

-- none are behind the last
pub from_end : (p : ℕ → Tree) (is : List NodeId) (at : ℕ) → length is ≤ at → trees_from at (forest_at p is) ≡ NoTree
from_end p [] zero h = refl
from_end p [] (suc at) h = refl
from_end p (i ∷ is) zero h = absurd (omega arith)
from_end p (i ∷ is) (suc at) h = from_end p is at (omega arith)

-- an item comes next
item_next : (w : World) (block : NodeId) (at : ℕ) (is : List NodeId) (id d : NodeId)
    → tree_at w.program block.0 ≡ TBlock block.0 (forest_at (tree_at w.program) is) → at < length is → id ≡ get_or is at d
    → trees_from at (items_in (tree_at w.program block.0)) ≡ Trees (tree_at w.program id.0) (trees_from (at + 1) (items_in (tree_at w.program block.0)))
item_next w block at is id d e h read =
    let F : Forest = forest_at (tree_at w.program) is in
    let items : items_in (tree_at w.program block.0) ≡ F = ap items_in e in
    ap (trees_from at) items ∙ from_place (tree_at w.program) is at d h
    ∙ ap (λ (i : NodeId). Trees (tree_at w.program i.0) (trees_from (suc at) F)) (sym read)
    ∙ ap (λ n. Trees (tree_at w.program id.0) (trees_from n F)) (sym (add-one at))
    ∙ ap (λ f. Trees (tree_at w.program id.0) (trees_from (at + 1) f)) (sym items)

pub item_starts : (w : World) (block : NodeId) (at : ℕ) (is : List NodeId) (id d : NodeId) (old new : State) (move : Move)
    → new ≡ record old { at = id } → move ≡ record { under = None; push = Some (cont.Items block (at + 1)); hand = hands.Begins }
    → IsBlockAt w.program block.0 → tree_at w.program block.0 ≡ TBlock block.0 (forest_at (tree_at w.program) is) → All (λ i. IsExprAt w.program i.0) is
    → at < length is → id ≡ get_or is at d
    → Starts (λ w room s. items_from w room (tree_at w.program block.0) at old.acc s) old new move w
item_starts w block at is id d old new move after mv b e all h read =
    let expr : IsExprAt w.program id.0 = subst (λ (i : NodeId). IsExprAt w.program i.0) (sym read) (All-get_or (λ i. IsExprAt w.program i.0) is at d h all) in
    let here = item_next w block at is id d e h read in
    rw (after, mv) (record {
      same = λ ks fs read journal. ap (λ f. resume w ks (reverse old.operands.items) fs (ev_items w.program w.names (w.calls (room fs)) f old.acc (st_of old read journal))) here;
      keeps = record {
        under = tt;
        push = b;
        step = expr;
        light = tt;
        operands = omega arith;
        base = refl;
        below = refl;
        size = omega arith;
      };
    })

-- what goes on with a value as it is
then_done : (a : Answer) → then_do a (λ v s. Done v s) ≡ a
unfolding then_do
then_done Lost = refl
then_done (Done v s) = refl
then_done (Halt e id s) = refl

-- the last item comes next
pub item_last : (w : World) (block : NodeId) (at : ℕ) (is : List NodeId) (id d : NodeId) (old new : State) (move : Move)
    → new ≡ record old { at = id } → move ≡ record { under = None; push = None; hand = hands.Begins }
    → tree_at w.program block.0 ≡ TBlock block.0 (forest_at (tree_at w.program) is) → All (λ i. IsExprAt w.program i.0) is
    → at < length is → length is ≤ at + 1 → id ≡ get_or is at d
    → Starts (λ w room s. items_from w room (tree_at w.program block.0) at old.acc s) old new move w
item_last w block at is id d old new move after mv e all h end read =
    let expr : IsExprAt w.program id.0 = subst (λ (i : NodeId). IsExprAt w.program i.0) (sym read) (All-get_or (λ i. IsExprAt w.program i.0) is at d h all) in
    let none_left : trees_from (at + 1) (items_in (tree_at w.program block.0)) ≡ NoTree = ap (λ a. trees_from (at + 1) (items_in a)) e ∙ from_end (tree_at w.program) is (at + 1) end in
    let here : trees_from at (items_in (tree_at w.program block.0)) ≡ Trees (tree_at w.program id.0) NoTree = item_next w block at is id d e h read ∙ ap (Trees (tree_at w.program id.0)) none_left in
    rw (after, mv) (record {
      same = λ ks fs read journal.
          ap (λ f. resume w ks (reverse old.operands.items) fs (ev_items w.program w.names (w.calls (room fs)) f old.acc (st_of old read journal))) here
          ∙ ap (resume w ks (reverse old.operands.items) fs) (then_done (meaning w (room fs) id.0 (st_of old read journal)));
      keeps = record {
        under = tt;
        push = tt;
        step = expr;
        light = tt;
        operands = omega arith;
        base = refl;
        below = refl;
        size = omega arith;
      };
    })

pub items_end : (w : World) (block : NodeId) (at : ℕ) (is : List NodeId) (old new : State) (move : Move)
    → new ≡ old → move ≡ record { under = None; push = None; hand = hands.Gives }
    → tree_at w.program block.0 ≡ TBlock block.0 (forest_at (tree_at w.program) is) → length is ≤ at
    → Starts (λ w room s. items_from w room (tree_at w.program block.0) at old.acc s) old new move w
items_end w block at is old new move after mv e h =
    let here : trees_from at (items_in (tree_at w.program block.0)) ≡ NoTree = ap (λ a. trees_from at (items_in a)) e ∙ from_end (tree_at w.program) is at h in
    rw (after, mv) (record {
      same = λ ks fs read journal. ap (λ f. resume w ks (reverse old.operands.items) fs (ev_items w.program w.names (w.calls (room fs)) f old.acc (st_of old read journal))) here;
      keeps = record {
        under = tt;
        push = tt;
        step = tt;
        light = refl;
        operands = omega arith;
        base = refl;
        below = refl;
        size = omega arith;
      };
    })

-- a block is its items from the first on
pub block_items : (w : World) (room id : ℕ) (s : St) → IsBlockAt w.program id → meaning w room id s ≡ items_from w room (tree_at w.program id) 0 value.Nil s
block_items w room id s b = go (tree_at w.program id) b.1
  where
    none_dropped : (f : Forest) → f ≡ trees_from 0 f
    none_dropped NoTree = refl
    none_dropped (Trees e es) = refl

    go : (e : Tree) → IsBlock e → ev w.program w.names (w.calls room) e s ≡ items_from w room e 0 value.Nil s
    go (TBlock i f) h = ap (λ g. ev_items w.program w.names (w.calls room) g value.Nil s) (none_dropped f)
    go _ h = absurd h

-- one turn of a loop of the program
pub loop_turn : (w : World) → ((r : ℕ) → KeepsFuel (w.calls r)) → (room c b : ℕ) → IsExprAt w.program c → (s : St)
    → loop (meaning w room c) (meaning w room b) s
    ≡ then_do (meaning w room c s) (λ v u. choose v (then_do (meaning w room b u) (λ x y. loop (meaning w room c) (meaning w room b) y)) (Done value.Nil u))
loop_turn w keeps room c b x s =
    loop_step (meaning w room c) (meaning w room b)
    (λ n s l. leaves_expr w.program w.names (w.calls room) (keeps room) (tree_at w.program c) x.1 n s l)
    (λ n s l. leaves_tree w.program w.names (w.calls room) (keeps room) (tree_at w.program b) n s l) s

-- a loop's block begins
pub looped : (w : World) (c b : NodeId) (old new : State) (m move : Move) → IsFine w.program (cont.Test c b) → is_false old.acc ≡ false
    → Starts (λ w room. meaning w room b.0) old new m w → m.under ≡ None → move ≡ record m { under = Some (cont.Turn c b) }
    → Moves (Some (cont.Test c b)) hands.Gives old new move w
unfolding then_do
looped w c b old new m move fine test starts flat is =
    rw is (record {
      same = λ ks fs read journal.
          ap (λ (x : Bool). resume w ks (reverse old.operands.items) fs
          (if x then Done value.Nil (st_of old read journal) else then_do (meaning w (room fs) b.0 (st_of old read journal))
          (λ x s. loop (meaning w (room fs) c.0) (meaning w (room fs) b.0) s))) test
          ∙ starts.same (cont.Turn c b ∷ ks) fs read journal
          ∙ ap (λ (u : Option Cont). stands w (onto m.push (onto u (cont.Turn c b ∷ ks))) fs m.hand new read journal) flat;
      keeps = record {
        under = fine;
        push = starts.keeps.push;
        step = starts.keeps.step;
        light = starts.keeps.light;
        operands = omega (arith, starts.keeps.operands, ap need_of flat);
        base = starts.keeps.base;
        below = starts.keeps.below;
        size = starts.keeps.size;
      };
    })

-- what takes no operand keeps what keeps without it
kept : (t : Table) (k : Cont) (old new : State) (move : Move) → need k ≡ 0 → Keeps t None old new move → Keeps t (Some k) old new move
kept t k old new move none k0 = record {
  under = k0.under;
  push = k0.push;
  step = k0.step;
  light = k0.light;
  operands = omega (arith, none, k0.operands);
  base = k0.base;
  below = k0.below;
  size = k0.size;
}

-- the first of two blocks begins, or the second
pub first_chosen : (w : World) (a b : NodeId) (old new : State) (move : Move) → is_false old.acc ≡ false
    → Starts (λ w room. meaning w room a.0) old new move w → Moves (Some (cont.Choose a b)) hands.Gives old new move w
unfolding then_do
first_chosen w a b old new move test starts = record {
  same = λ ks fs read journal.
      ap (λ (x : Bool). resume w ks (reverse old.operands.items) fs (if x then meaning w (room fs) b.0 (st_of old read journal) else meaning w (room fs) a.0 (st_of old read journal))) test
      ∙ starts.same ks fs read journal;
  keeps = kept w.program (cont.Choose a b) old new move refl starts.keeps;
}

pub second_chosen : (w : World) (a b : NodeId) (old new : State) (move : Move) → is_false old.acc ≡ true
    → Starts (λ w room. meaning w room b.0) old new move w → Moves (Some (cont.Choose a b)) hands.Gives old new move w
unfolding then_do
second_chosen w a b old new move test starts = record {
  same = λ ks fs read journal.
      ap (λ (x : Bool). resume w ks (reverse old.operands.items) fs (if x then meaning w (room fs) b.0 (st_of old read journal) else meaning w (room fs) a.0 (st_of old read journal))) test
      ∙ starts.same ks fs read journal;
  keeps = kept w.program (cont.Choose a b) old new move refl starts.keeps;
}

-- the items of a block go on
pub items_on : (w : World) (block : NodeId) (at : ℕ) (old new : State) (move : Move)
    → Starts (λ w room s. items_from w room (tree_at w.program block.0) at old.acc s) old new move w → Moves (Some (cont.Items block at)) hands.Gives old new move w
unfolding then_do
items_on w block at old new move starts = record {
  same = λ ks fs read journal. starts.same ks fs read journal;
  keeps = kept w.program (cont.Items block at) old new move refl starts.keeps;
}

-- a block begins with its first item
pub block_starts : (w : World) (block : NodeId) (old new : State) (move : Move) → IsBlockAt w.program block.0
    → Starts (λ w room s. items_from w room (tree_at w.program block.0) 0 value.Nil s) (record old { acc = value.Nil }) new move w
    → Starts (λ w room. meaning w room block.0) old new move w
block_starts w block old new move is starts = record {
  same = λ ks fs read journal.
      ap (resume w ks (reverse old.operands.items) fs) (block_items w (room fs) block.0 (st_of old read journal) is)
      ∙ starts.same ks fs read journal;
  keeps = record {
    under = starts.keeps.under;
    push = starts.keeps.push;
    step = starts.keeps.step;
    light = starts.keeps.light;
    operands = starts.keeps.operands;
    base = starts.keeps.base;
    below = starts.keeps.below;
    size = starts.keeps.size;
  };
}

-- a loop's condition begins again
pub turned : (w : World) → ((r : ℕ) → KeepsFuel (w.calls r)) → (c b : NodeId) (old new : State) (move : Move) → IsFine w.program (cont.Turn c b)
    → new ≡ record old { at = c } → move ≡ record { under = None; push = Some (cont.Test c b); hand = hands.Begins }
    → Moves (Some (cont.Turn c b)) hands.Gives old new move w
unfolding then_do
turned w keeps c b old new move fine after mv =
    rw (after, mv) (record {
      same = λ ks fs read journal. ap (resume w ks (reverse old.operands.items) fs) (loop_turn w keeps (room fs) c.0 b.0 fine.0 (st_of old read journal));
      keeps = record {
        under = tt;
        push = fine;
        step = fine.0;
        light = tt;
        operands = omega arith;
        base = refl;
        below = refl;
        size = omega arith;
      };
    })

forest_length : (p : ℕ → Tree) (xs ys : List NodeId) → forest_at p xs ≡ forest_at p ys → length xs ≡ length ys
forest_length p xs ys e = sym (size_at p xs) ∙ ap forest_size e ∙ size_at p ys
  where
    size_at : (p : ℕ → Tree) (is : List NodeId) → forest_size (forest_at p is) ≡ length is
    size_at p [] = refl
    size_at p (i ∷ is) = ap suc (size_at p is)

-- a block has as many items as its node says, at most
pub few_items : (t : Table) (id first count : ℕ) (is : List NodeId) → tree_at t id ≡ TBlock id (forest_at (tree_at t) (items_of t first count))
    → tree_at t id ≡ TBlock id (forest_at (tree_at t) is) → length is ≤ count
few_items t id first count is e h =
    let same : length is ≡ length (items_of t first count) = forest_length (tree_at t) is (items_of t first count) (ap items_in (sym h ∙ e)) in
    omega (arith, same, length-take (first + count - first) (drop first t.items))
