-- What a move does to a machine.
use Rattle.std.proofs.Common.{◌≡◌, ℕ, ◌+◌, ◌<◌, List, Option, Some, None, Ok, Err, refl, sym, ap, ◌∙◌, arith}
use Rattle.std.specs.{Prelude.Result, Prelude.OnOk, List.AllByRecursion}
use Rattle.hb_tree.specs.Table.{Table}
use Rattle.hb_names.specs.Names.{Name}
use Rattle.hb_tables.specs.declared.entry.Act.{Act}
use Rattle.hb_eval.specs.declared.{cont.Cont.Cont, framed.Framed.Framed, state.State.State, state.Hand.Hand, state.Move.Move}
use Rattle.hb_eval.specs.declared.state.Hand.TheVariants as hands
use Rattle.hb_eval.specs.{Calls.call_in, Ends.Lowers, Machines.sum_over, Machines.weigh}
use Rattle.hb_eval.specs.Machine.{Frames, need, frames_in, stands}
use Rattle.hb_eval.specs.Steps.{onto, need_of, InEach, Moves, IsFine, IsFinePush, IsLight, weigh_one, weigh_push}
use Rattle.hb_eval.specs.Stacks.{frames_at, ended_of, calls_in, calls_of}
use Rattle.hb_eval.specs.Turns.{Goes, after, stands_at, world}
use Rattle.hb_eval.proofs.{CallFuelLemmas.calls_keep, TurnLemmas.frames_stay}

-- a move that reads nothing, behind what is to be done or at a beginning
pub moves_same : (t : Table) (front : Option Cont) (before : Hand) (frames : List Framed) (old new : State) (m : Move) → InEach t (Moves front before old new m)
    → (names : List Name) (ks : List Cont) (read : List (ℕ × Act)) (journal : List Act) → stands_at t names (onto front ks) frames before old read journal ≡ after t m frames new names ks read journal
moves_same t front before frames old new m h names ks read journal =
    let w = h names (call_in t names) (calls_keep t names) in
    w.same ks (frames_at frames old) read journal
    ∙ ap (λ (fs : Frames). stands (world t names) (onto m.push (onto m.under ks)) fs m.hand new read journal) (sym (frames_stay frames old new w.keeps.below))

-- what a move leaves to do takes what it takes, and what the rest does
onto_sum : (f : Cont → ℕ) (g : Option Cont → ℕ) → g None ≡ 0 → ((k : Cont) → g (Some k) ≡ f k) → (k : Option Cont) (ks : List Cont) → sum_over f (onto k ks) ≡ g k + sum_over f ks
onto_sum f g none some None ks = omega (arith, none)
onto_sum f g none some (Some k) ks = omega (arith, some k)

pub needs_onto : (m : Move) (ks : List Cont) → sum_over need (onto m.push (onto m.under ks)) ≡ need_of m.push + (need_of m.under + sum_over need ks)
needs_onto m ks = let f = onto_sum need need_of refl (λ k. refl) in f m.push (onto m.under ks) ∙ ap (λ n. need_of m.push + n) (f m.under ks)

pub frames_onto : (m : Move) (ks : List Cont) → sum_over frames_in (onto m.push (onto m.under ks)) ≡ ended_of m.push + (ended_of m.under + sum_over frames_in ks)
frames_onto m ks = let f = onto_sum frames_in ended_of refl (λ k. refl) in f m.push (onto m.under ks) ∙ ap (λ n. ended_of m.push + n) (f m.under ks)

pub calls_onto : (m : Move) (ks : List Cont) → sum_over calls_in (onto m.push (onto m.under ks)) ≡ calls_of m.push + (calls_of m.under + sum_over calls_in ks)
calls_onto m ks = let f = onto_sum calls_in calls_of refl (λ k. refl) in f m.push (onto m.under ks) ∙ ap (λ n. calls_of m.push + n) (f m.under ks)

fine_onto : (t : Table) (k : Option Cont) (ks : List Cont) → IsFinePush t k → AllByRecursion (IsFine t) ks → AllByRecursion (IsFine t) (onto k ks)
fine_onto t None ks h all = all
fine_onto t (Some k) ks h all = (h, all)

pub fine_move : (t : Table) (m : Move) (ks : List Cont) → IsFinePush t m.push → IsFinePush t m.under → AllByRecursion (IsFine t) ks → AllByRecursion (IsFine t) (onto m.push (onto m.under ks))
fine_move t m ks push under all = fine_onto t m.push (onto m.under ks) push (fine_onto t m.under ks under all)

-- a turn that leaves less to do
pub falls_by : (hand : Hand) (k : Cont) (push under : Option Cont) (ks : List Cont) → IsLight hand push → weigh_push under < weigh_one k
    → weigh hand (onto push (onto under ks)) < 1 + (weigh_one k + sum_over weigh_one ks)
falls_by hands.Begins k push under ks light h = omega arith
falls_by hands.Gives k push under ks light h =
    let e : sum_over weigh_one (onto push (onto under ks)) ≡ weigh_push under + sum_over weigh_one ks = ap (λ p. sum_over weigh_one (onto p (onto under ks))) light
    ∙ onto_sum weigh_one weigh_push refl (λ k. refl) under ks in
    omega (arith, e, h)
falls_by hands.Stops k push under ks light h =
    let e : sum_over weigh_one (onto push (onto under ks)) ≡ weigh_push under + sum_over weigh_one ks = ap (λ p. sum_over weigh_one (onto p (onto under ks))) light
    ∙ onto_sum weigh_one weigh_push refl (λ k. refl) under ks in
    omega (arith, e, h)

-- a stop passes as a move would
pub lowers_moves : (t : Table) (k : Cont) (old_frames : List Framed) (old : State) (new_frames : List Framed) (new : State) → Lowers t (need k) (frames_in k) old_frames old new_frames new
    → Goes t (need k) (frames_in k) (calls_in k) old_frames old new_frames new (record { under = None; push = None; hand = hands.Stops })
lowers_moves t k old_frames old new_frames new h = record {
  under = tt;
  push = tt;
  step = tt;
  light = refl;
  operands = omega (arith, h.operands);
  frames = omega (arith, h.frames);
  calls = omega (arith, h.steady.begun, h.steady.calls.made);
  decided = λ d. omega (arith, d, h.steady.calls.made, h.steady.calls.decided);
  entered = λ d. omega (arith, d, h.steady.calls.own, h.steady.calls.fresh, h.steady.calls.decided);
  based = h.based;
  known = h.known;
}

pub on_ok_map : {A E : Type 0} {P Q : Type 0} (r : Result A E) → (P → Q) → OnOk r P → OnOk r Q
on_ok_map (Ok x) f p = f p
on_ok_map (Err e) f p = tt
