-- What moves keep of the stacks.
use Rattle.std.proofs.Common.{◌≡◌, ℕ, zero, suc, ◌-◌, ◌<◌, ◌≤◌, List, [], ◌∷◌, ◌++◌, length, get_or, take, drop, Option, Some, None, refl, sym, ap, ◌∙◌, subst, arith, length-append, Vec, Global}
use Rattle.std.specs.{Prelude.reverse, List.AllByRecursion}
use Rattle.std.proofs.lemmas.List.{length-take-le}
use Rattle.hb_types.specs.declared.{ids.ClassId.ClassId, ids.NameId.NameId, ids.NodeId.NodeId}
use Rattle.hb_tree.specs.declared.parts.Body.{Body}
use Rattle.hb_tree.specs.{Table.Table, TreeAt.tree_at, TreeAt.IsExprAt, Nodes.params_of}
use Rattle.hb_tree.proofs.Lists.{each_append}
use Rattle.hb_call.specs.declared.frame.Frame.{Frame}
use Rattle.hb_eval.specs.declared.{state.Hand.Hand, value.Value.Value, cont.Cont.Cont, framed.Framed.Framed, state.State.State, state.Move.Move}
use Rattle.hb_eval.specs.declared.state.Hand.TheVariants as hands
use Rattle.hb_eval.specs.declared.cont.Cont.TheVariants as cont
use Rattle.hb_eval.specs.{Values.IsKnown, Calls.bindings, State.St, State.Answer, Calls.call_in, Machine.World, Turns.Goes}
use Rattle.hb_eval.specs.Steps.{InEach, Starts, Moves}
use Rattle.hb_eval.proofs.{CallFuelLemmas.calls_keep, StackLemmas.pushed_first, EndLemmas.taken_each}
use Rattle.hb_eval.specs.Steps.{AreKnown, IsCall, arguments_in, IsPlain, HasNoFrame, Keeps, SameCalls, need_of}
use Rattle.hb_eval.specs.Stacks.{Based, IsBased, IsKnownFrame, ended_of, calls_of}

based_on : (frames : List Framed) (old new : State) → new.base ≡ old.base → length old.vars.items ≤ length new.vars.items → IsBased frames old → IsBased frames new
based_on frames old new base size b = record { top = omega (arith, b.top, base, size); below = subst (Based (reverse frames)) (sym base) b.below }

pub plain_none : (k : Option Cont) → IsPlain k → (ended_of k ≡ 0) × (calls_of k ≡ 0)
plain_none (Some (cont.Receiver id)) h = absurd h
plain_none (Some (cont.Arguments id n)) h = absurd h
plain_none (Some cont.Frame) h = absurd h
plain_none None h = (refl, refl)
plain_none (Some _) h = (refl, refl)

few_calls : (k : Option Cont) → calls_of k ≤ 1
few_calls (Some (cont.Receiver id)) = omega arith
few_calls _ = omega arith

no_end : (k : Option Cont) → HasNoFrame k → ended_of k ≡ 0
no_end (Some cont.Frame) h = absurd h
no_end None h = refl
no_end (Some _) h = refl

-- what keeps in each world
pub keeps_of : (t : Table) (before : World → ℕ → St → Answer) (old new : State) (move : Move) → InEach t (Starts before old new move) → Keeps t None old new move
keeps_of t before old new move h = (h [] (call_in t []) (calls_keep t [])).keeps

pub keeps_moves : (t : Table) (front : Option Cont) (before : Hand) (old new : State) (move : Move) → InEach t (Moves front before old new move) → Keeps t front old new move
keeps_moves t front before old new move h = (h [] (call_in t []) (calls_keep t [])).keeps

-- what is neither part of a call nor the end of a frame
pub plain_goes : (t : Table) (front : Option Cont) (frames : List Framed) (old new : State) (move : Move) → Keeps t front old new move → IsPlain move.under → IsPlain move.push
    → new.begun ≡ old.begun → SameCalls old new → (AreKnown t old → AreKnown t new)
    → Goes t (need_of front) 0 0 frames old frames new move
plain_goes t front frames old new move k under push begun same known =
    let u = plain_none move.under under in
    let p = plain_none move.push push in
    record {
      under = k.under;
      push = k.push;
      step = k.step;
      light = k.light;
      operands = k.operands;
      frames = omega (arith, u.0, p.0);
      calls = omega (arith, u.1, p.1, begun, same.made);
      decided = λ h. omega (arith, h, same.made, same.decided);
      entered = λ h. omega (arith, h, same.own, same.fresh, same.decided);
      based = based_on frames old new k.base k.size;
      known = λ h. record { state = known h.state; callers = h.callers };
    }

-- an expression that begins
pub begun_goes : (t : Table) (frames : List Framed) (old new : State) (move : Move) → Keeps t None old new move → IsPlain move.under → HasNoFrame move.push → old.begun < new.begun
    → SameCalls old new → (AreKnown t old → AreKnown t new)
    → Goes t 0 0 0 frames old frames new move
begun_goes t frames old new move k under push begun same known =
    let u = plain_none move.under under in
    record {
      under = k.under;
      push = k.push;
      step = k.step;
      light = k.light;
      operands = k.operands;
      frames = omega (arith, u.0, no_end move.push push);
      calls = omega (arith, u.1, few_calls move.push, begun, same.made);
      decided = λ h. omega (arith, h, same.made, same.decided);
      entered = λ h. omega (arith, h, same.own, same.fresh, same.decided);
      based = based_on frames old new k.base k.size;
      known = λ h. record { state = known h.state; callers = h.callers };
    }

pub argument_goes : (t : Table) (id : NodeId) (n : ℕ) (a : NodeId) (frames : List Framed) (old new : State) (move : Move) → new ≡ record old { at = a }
    → move ≡ record { under = None; push = Some (cont.Arguments id n); hand = hands.Begins }
    → IsExprAt t id.0 → IsCall (tree_at t id.0) → n < arguments_in (tree_at t id.0) → n < 4 → IsExprAt t a.0 → n < length old.operands.items
    → Goes t (suc n) 0 1 frames old frames new move
argument_goes t id n a frames old new move is mv ex is_call few four expr there =
    rw (is, mv) (record {
      under = tt;
      push = (ex, is_call, few, four);
      step = expr;
      light = tt;
      operands = omega arith;
      frames = omega arith;
      calls = omega arith;
      decided = λ h. h;
      entered = λ h. h;
      based = λ b. record { top = b.top; below = b.below };
      known = λ h. record { state = record { acc = h.state.acc; operands = h.state.operands; vars = h.state.vars; class = h.state.class }; callers = h.callers };
    })

-- the value in hand became an operand before
pub pushed_goes : (t : Table) (n pending : ℕ) (frames : List Framed) (old mid : State) (new_frames : List Framed) (new : State) (move : Move) (ops : Vec Value Global) (a : Value)
    → ops.items ≡ old.operands.items ++ old.acc ∷ [] → mid ≡ record old { operands = ops; acc = a } → IsKnown t a
    → Goes t (suc n) 0 pending frames mid new_frames new move → Goes t n 0 pending frames old new_frames new move
pushed_goes t n pending frames old mid new_frames new move ops a pushed is nil g =
    go (subst (λ (x : State). Goes t (suc n) 0 pending frames x new_frames new move) is g)
  where
    go : Goes t (suc n) 0 pending frames (record old { operands = ops; acc = a }) new_frames new move → Goes t n 0 pending frames old new_frames new move
    go g = record {
      under = g.under;
      push = g.push;
      step = g.step;
      light = g.light;
      operands = omega (arith, g.operands, ap length pushed, length-append old.operands.items (old.acc ∷ []));
      frames = g.frames;
      calls = g.calls;
      decided = g.decided;
      entered = g.entered;
      based = λ b. g.based (record { top = b.top; below = b.below });
      known = λ h. g.known (record {
        state = record {
          acc = nil;
          operands = subst (AllByRecursion (IsKnown t)) (sym pushed) (each_append (IsKnown t) old.operands.items (old.acc ∷ []) h.state.operands (h.state.acc, tt));
          vars = h.state.vars;
          class = h.state.class;
        };
        callers = h.callers;
      });
    }

pub dropped_each : {A : Type 0} (P : A → Type 0) (n : ℕ) (xs : List A) → AllByRecursion P xs → AllByRecursion P (drop n xs)
dropped_each P zero xs all = all
dropped_each P (suc n) [] all = tt
dropped_each P (suc n) (x ∷ xs) all = dropped_each P n xs all.1

pub each_at : {A : Type 0} (P : A → Type 0) (xs : List A) (i : ℕ) (d : A) → AllByRecursion P xs → i < length xs → P (get_or xs i d)
each_at P [] i d all lt = absurd (omega (arith, lt))
each_at P (x ∷ xs) zero d all lt = all.0
each_at P (x ∷ xs) (suc i) d all lt = each_at P xs i d all.1 (omega (arith, lt))

bindings_known : (t : Table) (params : List ℕ) (vs : List Value) → AllByRecursion (IsKnown t) vs → AllByRecursion (λ b. IsKnown t b.1) (bindings params vs)
bindings_known t [] vs all = tt
bindings_known t (x ∷ params) [] all = tt
bindings_known t (x ∷ params) (v ∷ vs) all = (all.0, bindings_known t params vs all.1)

-- a body begins in a frame of its own
pub body_goes : (t : Table) (f : Frame) (cl : ClassId) (b : Body) (at base : ℕ) (frames new_frames : List Framed) (old new : State) (ops : Vec Value Global) (vars : Vec (NameId × Value) Global) (m move : Move)
    → at < length old.operands.items → base ≡ length old.vars.items → cl.0 < length t.classes
    → new_frames ≡ frames ++ record { frame = f; base = old.base; class = old.class } ∷ [] → ops.items ≡ take at old.operands.items
    → vars.items ≡ old.vars.items ++ bindings (params_of b) (drop (suc at) old.operands.items)
    → Keeps t None (record old { operands = ops; vars = vars; base = base; class = Some cl }) new m → IsPlain m.push → new.begun ≡ old.begun → SameCalls old new
    → (AreKnown t (record old { operands = ops; vars = vars; base = base; class = Some cl }) → AreKnown t new)
    → m.under ≡ None → move ≡ record m { under = Some cont.Frame }
    → Goes t (length old.operands.items - at) 0 0 frames old new_frames new move
body_goes t f cl b at base frames new_frames old new ops vars m move lt place class framed cut bound k push begun same known flat mv =
    let p = plain_none m.push push in
    let fr : Framed = record { frame = f; base = old.base; class = old.class } in
    let rev : reverse new_frames ≡ fr ∷ reverse frames = ap reverse framed ∙ pushed_first frames fr in
    let mid : State = record old { operands = ops; vars = vars; base = base; class = Some cl } in
    let args = drop (suc at) old.operands.items in
    rw mv (record {
      under = tt;
      push = k.push;
      step = k.step;
      light = k.light;
      operands = omega (arith, k.operands, ap need_of flat, ap length cut, length-take-le at old.operands.items (omega arith), lt);
      frames = omega (arith, ap length framed, length-append frames (fr ∷ []), p.0);
      calls = omega (arith, p.1, begun, same.made);
      decided = λ h. omega (arith, h, same.made, same.decided);
      entered = λ h. omega (arith, h, same.own, same.fresh, same.decided);
      based = λ h. based_on new_frames mid new k.base k.size
          (record {
            top = omega (arith, place, ap length bound, length-append old.vars.items (bindings (params_of b) args));
            below = subst (λ l. Based l base) (sym rev) (omega (arith, h.top, place), h.below);
          });
      known = λ h. record {
        state = known (record {
          acc = h.state.acc;
          operands = subst (AllByRecursion (IsKnown t)) (sym cut) (taken_each (IsKnown t) at old.operands.items h.state.operands);
          vars = subst (AllByRecursion (λ b. IsKnown t b.1)) (sym bound)
              (each_append (λ b. IsKnown t b.1) old.vars.items (bindings (params_of b) args) h.state.vars
              (bindings_known t (params_of b) args (dropped_each (IsKnown t) (suc at) old.operands.items h.state.operands)));
          class = class;
        });
        callers = subst (AllByRecursion (IsKnownFrame t)) (sym framed) (each_append (IsKnownFrame t) frames (fr ∷ []) h.callers (h.state.class, tt));
      };
    })
