-- What is read of an expression before it begins, and what a leap comes to.
use Rattle.std.proofs.Common.{◌≡◌, ℕ, ◌+◌, ◌-◌, ◌<◌, ◌≤◌, List, [], slice_get, unwrap_or, take, drop, reverse, Option, Some, None, refl, sym, ap, ◌∙◌, subst, arith}
use Rattle.std.specs.Prelude.{ℤ, Ok, IfSome}
use Rattle.hb_types.specs.declared.{ids.NodeId.NodeId}
use Rattle.hb_tree.specs.{Table.Table, TreeAt.tree_at, Canon.bytes_at}
use Rattle.hb_tree.specs.Tree.{TInt, TText, TVar}
use Rattle.hb_tree.specs.declared.node.Op.{Op}
use Rattle.hb_eval.specs.declared.{value.Value.Value, cont.Cont.Cont, state.State.State, state.Hand.Hand, state.Move.Move}
use Rattle.hb_eval.specs.declared.value.Value.TheVariants as value
use Rattle.hb_eval.specs.declared.state.Hand.TheVariants as hands
use Rattle.hb_eval.specs.declared.cont.Cont.TheVariants as cont
use Rattle.hb_eval.specs.State.{Bindings, St, Answer, Done, then_do, gives, value_at}
use Rattle.hb_eval.specs.{Operators.operate, Meaning.ev, Meaning.variable, Values.IsKnown, Ahead.ComesAtOnce, Ahead.IsOperator, Ahead.Leapt, Ahead.behind}
use Rattle.hb_eval.specs.Machine.{World, meaning, need, plug, room, resume, st_of}
use Rattle.hb_eval.specs.Steps.{AreKnown, HasNoFrame, InEach, IsPlain, Moves, Steady, Took}
use Rattle.hb_eval.proofs.{FuelLemmas.begin_goes, BeginLemmas.begun, BeginLemmas.BeginsWith, BeginLemmas.TakesNone}

-- a number
pub int_comes : (t : Table) (vars : Bindings) (id : ℕ) (n : ℤ) → tree_at t id ≡ TInt id n → ComesAtOnce t vars id (value.Int n) 1
int_comes t vars id n e names call s same fuel = ap (λ a. ev t names call a s) e ∙ begin_goes id s (λ s. Done (value.Int n) s) (omega (arith, fuel))

-- a variable that has this value
pub variable_comes : (t : Table) (vars : Bindings) (id x : ℕ) (v : Value) → tree_at t id ≡ TVar id x → value_at vars x ≡ Some v → ComesAtOnce t vars id v 1
variable_comes t vars id x v e found names call s same fuel =
    ap (λ a. ev t names call a s) e
    ∙ begin_goes id s (λ s. variable id (value_at s.vars x) s) (omega (arith, fuel))
    ∙ ap (λ o. variable id o (begun s)) (ap (λ bs. value_at bs x) same ∙ found)

-- a text
pub text_comes : (t : Table) (vars : Bindings) (id x : ℕ) (bytes : List ℕ) → tree_at t id ≡ TText id x → slice_get t.texts x ≡ Some bytes → ComesAtOnce t vars id (value.Str bytes) 1
text_comes t vars id x bytes e is names call s same fuel =
    ap (λ a. ev t names call a s) e
    ∙ begin_goes id s (λ s. Done (value.Str (bytes_at t.texts x)) s) (omega (arith, fuel))
    ∙ ap (λ o. Done (value.Str (unwrap_or o [])) (begun s)) is

-- a variable that may have a text
pub variable_may_be_text : {A : Type 0} (t : Table) (vars : Bindings) (id x : ℕ) (bytes : A → List ℕ) (o : Option A) → tree_at t id ≡ TVar id x → IfSome o (λ v. value_at vars x ≡ Some (value.Str (bytes v)))
    → IfSome o (λ v. ComesAtOnce t vars id (value.Str (bytes v)) 1)
variable_may_be_text t vars id x bytes None e found = tt
variable_may_be_text t vars id x bytes (Some v) e found = variable_comes t vars id x (value.Str (bytes v)) e found

-- a variable that may have a number
pub variable_may_come : (t : Table) (vars : Bindings) (id x : ℕ) (n : Option ℤ) → tree_at t id ≡ TVar id x → IfSome n (λ n. value_at vars x ≡ Some (value.Int n)) → IfSome n (λ n. ComesAtOnce t vars id (value.Int n) 1)
variable_may_come t vars id x None e found = tt
variable_may_come t vars id x (Some n) e found = variable_comes t vars id x (value.Int n) e found

-- the numbers of a state behind several beginnings
counted : (v : Value) (s : St) (b f c g : ℕ) → b ≡ c → f ≡ g → Done v (record s { begun = b; fuel = f }) ≡ Done v (record s { begun = c; fuel = g })
counted v s b f c g begun fuel = ap (λ n. Done v (record s { begun = n; fuel = f })) begun ∙ ap (λ n. Done v (record s { begun = c; fuel = n })) fuel

-- an operator on what comes at once, which gives a value
pub operator_comes : (t : Table) (vars : Bindings) (id : ℕ) (o : Op) (a b : NodeId) (x y v : Value) → IsOperator t id o a b
    → ComesAtOnce t vars a.0 x 1 → ComesAtOnce t vars b.0 y 1 → Ok v ≡ operate o x y → ComesAtOnce t vars id v 3
unfolding then_do
operator_comes t vars id o a b x y v e left right is names call s same fuel =
    let s1 = begun s in
    let s2 : St = record s1 { begun = s1.begun + 1; fuel = s1.fuel - 1 } in
    let s3 : St = record s2 { begun = s2.begun + 1; fuel = s2.fuel - 1 } in
    ap (λ a. ev t names call a s) e
    ∙ begin_goes id s (λ s. then_do (ev t names call (tree_at t a.0) s) (λ v s. then_do (ev t names call (tree_at t b.0) s) (λ w s. gives id (operate o v w) s))) (omega (arith, fuel))
    ∙ ap (λ r. then_do r (λ v s. then_do (ev t names call (tree_at t b.0) s) (λ w s. gives id (operate o v w) s))) (left names call s1 same (omega (arith, fuel)))
    ∙ ap (λ r. then_do r (λ w s. gives id (operate o x w) s)) (right names call s2 same (omega (arith, fuel)))
    ∙ ap (λ r. gives id r s3) (sym is)
    ∙ counted v s (s.begun + 1 + 1 + 1) (s.fuel - 1 - 1 - 1) (s.begun + 3) (s.fuel - 3) (omega arith) (omega arith)

-- what is done with a value that comes at once
value_moves : (t : Table) (old new : State) (move : Move) (k : Cont) (first : NodeId) (v : Value) (n : ℕ)
    → InEach t (BeginsWith k first.0 old.at.0) → TakesNone k → ComesAtOnce t (drop old.base old.vars.items) first.0 v n → n + 1 ≤ old.fuel
    → InEach t (Moves (Some k) hands.Gives (behind old (n + 1) v) new move) → InEach t (Moves None hands.Begins old new move)
value_moves t old new move k first v n begins none comes fuel moves names calls keeps =
    let w : World = record { program = t; names = names; calls = calls } in
    let m = moves names calls keeps in
    record {
      same = λ ks fs read journal.
          let vs = reverse old.operands.items in
          let s = st_of old read journal in
          let us = take (need k) vs in
          let done : Answer = Done v (st_of (behind old (n + 1) v) read journal) in
          let there : meaning w (room fs) old.at.0 s ≡ plug w (room fs) k us fs done =
          begins names calls keeps (room fs) s us fs (omega (arith, fuel))
          ∙ ap (plug w (room fs) k us fs) (comes names (calls (room fs)) (begun s) refl (omega (arith, fuel)) ∙ counted v s (s.begun + 1 + n) (s.fuel - 1 - n) (s.begun + (n + 1)) (s.fuel - (n + 1)) (omega arith) (omega arith)) in
          ap (resume w ks vs fs) there
          ∙ ap (λ i. resume w ks (drop i vs) fs (plug w (room fs) k us fs done)) (sym none.0)
          ∙ ap (λ i. resume w ks (drop (need k) vs) (drop i fs) (plug w (room fs) k us fs done)) (sym none.1)
          ∙ m.same ks fs read journal;
      keeps = record {
        under = m.keeps.under;
        push = m.keeps.push;
        step = m.keeps.step;
        light = m.keeps.light;
        operands = let e = m.keeps.operands in omega (arith, none.0, e);
        base = m.keeps.base;
        below = m.keeps.below;
        size = m.keeps.size;
      };
    }

-- the value itself
operator_moves : (t : Table) (old : State) (v : Value) (n : ℕ) → ComesAtOnce t (drop old.base old.vars.items) old.at.0 v n → n ≤ old.fuel
    → InEach t (Moves None hands.Begins old (behind old n v) (record { under = None; push = None; hand = hands.Gives }))
operator_moves t old v n comes fuel names calls keeps =
    let w : World = record { program = t; names = names; calls = calls } in
    record {
      same = λ ks fs read journal. ap (resume w ks (reverse old.operands.items) fs) (comes names (calls (room fs)) (st_of old read journal) refl fuel);
      keeps = record { under = tt; push = tt; step = tt; light = refl; operands = omega arith; base = refl; below = refl; size = omega arith };
    }

no_frame : (k : Option Cont) → IsPlain k → HasNoFrame k
no_frame None h = tt
no_frame (Some cont.Frame) h = h
no_frame (Some _) h = tt

known_behind : (t : Table) (x : State) (n : ℕ) (v : Value) → IsKnown t v → AreKnown t x → AreKnown t (behind x n v)
known_behind t x n v value h = record { acc = value; operands = h.operands; vars = h.vars; class = h.class }

-- A leap to what is done with a value that is read.
pub value_leaps : (t : Table) (old mid new : State) (vars : Bindings) (was now : List Cont) (hand : Hand) (move : Move) (k : Cont) (first : NodeId) (v : Value) (n : ℕ)
    → mid ≡ behind old (n + 1) v → vars ≡ drop old.base old.vars.items → IsKnown t v
    → InEach t (BeginsWith k first.0 old.at.0) → TakesNone k → ComesAtOnce t vars first.0 v n → n + 1 ≤ old.fuel
    → InEach t (Moves (Some k) hands.Gives mid new move) → IsPlain move.under × IsPlain move.push → Steady mid new → (AreKnown t mid → AreKnown t new)
    → Took move was now hand → Leapt t old new was now hand
value_leaps t old mid new vars was now hand move k first v n there seen value begins none comes fuel moves plain steady known took =
    let steady : Steady (behind old (n + 1) v) new = subst (λ (x : State). Steady x new) there steady in
    record {
      started = record {
        move = move;
        took = took;
        moves = value_moves t old new move k first v n begins none (subst (λ (bs : Bindings). ComesAtOnce t bs first.0 v n) seen comes) fuel (subst (λ (x : State). InEach t (Moves (Some k) hands.Gives x new move)) there moves);
        under = plain.0;
        push = no_frame move.push plain.1;
      };
      begun = let e = steady.begun in omega (arith, e);
      fuel = let e = steady.begun in let f = steady.fuel in omega (arith, e, f, fuel);
      known = λ h. subst (λ (x : State). AreKnown t x → AreKnown t new) there known (known_behind t old (n + 1) v value h);
    }

-- A leap to the value itself.
pub operator_leaps : (t : Table) (old new : State) (vars : Bindings) (was now : List Cont) (hand : Hand) (v : Value) (n : ℕ)
    → new ≡ behind old n v → vars ≡ drop old.base old.vars.items → IsKnown t v → 0 < n → n ≤ old.fuel → ComesAtOnce t vars old.at.0 v n
    → Took (record { under = None; push = None; hand = hands.Gives }) was now hand → Leapt t old new was now hand
operator_leaps t old new vars was now hand v n there seen value some fuel comes took = rw there (record {
  started = record {
    move = record { under = None; push = None; hand = hands.Gives };
    took = took;
    moves = operator_moves t old v n (subst (λ (bs : Bindings). ComesAtOnce t bs old.at.0 v n) seen comes) fuel;
    under = tt;
    push = tt;
  };
  begun = omega (arith, some);
  fuel = omega (arith, fuel);
  known = known_behind t old n v value;
})
