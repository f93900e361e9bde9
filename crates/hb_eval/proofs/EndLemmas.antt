-- Frames that end, and stops that pass.
use Rattle.std.proofs.Common.{◌≡◌, ℕ, zero, suc, ◌+◌, ◌-◌, List, [], ◌∷◌, ◌++◌, length, take, drop, Some, None, refl, sym, ap, ◌∙◌, subst, arith, append-nil, length-append, eq-eqb, Vec, Global}
use Rattle.std.specs.Prelude.{reverse, Bool, false, cond, count_by}
use Rattle.std.proofs.{lemmas.List.Sums.sum_by-cons, lemmas.List.length-take-le, lemmas.List.length-reverse, Math.Seq.take-append_seam}
use Rattle.std.specs.List.{AllByRecursion}
use Rattle.hb_types.specs.declared.{ids.CallNo.CallNo, ids.KeyId.KeyId, ids.NameId.NameId}
use Rattle.hb_tree.specs.Table.{Table}
use Rattle.hb_names.specs.Names.{Name}
use Rattle.hb_tables.specs.declared.{entry.Entry.Entry, entry.Act.Act, entry.Act.TheVariants.Free}
use Rattle.hb_tables.specs.declared.entry.By.TheVariants as by
use Rattle.hb_tables.specs.Frames.{acts}
use Rattle.hb_call.specs.{Held.frees, Reading.freed}
use Rattle.hb_eval.specs.declared.state.Hand.TheVariants as hands
use Rattle.hb_eval.specs.declared.{value.Value.Value, stop.Stop.Stop, cont.Cont.Cont, framed.Framed.Framed, state.State.State, state.Move.Move}
use Rattle.hb_eval.specs.declared.cont.Cont.TheVariants as cont
use Rattle.hb_eval.specs.{Values.IsKnown, Calls.acts_before, Calls.read_frees, Runs.is_call, Runs.is_entered, Steps.SameCalls}
use Rattle.hb_eval.specs.State.{Bindings, St, Answer, Done, Halt, tagged, then_do}
use Rattle.hb_eval.specs.Machine.{World, Frames, need, frames_in, plug, room, resume, frame_plug, st_of}
use Rattle.hb_eval.specs.Stacks.{holds_of, ends, views, frames_at, Based, IsKnownFrame}
use Rattle.hb_eval.specs.Turns.{world, with_value, after, Tallies, Reads, Goes}
use Rattle.hb_eval.specs.Ends.{Leaves, with_stop, Lowers}
use Rattle.hb_eval.proofs.{KnownLemmas.taken_known, StackLemmas.pushed_first, StackLemmas.reverse_drop}

pub before_rest : (a b : List Act) → acts_before b (a ++ b) ≡ a
before_rest a b =
    let n : length (a ++ b) - length b ≡ length a = omega (arith, length-append a b) in
    ap (λ k. take k (a ++ b)) n ∙ take-append_seam a b

freed_all : (q : CallNo) (keys : List KeyId) (rest : List Act) → freed q.0 (holds_of keys) (frees q keys ++ rest) ≡ Some rest
freed_all q [] rest = refl
freed_all q (k ∷ keys) rest = rw (eq-eqb q.0 q.0 refl, eq-eqb k.0 k.0 refl) (freed_all q keys rest)

-- Frees that stand first are read
pub frees_read : (q : CallNo) (keys : List KeyId) (s : St) (rest : List Act) (go : St → Answer) → s.journal ≡ frees q keys ++ rest
    → read_frees (freed q.0 (holds_of keys) s.journal) s go ≡ go (record s { read = s.read ++ tagged s.begun (frees q keys); journal = rest })
frees_read q keys s rest go h =
    ap (λ j. read_frees (freed q.0 (holds_of keys) j) s go) h
    ∙ ap (λ o. read_frees o s go) (freed_all q keys rest)
    ∙ ap (λ l. go (record s { read = s.read ++ tagged s.begun l; journal = rest })) (ap (acts_before rest) h ∙ before_rest (frees q keys) rest)

-- no Free is a Call
pub frees_apart : (p : Act → Bool) → ((q : CallNo) (k : KeyId) → p (Free k q) ≡ false) → (q : CallNo) (keys : List KeyId) → count_by p (frees q keys) ≡ 0
frees_apart p h q [] = refl
frees_apart p h q (k ∷ keys) = sum_by-cons (λ x. cond (p x) 1 0) (Free k q) (frees q keys) ∙ ap (λ b. cond b 1 0 + count_by p (frees q keys)) (h q k) ∙ (let r = frees_apart p h q keys in omega (arith, r))

frees_tallies : (old new : State) (q : CallNo) (keys : List KeyId) → SameCalls old new → Tallies old new (frees q keys)
frees_tallies old new q keys h = record {
  decided = omega (arith, h.decided, frees_apart is_call (λ _ _. refl) q keys);
  own = omega (arith, h.own, frees_apart (is_entered by.Own) (λ _ _. refl) q keys);
  fresh = omega (arith, h.fresh, frees_apart (is_entered by.Fresh) (λ _ _. refl) q keys);
  shared = frees_apart (is_entered by.Shared) (λ _ _. refl) q keys;
}

front_each : {A : Type 0} (P : A → Type 0) (xs : List A) (x : A) → AllByRecursion P (xs ++ x ∷ []) → AllByRecursion P xs × P x
front_each P [] x all = (tt, all.0)
front_each P (y ∷ xs) x all = let r = front_each P xs x all.1 in ((all.0, r.0), r.1)

pub taken_each : {A : Type 0} (P : A → Type 0) (n : ℕ) (xs : List A) → AllByRecursion P xs → AllByRecursion P (take n xs)
taken_each P zero xs all = tt
taken_each P (suc n) [] all = tt
taken_each P (suc n) (x ∷ xs) all = (all.0, taken_each P n xs all.1)

-- the frames, where the last of them is this one
top_view : (old_frames new_frames : List Framed) (f : Framed) (old : State) (vars : Bindings) → old_frames ≡ new_frames ++ f ∷ [] → vars ≡ take old.base old.vars.items
    → frames_at old_frames old ≡ ends f (drop f.base vars) ∷ views (reverse new_frames) (take f.base vars)
top_view old_frames new_frames f old vars fs is =
    ap (λ l. views l (take old.base old.vars.items)) (ap reverse fs ∙ pushed_first new_frames f)
    ∙ ap (λ (w : Bindings). ends f (drop f.base w) ∷ views (reverse new_frames) (take f.base w)) (sym is)

-- what a frame's end keeps
pub leaves_lowers : (t : Table) (c : ℕ) (was now : List Entry) (old_frames : List Framed) (old : State) (new_frames : List Framed) (new : State) → Leaves c was now old_frames old new_frames new
    → Lowers t 0 1 old_frames old new_frames new
leaves_lowers t c was now old_frames old new_frames new l = go l.frame new.vars l.frames l.vars l.state
  where
    go : (f : Framed) (vs : Vec (NameId × Value) Global) → old_frames ≡ new_frames ++ f ∷ [] → vs.items ≡ take old.base old.vars.items
        → new ≡ record old { vars = vs; base = f.base; class = f.class } → Lowers t 0 1 old_frames old new_frames new
    go f vs fs vars state =
        let rev : reverse old_frames ≡ f ∷ reverse new_frames = ap reverse fs ∙ pushed_first new_frames f in
        rw state (record {
          operands = omega arith;
          frames = omega (arith, ap length fs, length-append new_frames (f ∷ []));
          steady = record { begun = refl; fuel = refl; calls = record { made = refl; decided = refl; own = refl; fresh = refl }; cache = refl };
          based = λ b.
              let below = subst (λ l. Based l old.base) rev b.below in
              record { top = omega (arith, below.0, b.top, ap length vars, length-take-le old.base old.vars.items b.top); below = below.1 };
          known = λ k.
              let each = front_each (IsKnownFrame t) new_frames f (subst (AllByRecursion (IsKnownFrame t)) fs k.callers) in
              record {
                state = record {
                  acc = k.state.acc;
                  operands = k.state.operands;
                  vars = subst (AllByRecursion (λ b. IsKnown t b.1)) (sym vars) (taken_known t old.base old.vars.items k.state.vars);
                  class = each.1;
                };
                callers = each.0;
              };
        })

-- a frame ends with a value
pub leaves_reads : (known : List Name) (t : Table) (c : ℕ) (was now : List Entry) (old_frames : List Framed) (old : State) (new_frames : List Framed) (new : State) (move : Move)
    → Leaves c was now old_frames old new_frames new → move ≡ record { under = None; push = None; hand = hands.Gives }
    → Reads known c was now old new (with_value t cont.Frame old_frames old) (after t move new_frames new)
leaves_reads known t c was now old_frames old new_frames new move l mv = go l.frame new.vars l.frames l.vars l.grows l.state
  where
    go : (f : Framed) (vs : Vec (NameId × Value) Global) → old_frames ≡ new_frames ++ f ∷ [] → vs.items ≡ take old.base old.vars.items
        → acts c now ≡ acts c was ++ frees f.frame.q f.frame.held.items → new ≡ record old { vars = vs; base = f.base; class = f.class }
        → Reads known c was now old new (with_value t cont.Frame old_frames old) (after t move new_frames new)
    go f vs fs vars grows state =
        let top = top_view old_frames new_frames f old vs.items fs vars in
        let fr = frees f.frame.q f.frame.held.items in
        rw (mv, state) (record {
          more = fr;
          grows = grows;
          same = λ names p few ks read journal.
              let s : St = st_of old read (fr ++ journal) in
              ap (λ g. resume (world t names) ks (reverse old.operands.items) (drop 1 g) (frame_plug g (Done old.acc s))) top
              ∙ ap (resume (world t names) ks (reverse old.operands.items) (views (reverse new_frames) (take f.base vs.items)))
              (frees_read f.frame.q f.frame.held.items s journal (λ s. Done old.acc (record s { vars = drop f.base vs.items; self = f.class })) refl);
          tallies = frees_tallies old (record old { vars = vs; base = f.base; class = f.class }) f.frame.q f.frame.held.items (record { made = refl; decided = refl; own = refl; fresh = refl });
        })

-- a frame ends with a stop
pub leaves_stop : (known : List Name) (t : Table) (c : ℕ) (was now : List Entry) (old_frames : List Framed) (old : State) (new_frames : List Framed) (new : State)
    → Leaves c was now old_frames old new_frames new
    → Reads known c was now old new (with_stop t (cont.Frame ∷ []) old_frames old) (with_stop t [] new_frames new)
leaves_stop known t c was now old_frames old new_frames new l = go l.frame new.vars l.frames l.vars l.grows l.state
  where
    go : (f : Framed) (vs : Vec (NameId × Value) Global) → old_frames ≡ new_frames ++ f ∷ [] → vs.items ≡ take old.base old.vars.items
        → acts c now ≡ acts c was ++ frees f.frame.q f.frame.held.items → new ≡ record old { vars = vs; base = f.base; class = f.class }
        → Reads known c was now old new (with_stop t (cont.Frame ∷ []) old_frames old) (with_stop t [] new_frames new)
    go f vs fs vars grows state =
        let top = top_view old_frames new_frames f old vs.items fs vars in
        let fr = frees f.frame.q f.frame.held.items in
        rw state (record {
          more = fr;
          grows = grows;
          same = λ names p few ks read journal.
              let s : St = st_of old read (fr ++ journal) in
              ap (λ g. resume (world t names) ks (reverse old.operands.items) (drop 1 g) (frame_plug g (Halt old.stop old.at.0 s))) top
              ∙ ap (resume (world t names) ks (reverse old.operands.items) (views (reverse new_frames) (take f.base vs.items)))
              (frees_read f.frame.q f.frame.held.items s journal (λ s. Halt old.stop old.at.0 (record s { vars = drop f.base vs.items; self = f.class })) refl);
          tallies = frees_tallies old (record old { vars = vs; base = f.base; class = f.class }) f.frame.q f.frame.held.items (record { made = refl; decided = refl; own = refl; fresh = refl });
        })

-- a stop is not changed by what is no frame
stop_through : (w : World) (room : ℕ) (k : Cont) (us : List Value) (fs : Frames) (e : Stop) (id : ℕ) (s : St) → (k ≡ cont.Frame → ⊥) → length us ≡ need k → plug w room k us fs (Halt e id s) ≡ Halt e id s
unfolding then_do
stop_through w room cont.Frame us fs e id s ne len = absurd (ne refl)
stop_through w room (cont.Right i o) [] fs e id s ne len = absurd (omega arith)
stop_through w room (cont.Right i o) (v ∷ us) fs e id s ne len = refl
stop_through w room _ us fs e id s ne len = refl

pub no_frame : (k : Cont) → (k ≡ cont.Frame → ⊥) → frames_in k ≡ 0
no_frame cont.Frame ne = absurd (ne refl)
no_frame _ ne = refl

-- a stop passes operands alone
pub passes_operands : (known : List Name) (t : Table) (c : ℕ) (log : List Entry) (k : Cont) (frames : List Framed) (old new : State) (ops : Vec Value Global) (m : ℕ)
    → (k ≡ cont.Frame → ⊥) → new ≡ record old { operands = ops } → ops.items ≡ take m old.operands.items → m + need k ≡ length old.operands.items
    → Reads known c log log old new (with_stop t (k ∷ []) frames old) (with_stop t [] frames new)
passes_operands known t c log k frames old new ops m ne after cut size =
    let none_left : frames_in k ≡ 0 = no_frame k ne in
    let rv : List Value = reverse old.operands.items in
    let len : length (take (need k) rv) ≡ need k = length-take-le (need k) rv (omega (arith, length-reverse old.operands.items)) in
    rw after (record {
      more = [];
      grows = sym (append-nil (acts c log));
      same = λ names p few ks read journal.
          let w : World = world t names in
          let s : St = st_of old read journal in
          ap (resume w ks (drop (need k) rv) (drop (frames_in k) (frames_at frames old))) (stop_through w (room (frames_at frames old)) k (take (need k) rv) (frames_at frames old) old.stop old.at.0 s ne len)
          ∙ ap (λ n. resume w ks (drop (need k) rv) (drop n (frames_at frames old)) (Halt old.stop old.at.0 s)) none_left
          ∙ ap (λ l. resume w ks l (frames_at frames old) (Halt old.stop old.at.0 s)) (sym (reverse_drop old.operands.items m (need k) size) ∙ ap reverse (sym cut))
          ∙ ap (λ q. resume w ks (reverse ops.items) (frames_at frames old) (Halt old.stop old.at.0 (st_of old q journal))) (sym (append-nil read));
      tallies = record { decided = omega arith; own = omega arith; fresh = omega arith; shared = refl };
    })

-- a frame that ended gives a value
pub lowers_goes : (t : Table) (old_frames : List Framed) (old : State) (new_frames : List Framed) (new : State) (move : Move) → Lowers t 0 1 old_frames old new_frames new
    → move ≡ record { under = None; push = None; hand = hands.Gives } → Goes t 0 1 0 old_frames old new_frames new move
lowers_goes t old_frames old new_frames new move l mv =
    rw mv (record {
      under = tt;
      push = tt;
      step = tt;
      light = refl;
      operands = omega (arith, l.operands);
      frames = omega (arith, l.frames);
      calls = omega (arith, l.steady.begun, l.steady.calls.made);
      decided = λ h. omega (arith, h, l.steady.calls.made, l.steady.calls.decided);
      entered = λ h. omega (arith, h, l.steady.calls.own, l.steady.calls.fresh, l.steady.calls.decided);
      based = l.based;
      known = l.known;
    })

-- operands that a stop passes
pub operands_lower : (t : Table) (k : Cont) (frames : List Framed) (old new : State) (ops : Vec Value Global) (m : ℕ) → (k ≡ cont.Frame → ⊥) → new ≡ record old { operands = ops }
    → ops.items ≡ take m old.operands.items → m + need k ≡ length old.operands.items
    → Lowers t (need k) (frames_in k) frames old frames new
operands_lower t k frames old new ops m ne is cut size =
    let none_left = no_frame k ne in
    rw is (record {
      operands = omega (arith, ap length cut, length-take-le m old.operands.items (omega arith));
      frames = omega (arith, none_left);
      steady = record { begun = refl; fuel = refl; calls = record { made = refl; decided = refl; own = refl; fresh = refl }; cache = refl };
      based = λ b. record { top = b.top; below = b.below };
      known = λ k. record {
        state = record { acc = k.state.acc; operands = subst (AllByRecursion (IsKnown t)) (sym cut) (taken_each (IsKnown t) m old.operands.items k.state.operands); vars = k.state.vars; class = k.state.class };
        callers = k.callers;
      };
    })
