-- The frames of a legal list.
use Rattle.std.proofs.Common.{◌≡◌, ℕ, ◌+◌, ◌≤◌, eqb, Bool, true, false, cond, ◌&&◌, List, [], ◌∷◌, ◌++◌, Option, length, sym, refl, ap, ◌∙◌, subst, arith, eq-eqb, append_assoc}
use Rattle.std.proofs.lemmas.Bool.{eqb-true}
use Rattle.hb_types.specs.declared.{ids.KeyId.KeyId, ids.CallNo.CallNo, ids.TypeSite.TypeSite}
use Rattle.hb_tables.specs.declared.{entry.Entry.Entry, entry.Act.Act, entry.Act.TheVariants.Hold, entry.Act.TheVariants.Free, entry.Act.TheVariants.Retype}
use Rattle.hb_tables.specs.declared.{entry.Act.TheVariants.Busy, entry.Act.TheVariants.WornType, entry.Act.TheVariants.Define, entry.Act.TheVariants.WornDef}
use Rattle.hb_tables.specs.declared.{entry.Act.TheVariants.Call}
use Rattle.hb_tables.specs.History.{Spot, blank, same_call, times, without, key_of, done, turn, spot_from, spot, entry, IsLegal}
use Rattle.hb_tables.specs.Frames.{acts, frees, StaysLive, frees_key, KeepsHold}
use Rattle.hb_tables.proofs.CallLemmas.{same_caller, same_number}
use Rattle.hb_tables.proofs.HistoryLemmas.{spot_from_append, spot_more, turn_here, held_keeps, times_length}

pub acts_append : (c : ℕ) (xs ys : List Entry) → acts c (xs ++ ys) ≡ acts c xs ++ acts c ys
acts_append c [] ys = refl
acts_append c (x ∷ xs) ys =
    let r = acts_append c xs ys in
    elim (eqb c x.caller.0) as (λ b. cond b (x.act ∷ acts c (xs ++ ys)) (acts c (xs ++ ys)) ≡ cond b (x.act ∷ acts c xs) (acts c xs) ++ acts c ys) [ true ↦ ap (λ w. x.act ∷ w) r | false ↦ r ]

-- where a caller's act stands in the whole list
pub record Cut (c : ℕ) (log : List Entry) (front : List Act) (a : Act) (back : List Act) : Type 0 where
  pub before : List Entry
  pub after : List Entry
  pub is : log ≡ before ++ entry c a ∷ after
  pub first : acts c before ≡ front
  pub last : acts c after ≡ back

own_entry : (c : ℕ) (x : Entry) → c ≡ x.caller.0 → x ≡ entry c x.act
own_entry c x is = λ i. record { caller = record { 0 = sym is i }; act = x.act }

pub acts_cut : (c : ℕ) (log : List Entry) (front : List Act) (a : Act) (back : List Act) → acts c log ≡ front ++ a ∷ back → Cut c log front a back
acts_cut c [] [] a back h = absurd (cc)
acts_cut c [] (f ∷ fs) a back h = absurd (cc)
acts_cut c (x ∷ xs) front a back h = go (eqb c x.caller.0) refl front h (λ f. acts_cut c xs f a back)
  where
    go : (b : Bool) → eqb c x.caller.0 ≡ b → (front : List Act) → cond b (x.act ∷ acts c xs) (acts c xs) ≡ front ++ a ∷ back → ((f : List Act) → acts c xs ≡ f ++ a ∷ back → Cut c xs f a back)
        → Cut c (x ∷ xs) front a back
    go true e [] h r =
        let same : x.act ≡ a = cc h in
        record { before = []; after = xs; is = ap (λ y. y ∷ xs) (own_entry c x (eqb-true c x.caller.0 e) ∙ ap (entry c) same); first = refl; last = cc h }
    go true e (f ∷ fs) h r =
        let q = r fs (cc h) in let same : x.act ≡ f = cc h in
        record { before = x ∷ q.before; after = q.after; is = ap (λ w. x ∷ w) q.is; first = rw e (ap (λ w. x.act ∷ w) q.first ∙ ap (λ y. y ∷ fs) same); last = q.last }
    go false e front h r =
        let q = r front h in
        record { before = x ∷ q.before; after = q.after; is = ap (λ w. x ∷ w) q.is; first = rw e q.first; last = q.last }

pub live_parts : (q : ℕ) (l m : List Act) → StaysLive q (l ++ m) → StaysLive q l × StaysLive q m
live_parts q [] m h = (tt, h)
live_parts q (a ∷ l) m h = let r = live_parts q l m h.1 in ((h.0, r.0), r.1)

pub live_join : (q : ℕ) (l m : List Act) → StaysLive q l → StaysLive q m → StaysLive q (l ++ m)
live_join q [] m h k = k
live_join q (a ∷ l) m h k = (h.0, live_join q l m h.1 k)

same_other : (x z y : ℕ × ℕ) → same_call z y ≡ true → same_call x y ≡ same_call x z
same_other x z y e = let a = same_caller z y e in let b = same_number z y e in sym (ap (λ n. eqb x.0 n && eqb x.1 z.1) a ∙ ap (λ n. eqb x.0 y.0 && eqb x.1 n) b)

-- another call's Free leaves this one's hold
pub times_other : (x z : ℕ × ℕ) (ys : List (ℕ × ℕ)) → same_call x z ≡ false → times x (without z ys) ≡ times x ys
times_other x z [] ne = refl
times_other x z (y ∷ ys) ne = go (same_call z y) refl (times_other x z ys ne)
  where
    go : (b : Bool) → same_call z y ≡ b → times x (without z ys) ≡ times x ys → times x (cond b (without z ys) (y ∷ without z ys)) ≡ cond (same_call x y) 1 0 + times x ys
    go true e r = let f : same_call x y ≡ false = same_other x z y e ∙ ne in rw f (omega (arith, r))
    go false e r = ap (λ n. cond (same_call x y) 1 0 + n) r

no_free : (c d q p : ℕ) → (c ≡ d → eqb q p ≡ false) → same_call (c, q) (d, p) ≡ false
no_free c d q p h = go (eqb c d) refl
  where
    go : (b : Bool) → eqb c d ≡ b → (b && eqb q p) ≡ false
    go true e = h (eqb-true c d e)
    go false e = refl

-- an act keeps a call's hold, but for its own Free
hold_done : (c q d : ℕ) (s : Spot) (a : Act) → (c ≡ d → frees q a ≡ false) → 1 ≤ times (c, q) s.calls → 1 ≤ times (c, q) (done d s a).calls
hold_done c q d s (Hold key p ty changes) h n = omega arith
hold_done c q d s (Free key p) h n = let e = times_other (c, q) (d, p.0) s.calls (no_free c d q p.0 h) in omega (arith, e, n)
hold_done _ _ _ _ _ _ n = n

frees_here : (q k : ℕ) (a : Act) → frees_key q k a ≡ false → k ≡ key_of a → frees q a ≡ false
frees_here q k (Free key p) h is = go (eqb q p.0) h
  where
    go : (b : Bool) → (b && eqb k key.0) ≡ false → b ≡ false
    go true h = absurd (let e = eq-eqb k key.0 is in cc)
    go false h = refl
frees_here _ _ _ _ _ = refl

hold_from : (k c q : ℕ) (s : Spot) (xs : List Entry) → KeepsHold q k (acts c xs) → 1 ≤ times (c, q) s.calls → 1 ≤ times (c, q) (spot_from k s xs).calls
hold_from k c q s [] h n = n
hold_from k c q s (x ∷ xs) h n = go (eqb c x.caller.0) refl h (hold_from k c q (turn k s x) xs)
  where
    one : (c ≡ x.caller.0 → frees_key q k x.act ≡ false) → 1 ≤ times (c, q) (turn k s x).calls
    one f = here (eqb k (key_of x.act)) refl
      where
        here : (b : Bool) → eqb k (key_of x.act) ≡ b → 1 ≤ times (c, q) (cond b (done x.caller.0 s x.act) s).calls
        here true e = hold_done c q x.caller.0 s x.act (λ is. frees_here q k x.act (f is) (eqb-true k (key_of x.act) e)) n
        here false e = n

    go : (b : Bool) → eqb c x.caller.0 ≡ b → KeepsHold q k (cond b (x.act ∷ acts c xs) (acts c xs))
        → (KeepsHold q k (acts c xs) → 1 ≤ times (c, q) (turn k s x).calls → 1 ≤ times (c, q) (spot_from k (turn k s x) xs).calls) → 1 ≤ times (c, q) (spot_from k (turn k s x) xs).calls
    go true e h r = r h.1 (one (λ _. h.0))
    go false e h r = r h (one (λ is. absurd (let f = eq-eqb c x.caller.0 is in cc)))

-- a key is held as long as its call does not give it back
pub hold_stays : (k c q : ℕ) (before rest : List Entry) → KeepsHold q k (acts c rest) → 1 ≤ times (c, q) (spot k before).calls → 1 ≤ times (c, q) (spot k (before ++ rest)).calls
hold_stays k c q before rest h n = subst (λ (w : Spot). 1 ≤ times (c, q) w.calls) (sym (spot_from_append k blank before rest)) (hold_from k c q (spot k before) rest h n)

pub keeps_parts : (q k : ℕ) (l m : List Act) → KeepsHold q k (l ++ m) → KeepsHold q k l × KeepsHold q k m
keeps_parts q k [] m h = (tt, h)
keeps_parts q k (a ∷ l) m h = let r = keeps_parts q k l m h.1 in ((h.0, r.0), r.1)

-- while a call holds a key, the key keeps its type and its count
pub hold_keeps : (limit k c q : ℕ) (before rest : List Entry) → IsLegal limit (before ++ rest) → KeepsHold q k (acts c rest) → 1 ≤ times (c, q) (spot k before).calls
    → ((spot k (before ++ rest)).ty ≡ (spot k before).ty) × ((spot k (before ++ rest)).changes ≡ (spot k before).changes)
hold_keeps limit k c q before rest legal keeps some = held_keeps limit k (c, q) before rest legal
    (λ mid after e. hold_stays k c q before mid (keeps_parts q k (acts c mid) (acts c after) (subst (KeepsHold q k) (ap (acts c) e ∙ acts_append c mid after) keeps)).0 some)

live_keeps : (q k : ℕ) (l : List Act) → StaysLive q l → KeepsHold q k l
live_keeps q k [] h = tt
live_keeps q k (a ∷ l) h = (one a h.0, live_keeps q k l h.1)
  where
    one : (a : Act) → frees q a ≡ false → frees_key q k a ≡ false
    one (Free key p) h = ap (λ b. b && eqb k key.0) h
    one (Hold key p ty changes) h = refl
    one (Retype key site) h = refl
    one (Busy key pins) h = refl
    one (WornType key) h = refl
    one (Define key site) h = refl
    one (WornDef key) h = refl
    one (Call key p site args verdict) h = refl

-- while a frame is live, the types of its keys stay
pub frame_keeps : (limit k c q : ℕ) (before rest : List Entry) → IsLegal limit (before ++ rest) → StaysLive q (acts c rest) → times (c, q) (spot k before).calls ≡ 1
    → ((spot k (before ++ rest)).ty ≡ (spot k before).ty) × ((spot k (before ++ rest)).changes ≡ (spot k before).changes)
frame_keeps limit k c q before rest legal live once = hold_keeps limit k c q before rest legal (live_keeps q k (acts c rest) live) (omega (arith, once))

-- in a legal list no Retype of a used key stands within a live frame
pub no_retype : (limit k c q : ℕ) (before rest after : List Entry) (d : ℕ) (key : KeyId) (site : TypeSite) → IsLegal limit ((before ++ rest) ++ entry d (Retype key site) ∷ after)
    → StaysLive q (acts c rest) → times (c, q) (spot k before).calls ≡ 1 → key.0 ≡ k → ⊥
no_retype limit k c q before rest after d key site legal live once is =
    let f = legal (before ++ rest) after (entry d (Retype key site)) refl in
    let n = hold_stays k c q before rest (live_keeps q k (acts c rest) live) (omega (arith, once)) in
    let z : length (spot k (before ++ rest)).calls ≡ 0 = subst (λ j. length (spot j (before ++ rest)).calls ≡ 0) is f.0 in
    let m = times_length (c, q) (spot k (before ++ rest)).calls in omega (arith, z, n, m)

pub held_since : (limit c : ℕ) (before rest : List Entry) (q : CallNo) (key : KeyId) (ty : Option TypeSite) (n : ℕ) → IsLegal limit (before ++ entry c (Hold key q ty n) ∷ rest) → KeepsHold q.0 key.0 (acts c rest)
    → ((spot key.0 (before ++ entry c (Hold key q ty n) ∷ rest)).ty ≡ ty) × ((spot key.0 (before ++ entry c (Hold key q ty n) ∷ rest)).changes ≡ n)
    × (1 ≤ times (c, q.0) (spot key.0 (before ++ entry c (Hold key q ty n) ∷ rest)).calls)
held_since limit c before rest q key ty n legal keeps =
    let e : Entry = entry c (Hold key q ty n) in
    let here : List Entry = before ++ e ∷ [] in
    let row = legal before rest e refl in
    let same : here ++ rest ≡ before ++ e ∷ rest = append_assoc before (e ∷ []) rest in
    let is : spot key.0 here ≡ done c (spot key.0 before) (Hold key q ty n) = spot_more key.0 before e ∙ turn_here key.0 (spot key.0 before) e refl in
    let once : 1 ≤ times (c, q.0) (spot key.0 here).calls = subst (λ (w : Spot). 1 ≤ times (c, q.0) w.calls) (sym is) (let a = eq-eqb c c refl in let b = eq-eqb q.0 q.0 refl in rw (a, b) (omega arith)) in
    let k = hold_keeps limit key.0 c q.0 here rest (subst (IsLegal limit) (sym same) legal) keeps once in (
      ap (λ l. (spot key.0 l).ty) (sym same) ∙ k.0 ∙ ap (λ (w : Spot). w.ty) is ∙ sym row.0,
      ap (λ l. (spot key.0 l).changes) (sym same) ∙ k.1 ∙ ap (λ (w : Spot). w.changes) is ∙ sym row.1,
      subst (λ l. 1 ≤ times (c, q.0) (spot key.0 l).calls) same (hold_stays key.0 c q.0 here rest keeps once),
    )
