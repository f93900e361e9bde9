-- A history is the setup's entries, and behind them those of the scripts' turns.
use Rattle.std.proofs.Common.{◌≡◌, ◌≢◌, inl, inr, ℕ, zero, suc, ◌+◌, Bool, true, false, List, [], ◌∷◌, ◌++◌, refl, sym, ap, ◌∙◌, subst, arith, cond, eqb, eq-eqb}
use Rattle.std.specs.Prelude.{IsSome, slice_get, if◌then◌else◌}
use Rattle.std.specs.Option.{option_map}
use Rattle.std.specs.List.{AllByRecursion}
use Rattle.std.proofs.lemmas.Bool.Decides.{eqb_tells}
use Rattle.hb_types.specs.declared.ids.NodeId.{NodeId}
use Rattle.hb_types.specs.declared.ids.NameId.{NameId}
use Rattle.hb_tree.specs.Table.{Table}
use Rattle.hb_tables.specs.declared.entry.Act.{Act}
use Rattle.hb_tables.specs.declared.entry.Entry.{Entry}
use Rattle.hb_tables.specs.Frames.{acts}
use Rattle.hb_tables.specs.History.{Every, entry}
use Rattle.hb_tables.specs.Plain.{AreOwn}
use Rattle.hb_run.specs.History.{HasCaller, IsInTurn, callers_from}
use Rattle.hb_turns.specs.Playing.{Taken, entries_by, entries_of}
use Rattle.hb_ordered.specs.Turns.{among}
use Rattle.hb_ordered.proofs.RealLemmas.{only}
use Rattle.hb_ordered.proofs.WalkLemmas.{not_zero}

-- the entries of others than the setup
abbrev rest_of : List Entry → List Entry
rest_of [] = []
rest_of (e ∷ l) = cond (eqb 0 e.caller.0) (rest_of l) (e ∷ rest_of l)

rest_join : (l m : List Entry) → rest_of (l ++ m) ≡ rest_of l ++ rest_of m
rest_join [] m = refl
rest_join (e ∷ l) m = go (eqb 0 e.caller.0) (rest_join l m)
  where
    go : (b : Bool) → rest_of (l ++ m) ≡ rest_of l ++ rest_of m → cond b (rest_of (l ++ m)) (e ∷ rest_of (l ++ m)) ≡ cond b (rest_of l) (e ∷ rest_of l) ++ rest_of m
    go true h = h
    go false h = ap (λ k. e ∷ k) h

rest_own : (l : List Entry) → AreOwn 0 l → rest_of l ≡ []
rest_own [] own = refl
rest_own (e ∷ l) own = (let is = eq-eqb 0 e.caller.0 (sym own.0) in rw is (rest_own l own.1))

rest_by : (c : ℕ) (l : List Act) → 0 ≢ c → rest_of (entries_by c l) ≡ entries_by c l
rest_by c [] other = refl
rest_by c (a ∷ l) other = elim (eqb_tells 0 c) [
  | inl same ↦ absurd (other same.1)
  | inr not ↦ (let is = not.0 in rw is (ap (λ (k : List Entry). entry c a ∷ k) (rest_by c l other)))
]

rest_foreign : (l : List Entry) → Every (λ before e. 0 ≢ e.caller.0) l → (rest_of l ≡ l) × (acts 0 l ≡ [])
rest_foreign [] h = (refl, refl)
rest_foreign (e ∷ l) h = elim (eqb_tells 0 e.caller.0) [
  | inl same ↦ absurd (h [] l e refl same.1)
  | inr not ↦ (let is = not.0 in let r = rest_foreign l (λ b a x e'. h (e ∷ b) a x (ap (λ (z : List Entry). e ∷ z) e')) in (rw is (ap (λ z. e ∷ z) r.0), rw is r.1))
]

-- the setup's entries come first
pub zero_first : (l : List Entry) → Every IsInTurn l → l ≡ entries_by 0 (acts 0 l) ++ rest_of l
zero_first [] h = refl
zero_first (e ∷ l) h = elim (eqb_tells 0 e.caller.0) [
  | inl same ↦ (
      let is = same.0 in
      let whole : e ≡ entry 0 e.act = ap (λ (d : ℕ). (let x : Entry = record { caller = record { 0 = d }; act = e.act } in x)) (sym same.1) in
      rw is (ap (λ z. z ∷ l) whole ∙ ap (λ k. entry 0 e.act ∷ k) (zero_first l (λ b a x e' mine. λ k d low. h (e ∷ b) a x (ap (λ (z : List Entry). e ∷ z) e') mine (suc k) d (omega (arith, low))))))
  | inr not ↦ (
      let is = not.0 in
      let r = rest_foreign l (λ b a x e' mine. not.1 (sym (h (e ∷ b) a x (ap (λ (z : List Entry). e ∷ z) e') (sym mine) 0 e (omega arith)))) in
      rw is (ap (λ z. e ∷ z) (sym r.0) ∙ ap (λ k. entries_by 0 k ++ (e ∷ rest_of l)) (sym r.1)))
]

-- a caller that has a block is one of the scripts', or the setup
real_script : (c i : ℕ) (ss : List (NameId × NodeId)) → IsSome (option_map (λ s. s.1) (slice_get ss i)) → among (c + i) (callers_from c ss) ≡ true
real_script c i [] h = absurd (cc h)
real_script c zero (s ∷ ss) h = (let same = eq-eqb (c + 0) c (omega arith) in rw same refl)
real_script c (suc i) (s ∷ ss) h = go (eqb (c + suc i) c) (ap (λ n. among n (callers_from (suc c) ss)) (let e : c + suc i ≡ suc c + i = omega arith in e) ∙ real_script (suc c) i ss h)
  where
    go : (b : Bool) → among (c + suc i) (callers_from (suc c) ss) ≡ true → (if b then true else among (c + suc i) (callers_from (suc c) ss)) ≡ true
    go true h = refl
    go false h = h

-- the entries of a caller that is no script are none of a script
rest_other : (t : Table) (c : ℕ) (l : List Act) → among c (callers_from 1 t.scripts) ≡ false → AllByRecursion (HasCaller t) (entries_by c l) → rest_of (entries_by c l) ≡ []
rest_other t c [] lacks h = refl
rest_other t zero (a ∷ l) lacks h = rest_other t zero l lacks h.1
rest_other t (suc i) (a ∷ l) lacks h = absurd (let yes : among (1 + i) (callers_from 1 t.scripts) ≡ true = real_script 1 i t.scripts h.0 in let e : suc i ≡ 1 + i = omega arith in
    let never : false ≡ true = sym lacks ∙ ap (λ n. among n (callers_from 1 t.scripts)) e ∙ yes in cc never)

all_parts : (t : Table) (l m : List Entry) → AllByRecursion (HasCaller t) (l ++ m) → AllByRecursion (HasCaller t) l × AllByRecursion (HasCaller t) m
all_parts t [] m h = (tt, h)
all_parts t (e ∷ l) m h = (let r = all_parts t l m h.1 in ((h.0, r.0), r.1))

all_of : (t : Table) (l : List Entry) → Every (λ before e. HasCaller t e) l → AllByRecursion (HasCaller t) l
all_of t [] h = tt
all_of t (e ∷ l) h = (h [] l e refl, all_of t l (λ b a x is. h (e ∷ b) a x (ap (λ (z : List Entry). e ∷ z) is)))

rest_turns : (t : Table) (us : List Taken) → AllByRecursion (HasCaller t) (entries_of us) → rest_of (entries_of us) ≡ entries_of (only (callers_from 1 t.scripts) us)
rest_turns t [] h = refl
rest_turns t (u ∷ us) h =
    let both = all_parts t (entries_by u.caller u.acts) (entries_of us) h in
    rest_join (entries_by u.caller u.acts) (entries_of us) ∙ go (among u.caller (callers_from 1 t.scripts)) refl both.0 (rest_turns t us both.1)
  where
    go : (b : Bool) → among u.caller (callers_from 1 t.scripts) ≡ b → AllByRecursion (HasCaller t) (entries_by u.caller u.acts) → rest_of (entries_of us) ≡ entries_of (only (callers_from 1 t.scripts) us)
        → rest_of (entries_by u.caller u.acts) ++ rest_of (entries_of us) ≡ entries_of (if b then u ∷ only (callers_from 1 t.scripts) us else only (callers_from 1 t.scripts) us)
    go true e h k = ap (λ l. l ++ rest_of (entries_of us)) (rest_by u.caller u.acts (not_zero u.caller t.scripts e)) ∙ ap (λ l. entries_by u.caller u.acts ++ l) k
    go false e h k = ap (λ l. l ++ rest_of (entries_of us)) (rest_other t u.caller u.acts e h) ∙ k

pub first_of : (t : Table) (log start : List Entry) (us : List Taken) → Every IsInTurn log → Every (λ before e. HasCaller t e) log → log ≡ start ++ entries_of us → AreOwn 0 start
    → log ≡ entries_by 0 (acts 0 log) ++ entries_of (only (callers_from 1 t.scripts) us)
first_of t log start us turn callers is own =
    let both = all_parts t start (entries_of us) (subst (AllByRecursion (HasCaller t)) is (all_of t log callers)) in
    zero_first log turn ∙ ap (λ l. entries_by 0 (acts 0 log) ++ l) (ap rest_of is ∙ rest_join start (entries_of us) ∙ ap (λ l. l ++ rest_of (entries_of us)) (rest_own start own) ∙ rest_turns t us both.1)
