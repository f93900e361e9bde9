-- The state after a longer list, and legal lists.
use Rattle.std.proofs.Common.{◌≡◌, ◌≢◌, ℕ, ◌<◌, ◌≤◌, eqb, true, false, cond, List, [], ◌∷◌, ◌++◌, length, sym, refl, ap, ◌∙◌, subst, arith, eq-eqb, ne_eqb, append_assoc}
use mathlib.Core.Logic.{dite}
use native.Mathlib.Decide.{ℕ_discrete}
use mathlib.Core.List.{IsPrefix}
use Rattle.std.proofs.lemmas.List.{append-nil}
use Rattle.hb_tables.specs.declared.{entry.TheConstants.HOLDS_MAX, entry.Entry.Entry, entry.Act.Act, entry.Act.TheVariants.Hold, entry.Act.TheVariants.Free}
use Rattle.hb_tables.specs.declared.{entry.Act.TheVariants.Retype, entry.Act.TheVariants.Busy, entry.Act.TheVariants.WornType, entry.Act.TheVariants.Define}
use Rattle.hb_tables.specs.declared.{entry.Act.TheVariants.WornDef, entry.Act.TheVariants.Call}
use Rattle.hb_tables.specs.History.{Spot, blank, key_of, done, turn, spot_from, spot, journal, times, without, of_caller, FitsAct, Fits, Every, IsLegal, Sound}
use Rattle.hb_tables.proofs.CallLemmas.{times_own, own_without, own_without_other, fewer, times_without, times_more, length_without}

pub spot_from_append : (k : ℕ) (s : Spot) (xs ys : List Entry) → spot_from k s (xs ++ ys) ≡ spot_from k (spot_from k s xs) ys
spot_from_append k s [] ys = refl
spot_from_append k s (x ∷ xs) ys = spot_from_append k (turn k s x) xs ys

pub spot_more : (k : ℕ) (log : List Entry) (e : Entry) → spot k (log ++ e ∷ []) ≡ turn k (spot k log) e
spot_more k log e = spot_from_append k blank log (e ∷ [])

pub turn_here : (k : ℕ) (s : Spot) (e : Entry) → k ≡ key_of e.act → turn k s e ≡ done e.caller.0 s e.act
turn_here k s e is = subst (λ b. cond b (done e.caller.0 s e.act) s ≡ done e.caller.0 s e.act) (sym (eq-eqb k (key_of e.act) is)) refl

pub turn_else : (k : ℕ) (s : Spot) (e : Entry) → k ≢ key_of e.act → turn k s e ≡ s
turn_else k s e ne = subst (λ b. cond b (done e.caller.0 s e.act) s ≡ s) (sym (ne_eqb k (key_of e.act) ne)) refl

pub journal_append : (c : ℕ) (xs ys : List Entry) → journal c (xs ++ ys) ≡ journal c xs ++ journal c ys
journal_append c [] ys = refl
journal_append c (x ∷ xs) ys =
    let r = journal_append c xs ys in
    elim (eqb c x.caller.0) as (λ b. cond b (x ∷ journal c (xs ++ ys)) (journal c (xs ++ ys)) ≡ cond b (x ∷ journal c xs) (journal c xs) ++ journal c ys) [ true ↦ ap (λ w. x ∷ w) r | false ↦ r ]

cut : (log before after : List Entry) (e x : Entry) (F : List Entry → Entry → Type 0) → log ++ e ∷ [] ≡ before ++ x ∷ after
    → F log e → ((rest : List Entry) → log ≡ before ++ x ∷ rest → F before x) → F before x
cut [] [] after e x F is last early = let h : e ≡ x = cc is in subst (F []) h last
cut [] (b ∷ []) after e x F is last early = absurd (cc is)
cut [] (b ∷ (d ∷ ds)) after e x F is last early = absurd (cc is)
cut (l ∷ ls) [] after e x F is last early = let h : l ≡ x = cc is in early ls (ap (λ y. y ∷ ls) h)
cut (l ∷ ls) (b ∷ bs) after e x F is last early =
    let h : l ≡ b = cc is in
    cut ls bs after e x (λ w y. F (b ∷ w) y) (cc is) (subst (λ y. F (y ∷ ls) e) h last) (λ rest r. early rest (cc (h, r)))

module _ (F : List Entry → Entry → Type 0) where
  pub every_none : Every F []
  every_none [] after e is = absurd cc
  every_none (b ∷ bs) after e is = absurd cc

  pub every_more : (log : List Entry) (e : Entry) → Every F log → F log e → Every F (log ++ e ∷ [])
  every_more log e all fits before after x is = cut log before after e x F is fits (λ rest r. all before rest x r)

  pub every_prefix : (xs ys : List Entry) → IsPrefix xs ys → Every F ys → Every F xs
  every_prefix xs ys p all before after x is = all before (after ++ p.0) x (sym p.1 ∙ (ap (λ w. w ++ p.0) is ∙ append_assoc before (x ∷ after) p.0))

  climb : (P : List Entry → Type 0) → ((log : List Entry) (e : Entry) → P log → F log e → P (log ++ e ∷ [])) → (before rest : List Entry) → P before → Every F (before ++ rest) → P (before ++ rest)
  climb P up before [] now all = subst P (sym (append-nil before)) now
  climb P up before (x ∷ xs) now all =
      let same : (before ++ x ∷ []) ++ xs ≡ before ++ x ∷ xs = append_assoc before (x ∷ []) xs in
      subst P same (climb P up (before ++ x ∷ []) xs (up before x now (all before xs x refl)) (subst (Every F) (sym same) all))

  -- what holds of the empty list and is kept by each entry that stands in the relation holds of each such list
  pub every_climb : (P : List Entry → Type 0) → P [] → ((log : List Entry) (e : Entry) → P log → F log e → P (log ++ e ∷ [])) → (log : List Entry) → Every F log → P log
  every_climb P start up log all = climb P up [] log start all

pub legal_none : (limit : ℕ) → IsLegal limit []
legal_none limit = every_none (Fits limit)

pub legal_more : (limit : ℕ) (log : List Entry) (e : Entry) → IsLegal limit log → Fits limit log e → IsLegal limit (log ++ e ∷ [])
legal_more limit = every_more (Fits limit)

pub legal_prefix : (limit : ℕ) (xs ys : List Entry) → IsPrefix xs ys → IsLegal limit ys → IsLegal limit xs
legal_prefix limit = every_prefix (Fits limit)

pub legal_climb : (limit : ℕ) (P : List Entry → Type 0) → P [] → ((log : List Entry) (e : Entry) → P log → Fits limit log e → P (log ++ e ∷ [])) → (log : List Entry) → IsLegal limit log → P log
legal_climb limit = every_climb (Fits limit)

-- what a caller's calls are after an act depends on its own acts alone
own_done : (c : ℕ) (s t : Spot) (a : Act) → of_caller c s.calls ≡ of_caller c t.calls → of_caller c (done c s a).calls ≡ of_caller c (done c t a).calls
own_done c s t (Hold key q ty changes) e = let h = eq-eqb c c refl in rw h (ap (λ w. (c, q.0) ∷ w) e)
own_done c s t (Free key q) e = own_without c q.0 s.calls ∙ (ap (without (c, q.0)) e ∙ sym (own_without c q.0 t.calls))
own_done _ _ _ _ e = e

other_done : (c d : ℕ) (s : Spot) (a : Act) → c ≢ d → of_caller c (done d s a).calls ≡ of_caller c s.calls
other_done c d s (Hold key q ty changes) ne = let h = ne_eqb c d ne in rw h refl
other_done c d s (Free key q) ne = own_without_other c d q.0 s.calls ne
other_done _ _ _ _ _ = refl

own_from : (k c : ℕ) (s t : Spot) (xs : List Entry) → of_caller c s.calls ≡ of_caller c t.calls → of_caller c (spot_from k s xs).calls ≡ of_caller c (spot_from k t (journal c xs)).calls
own_from k c s t [] e = e
own_from k c s t (x ∷ xs) e = dite (ℕ_discrete c x.caller.0)
    (λ is. rw (eq-eqb c x.caller.0 is) (own_from k c (turn k s x) (turn k t x) xs
    (elim (eqb k (key_of x.act)) as (λ b. of_caller c (cond b (done x.caller.0 s x.act) s).calls ≡ of_caller c (cond b (done x.caller.0 t x.act) t).calls) [
      | true ↦ subst (λ d. of_caller c (done d s x.act).calls ≡ of_caller c (done d t x.act).calls) is (own_done c s t x.act e)
      | false ↦ e
    ])))
    (λ ne. rw (ne_eqb c x.caller.0 ne) (own_from k c (turn k s x) t xs (elim (eqb k (key_of x.act)) as (λ b. of_caller c (cond b (done x.caller.0 s x.act) s).calls ≡ of_caller c t.calls) [
      | true ↦ other_done c x.caller.0 s x.act ne ∙ e
      | false ↦ e
    ])))

-- the calls of a caller that hold a key follow from its journal
pub own_calls : (k c : ℕ) (xs ys : List Entry) → journal c xs ≡ journal c ys → of_caller c (spot k xs).calls ≡ of_caller c (spot k ys).calls
own_calls k c xs ys e = own_from k c blank blank xs refl ∙ (ap (λ w. of_caller c (spot_from k blank w).calls) e ∙ sym (own_from k c blank blank ys refl))

pub own_times : (k c q : ℕ) (xs ys : List Entry) → journal c xs ≡ journal c ys → times (c, q) (spot k xs).calls ≡ times (c, q) (spot k ys).calls
own_times k c q xs ys e = sym (times_own c q (spot k xs).calls) ∙ (ap (times (c, q)) (own_calls k c xs ys e) ∙ times_own c q (spot k ys).calls)

sound_blank : (limit : ℕ) → Sound limit blank
sound_blank limit = record { changes = omega arith; redefs = omega arith; ty = omega arith; body = omega arith; few = λ c. omega arith; once = λ x. omega arith }

sound_done : (limit c : ℕ) (s : Spot) (a : Act) → Sound limit s → FitsAct limit c s a → Sound limit (done c s a)
sound_done limit c s (Hold key q ty changes) w f = record {
  changes = w.changes;
  redefs = w.redefs;
  ty = w.ty;
  body = w.body;
  few = λ d. dite (ℕ_discrete d c) (λ is. let h = eq-eqb d c is in let n : length (of_caller d s.calls) < HOLDS_MAX = subst (λ z. length (of_caller z s.calls) < HOLDS_MAX) (sym is) f.3 in
      rw h (omega arith)) (λ ne. let h = ne_eqb d c ne in let n = w.few d in rw h n);
  once = λ x. times_more x (c, q.0) s.calls f.2 (w.once x);
}
sound_done limit c s (Free key q) w f = record {
  changes = w.changes;
  redefs = w.redefs;
  ty = w.ty;
  body = w.body;
  few = λ d. let n = w.few d in let m = fewer d c q.0 s.calls in omega (arith, n, m);
  once = λ x. let n = w.once x in let m = times_without x (c, q.0) s.calls in omega (arith, n, m);
}
sound_done limit c s (Retype key site) w f = record { changes = (let h = f.1 in omega arith); redefs = w.redefs; ty = (let h = f.2 in omega arith); body = w.body; few = w.few; once = w.once }
sound_done limit c s (Define key site) w f = record { changes = w.changes; redefs = (let h = f.0 in omega arith); ty = w.ty; body = (let h = f.1 in omega arith); few = w.few; once = w.once }
sound_done _ _ _ _ w _ = w

-- an entry changes the state at its own key alone: what fits there and holds there, holds of each key
pub spread : (k : ℕ) (log : List Entry) (e : Entry) (P : Spot → Type 0) → (k ≢ key_of e.act → P (spot k log)) → (k ≡ key_of e.act → P (done e.caller.0 (spot (key_of e.act) log) e.act)) → P (spot k (log ++ e ∷ []))
spread k log e P other here = subst P (sym (spot_more k log e)) (dite (ℕ_discrete k (key_of e.act))
    (λ is. subst P (sym (turn_here k (spot k log) e is)) (subst (λ z. P (done e.caller.0 (spot z log) e.act)) (sym is) (here is)))
    (λ ne. subst P (sym (turn_else k (spot k log) e ne)) (other ne)))

pub sound : (limit : ℕ) (log : List Entry) → IsLegal limit log → (k : ℕ) → Sound limit (spot k log)
sound limit log legal = legal_climb limit (λ l. (k : ℕ) → Sound limit (spot k l)) (λ k. sound_blank limit)
    (λ l e w f k. spread k l e (Sound limit) (λ _. w k) (λ _. sound_done limit e.caller.0 (spot (key_of e.act) l) e.act (w (key_of e.act)) f)) log legal

done_redefs : (c : ℕ) (s : Spot) (a : Act) → s.redefs ≤ (done c s a).redefs
done_redefs c s (Hold key q ty changes) = omega arith
done_redefs c s _ = omega arith

done_body : (c : ℕ) (s : Spot) (a : Act) → (done c s a).redefs ≡ s.redefs → (done c s a).body ≡ s.body
done_body c s (Define key site) e = absurd (omega arith)
done_body _ _ _ _ = refl

turn_redefs : (k : ℕ) (s : Spot) (x : Entry) → s.redefs ≤ (turn k s x).redefs
turn_redefs k s x = elim (eqb k (key_of x.act)) as (λ b. s.redefs ≤ (cond b (done x.caller.0 s x.act) s).redefs) [ true ↦ done_redefs x.caller.0 s x.act | false ↦ omega arith ]

turn_body : (k : ℕ) (s : Spot) (x : Entry) → (turn k s x).redefs ≡ s.redefs → (turn k s x).body ≡ s.body
turn_body k s x = elim (eqb k (key_of x.act)) as (λ b. (cond b (done x.caller.0 s x.act) s).redefs ≡ s.redefs → (cond b (done x.caller.0 s x.act) s).body ≡ s.body)
    [ true ↦ done_body x.caller.0 s x.act | false ↦ λ e. refl ]

redefs_from : (k : ℕ) (s : Spot) (xs : List Entry) → s.redefs ≤ (spot_from k s xs).redefs
redefs_from k s [] = omega arith
redefs_from k s (x ∷ xs) = let a = turn_redefs k s x in let b = redefs_from k (turn k s x) xs in omega (arith, a, b)

body_from : (k : ℕ) (s : Spot) (xs : List Entry) → (spot_from k s xs).redefs ≡ s.redefs → (spot_from k s xs).body ≡ s.body
body_from k s [] e = refl
body_from k s (x ∷ xs) e =
    let a = turn_redefs k s x in let b = redefs_from k (turn k s x) xs in
    let one : (turn k s x).redefs ≡ s.redefs = omega (arith, a, b, e) in
    body_from k (turn k s x) xs (e ∙ sym one) ∙ turn_body k s x one

-- the count of definitions never falls
pub redefs_grow : (k : ℕ) (xs ys : List Entry) → IsPrefix xs ys → (spot k xs).redefs ≤ (spot k ys).redefs
redefs_grow k xs ys p = subst (λ w. (spot k xs).redefs ≤ (spot k w).redefs) p.1 (subst (λ (w : Spot). (spot k xs).redefs ≤ w.redefs) (sym (spot_from_append k blank xs p.0)) (redefs_from k (spot k xs) p.0))

-- where the count is the same, the definition is
pub redefs_same : (k : ℕ) (xs ys : List Entry) → IsPrefix xs ys → (spot k ys).redefs ≡ (spot k xs).redefs → (spot k ys).body ≡ (spot k xs).body
redefs_same k xs ys p = subst (λ w. (spot k w).redefs ≡ (spot k xs).redefs → (spot k w).body ≡ (spot k xs).body) p.1
    (subst (λ (w : Spot). w.redefs ≡ (spot k xs).redefs → w.body ≡ (spot k xs).body) (sym (spot_from_append k blank xs p.0)) (body_from k (spot k xs) p.0))

done_changes : (c : ℕ) (s : Spot) (a : Act) → s.changes ≤ (done c s a).changes
done_changes c s (Hold key q ty changes) = omega arith
done_changes c s _ = omega arith

done_ty : (c : ℕ) (s : Spot) (a : Act) → (done c s a).changes ≡ s.changes → (done c s a).ty ≡ s.ty
done_ty c s (Retype key site) e = absurd (omega arith)
done_ty _ _ _ _ = refl

turn_changes : (k : ℕ) (s : Spot) (x : Entry) → s.changes ≤ (turn k s x).changes
turn_changes k s x = elim (eqb k (key_of x.act)) as (λ b. s.changes ≤ (cond b (done x.caller.0 s x.act) s).changes) [ true ↦ done_changes x.caller.0 s x.act | false ↦ omega arith ]

turn_ty : (k : ℕ) (s : Spot) (x : Entry) → (turn k s x).changes ≡ s.changes → (turn k s x).ty ≡ s.ty
turn_ty k s x = elim (eqb k (key_of x.act)) as (λ b. (cond b (done x.caller.0 s x.act) s).changes ≡ s.changes → (cond b (done x.caller.0 s x.act) s).ty ≡ s.ty) [ true ↦ done_ty x.caller.0 s x.act | false ↦ λ e. refl ]

changes_from : (k : ℕ) (s : Spot) (xs : List Entry) → s.changes ≤ (spot_from k s xs).changes
changes_from k s [] = omega arith
changes_from k s (x ∷ xs) = let a = turn_changes k s x in let b = changes_from k (turn k s x) xs in omega (arith, a, b)

ty_from : (k : ℕ) (s : Spot) (xs : List Entry) → (spot_from k s xs).changes ≡ s.changes → (spot_from k s xs).ty ≡ s.ty
ty_from k s [] e = refl
ty_from k s (x ∷ xs) e =
    let a = turn_changes k s x in let b = changes_from k (turn k s x) xs in
    let one : (turn k s x).changes ≡ s.changes = omega (arith, a, b, e) in
    ty_from k (turn k s x) xs (e ∙ sym one) ∙ turn_ty k s x one

pub changes_same : (k : ℕ) (xs rest : List Entry) → (spot k (xs ++ rest)).changes ≡ (spot k xs).changes → (spot k (xs ++ rest)).ty ≡ (spot k xs).ty
changes_same k xs rest = subst (λ (w : Spot). w.changes ≡ (spot k xs).changes → w.ty ≡ (spot k xs).ty) (sym (spot_from_append k blank xs rest)) (ty_from k (spot k xs) rest)

pub times_length : (x : ℕ × ℕ) (ys : List (ℕ × ℕ)) → times x ys ≤ length ys
times_length x ys = let n = length_without x ys in omega (arith, n)

same_done : (limit c : ℕ) (s : Spot) (a : Act) → FitsAct limit c s a → 1 ≤ length s.calls → ((done c s a).ty ≡ s.ty) × ((done c s a).changes ≡ s.changes)
same_done limit c s (Retype key site) f h = absurd (let z = f.0 in omega arith)
same_done _ _ _ _ _ _ = (refl, refl)

-- while a call holds a key, its type's site and count stay
pub held_keeps : (limit key : ℕ) (call : ℕ × ℕ) (before rest : List Entry) → IsLegal limit (before ++ rest)
    → ((mid after : List Entry) → rest ≡ mid ++ after → 1 ≤ times call (spot key (before ++ mid)).calls)
    → ((spot key (before ++ rest)).ty ≡ (spot key before).ty) × ((spot key (before ++ rest)).changes ≡ (spot key before).changes)
held_keeps limit key call before [] legal holds = let e = append-nil before in (ap (λ w. (spot key w).ty) e, ap (λ w. (spot key w).changes) e)
held_keeps limit key call before (x ∷ xs) legal holds =
    let same : (before ++ x ∷ []) ++ xs ≡ before ++ x ∷ xs = append_assoc before (x ∷ []) xs in
    let start : 1 ≤ times call (spot key before).calls = subst (λ w. 1 ≤ times call (spot key w).calls) (append-nil before) (holds [] (x ∷ xs) refl) in
    let some_held = times_length call (spot key before).calls in
    let fits = legal before xs x refl in
    let one : ((spot key (before ++ x ∷ [])).ty ≡ (spot key before).ty) × ((spot key (before ++ x ∷ [])).changes ≡ (spot key before).changes) =
    spread key before x (λ w. (w.ty ≡ (spot key before).ty) × (w.changes ≡ (spot key before).changes)) (λ _. (refl, refl))
    (λ is. let m : 1 ≤ length (spot (key_of x.act) before).calls = subst (λ z. 1 ≤ length (spot z before).calls) is (omega (arith, start, some_held)) in
    let d = same_done limit x.caller.0 (spot (key_of x.act) before) x.act fits m in (d.0 ∙ ap (λ z. (spot z before).ty) (sym is), d.1 ∙ ap (λ z. (spot z before).changes) (sym is))) in
    let more = held_keeps limit key call (before ++ x ∷ []) xs (subst (IsLegal limit) (sym same) legal)
    (λ mid after e. subst (λ w. 1 ≤ times call (spot key w).calls) (sym (append_assoc before (x ∷ []) mid)) (holds (x ∷ mid) after (ap (λ w. x ∷ w) e))) in
    (ap (λ w. (spot key w).ty) (sym same) ∙ (more.0 ∙ one.0), ap (λ w. (spot key w).changes) (sym same) ∙ (more.1 ∙ one.1))
