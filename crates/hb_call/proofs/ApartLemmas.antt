-- The uses of a kept check are of different keys.
use Rattle.std.proofs.Common.{◌≡◌, ℕ, zero, suc, ◌<◌, ◌≤◌, Bool, true, false, inl, inr, List, [], ◌∷◌, ◌++◌, length, map, take, Some, refl, sym, ap, ◌∙◌, subst, arith, append-nil}
use Rattle.std.proofs.{lemmas.Cmp.nat_list_eq_equiv, lemmas.Map.Keys.IsDistinct-head, lemmas.Map.Keys.IsDistinct-tail, lemmas.Option.none-some}
use Rattle.std.specs.List.{AllByRecursion, IsDistinct}
use Rattle.std.specs.Prelude.{Err, Ok, bytes_eq, if◌then◌else◌, slice_get}
use Rattle.hb_types.specs.declared.{types.Ty.Ty, ids.KeyId.KeyId}
use Rattle.hb_types.specs.Types.{is_below}
use Rattle.hb_tree.specs.{Canon.bytes_at, Program.IsProgram, Table.Table, Tree.Tree}
use Rattle.hb_tree.proofs.Lists.{each_at}
use Rattle.hb_deriv.specs.declared.{raw.Step.Step, raw.Used.Used}
use Rattle.hb_deriv.specs.Derivation.{Content, Sites, content_of, key_of, table}
use Rattle.hb_deriv.specs.Events.{Done, Events, Look, events, fresh, has}
use Rattle.hb_deriv.specs.Judge.{Key, Subject, Typed, Verdict, has_count, judge, variables_of}
use Rattle.hb_deriv.specs.Programs.{sites_of}
use Rattle.hb_deriv.specs.Walk.{AtStep, IsGood, State, ◌>>>◌, at_end, no_use, start, walk}
use Rattle.hb_deriv.proofs.{AlongLemmas.along, AlongLemmas.answer, KeyLemmas.has_front, KeyLemmas.has_mid}
use Rattle.hb_deriv.proofs.WalkLemmas.{passed_by, replay, then_ok, walked_same}
use Rattle.hb_cache.specs.declared.{kept.Kept.Kept, kept.Seen.Seen}
use Rattle.hb_names.specs.Names.{Name}
use Rattle.hb_names.proofs.NameLemmas.{place-apart}
use Rattle.hb_tables.specs.declared.entry.Entry.{Entry}
use Rattle.hb_tables.specs.{History.spot, History.times, Names.name_of}
use Rattle.hb_tables.proofs.StandingLemmas.{held_stands}
use Rattle.hb_call.specs.Calling.{Given, IsAmong, IsCalling}
use Rattle.hb_call.specs.{Comparing.answers_in, Comparing.answers_kept, OwnCache.IsTrueCheck}
use Rattle.hb_call.proofs.CompareLemmas.{use_at}
use Rattle.hb_call.proofs.LooksLemmas.{LooksBelow, block_at, looks_below}

-- ── keys without repeats ──

-- what is new was not seen
fresh_new : (seen : List Key) (es : Events) (i : ℕ) (k : Key) → slice_get (fresh seen es) i ≡ Some k → has k seen ≡ false
fresh_new seen [] i k e = absurd (none-some k e)
fresh_new seen (Done id t ∷ es) i k e = fresh_new seen es i k e
fresh_new seen (Look id x ∷ es) i k e = go (has x seen) refl i (λ s i. fresh_new s es i k) e
  where
    unseen : (b : Bool) → has k seen ≡ b → has k (seen ++ x ∷ []) ≡ false → has k seen ≡ false
    unseen false s h = s
    unseen true s h = absurd (let t = has_front k seen (x ∷ []) s in cc (t, h))

    go : (b : Bool) → has x seen ≡ b → (i : ℕ) → ((s : List Key) (i : ℕ) → slice_get (fresh s es) i ≡ Some k → has k s ≡ false)
        → slice_get (if b then fresh seen es else x ∷ fresh (seen ++ x ∷ []) es) i ≡ Some k → has k seen ≡ false
    go true s i rest e = rest seen i e
    go false s zero rest e = let same : x ≡ k = cc e in subst (λ (y : Key). has y seen ≡ false) same s
    go false s (suc i) rest e = unseen (has k seen) refl (rest (seen ++ x ∷ []) i e)

-- and it stands once
fresh_once : (seen : List Key) (es : Events) (i j : ℕ) (k : Key) → slice_get (fresh seen es) i ≡ Some k → slice_get (fresh seen es) j ≡ Some k → i ≡ j
fresh_once seen [] i j k e f = absurd (none-some k e)
fresh_once seen (Done id t ∷ es) i j k e f = fresh_once seen es i j k e f
fresh_once seen (Look id x ∷ es) i j k e f = go (has x seen) i j (λ s i j. fresh_once s es i j k) e f
  where
    never : (m : ℕ) → x ≡ k → slice_get (fresh (seen ++ x ∷ []) es) m ≡ Some k → ⊥
    never m same e = let n = fresh_new (seen ++ x ∷ []) es m k e in let y = subst (λ (y : Key). has y (seen ++ x ∷ []) ≡ true) same (has_mid x seen []) in cc (n, y)

    go : (b : Bool) (i j : ℕ) → ((s : List Key) (i j : ℕ) → slice_get (fresh s es) i ≡ Some k → slice_get (fresh s es) j ≡ Some k → i ≡ j)
        → slice_get (if b then fresh seen es else x ∷ fresh (seen ++ x ∷ []) es) i ≡ Some k → slice_get (if b then fresh seen es else x ∷ fresh (seen ++ x ∷ []) es) j ≡ Some k → i ≡ j
    go true i j rest e f = rest seen i j e f
    go false zero zero rest e f = refl
    go false zero (suc j) rest e f = absurd (never j (cc e) f)
    go false (suc i) zero rest e f = absurd (never i (cc f) e)
    go false (suc i) (suc j) rest e f = ap suc (rest (seen ++ x ∷ []) i j e f)

-- its name is one of the looks
fresh_below : (n : ℕ) (seen : List Key) (es : Events) (i : ℕ) (k : Key) → LooksBelow n es → slice_get (fresh seen es) i ≡ Some k → k.1 < n
fresh_below n seen [] i k h e = absurd (none-some k e)
fresh_below n seen (Done id t ∷ es) i k h e = fresh_below n seen es i k h e
fresh_below n seen (Look id x ∷ es) i k h e = go (has x seen) i (λ s i. fresh_below n s es i k h.1) e
  where
    go : (b : Bool) (i : ℕ) → ((s : List Key) (i : ℕ) → slice_get (fresh s es) i ≡ Some k → k.1 < n) → slice_get (if b then fresh seen es else x ∷ fresh (seen ++ x ∷ []) es) i ≡ Some k → k.1 < n
    go true i rest e = rest seen i e
    go false zero rest e = let same : x ≡ k = cc e in subst (λ (y : Key). y.1 < n) same h.0
    go false (suc i) rest e = rest (seen ++ x ∷ []) i e

-- ── the uses of a good derivation ──

none_left : (s z : State) (l : List Used) → no_use s l ≡ Ok z → l ≡ []
none_left s z [] h = refl
none_left s z (u ∷ us) h = absurd (cc)

none_behind : (limit : Ty) (s : State) (t : Ty) (l : List Step) (z : State) → at_end limit s t l ≡ Ok z → s.left ≡ []
none_behind limit s t (p ∷ ps) z h = absurd (cc)
none_behind limit s t [] z h = go (is_below t limit) h
  where
    go : (b : Bool) → (if b then no_use s s.left else Err (AtStep s.passed)) ≡ Ok z → s.left ≡ []
    go true h = none_left s z s.left h
    go false h = absurd (cc)

stood : (s : State) (v : Verdict Typed) (r : State × Typed) → answer v s ≡ Ok r → s ≡ r.0
stood s (Ok y) r h = ap (λ (p : State × Typed). p.0) (walked_same (s, y) r h)
stood s (Err f) r h = absurd (cc)

-- the uses are the looks of the body's tree, in the table of the uses
good_uses : (sites : Sites) (s : Subject) (d : Content) → IsGood sites s d → map key_of d.uses ≡ fresh [] (events (table sites d.uses) s.self s.block (variables_of s))
good_uses sites s d g = counted (has_count s) g.ends
  where
    es : Events
    es = events (table sites d.uses) s.self s.block (variables_of s)

    counted : (b : Bool) → (if b then walk sites s.self s.block (variables_of s) (start d) >>> (λ p. at_end s.declared.result p.0 p.1.1 p.0.steps) else Err (AtStep 0)) ≡ Ok g.last
        → map key_of d.uses ≡ fresh [] (events (table sites d.uses) s.self s.block (variables_of s))
    counted false ends = absurd (cc)
    counted true ends =
        let a = then_ok (walk sites s.self s.block (variables_of s) (start d)) _ g.last ends in
        let b = then_ok (replay (start d) es) _ a.0 (sym ((along sites d.uses s.self s.block (variables_of s)).by (start d) refl) ∙ a.1) in
        let y = stood b.0 (judge (table sites d.uses) s.self s.block (variables_of s)) a.0 b.2 in
        let z = none_behind s.declared.result a.0.0 a.0.1.1 a.0.0.steps g.last a.2 in
        let p = passed_by (start d) es b.0 b.1 in
        ap (map key_of) (p.left ∙ ap (λ (us : List Used). p.used ++ us) (ap (λ (x : State). x.left) y ∙ z) ∙ append-nil p.used) ∙ p.keys

-- ── the keys of names ──

never_again : (y x : List ℕ) (ys : List (List ℕ)) (m : ℕ) → AllByRecursion (λ z. bytes_eq y z ≡ false) ys → y ≡ x → slice_get ys m ≡ Some x → ⊥
never_again y x ys m h same e = let n = each_at (λ z. bytes_eq y z ≡ false) ys m x e h in let r = subst (λ (z : List ℕ). bytes_eq z x ≡ true) (sym same) (nat_list_eq_equiv.refl x) in cc (n, r)

words_apart : (xs : List (List ℕ)) (i j : ℕ) (x : List ℕ) → IsDistinct bytes_eq xs → slice_get xs i ≡ Some x → slice_get xs j ≡ Some x → i ≡ j
words_apart [] i j x h e f = absurd (none-some x e)
words_apart (y ∷ ys) zero zero x h e f = refl
words_apart (y ∷ ys) zero (suc j) x h e f = absurd (never_again y x ys j (IsDistinct-head bytes_eq y ys h) (cc e) f)
words_apart (y ∷ ys) (suc i) zero x h e f = absurd (never_again y x ys i (IsDistinct-head bytes_eq y ys h) (cc f) e)
words_apart (y ∷ ys) (suc i) (suc j) x h e f = ap suc (words_apart ys i j x (IsDistinct-tail bytes_eq y ys h) e f)

word_there : (xs : List (List ℕ)) (i : ℕ) → i < length xs → slice_get xs i ≡ Some (bytes_at xs i)
word_there [] i h = absurd (omega (arith, h))
word_there (x ∷ xs) zero h = refl
word_there (x ∷ xs) (suc i) h = word_there xs i (omega (arith, h))

-- two of the program's names for a method are the same only if they are one
same_name : (t : Table) (j k : Key) → IsProgram t → j.1 < length t.names → k.1 < length t.names → name_of t j ≡ name_of t k → j ≡ k
same_name t j k program a b e =
    let class : j.0 ≡ k.0 = ap (λ (n : Name). n.0) e in
    let bytes : bytes_at t.names j.1 ≡ bytes_at t.names k.1 = ap (λ (n : Name). n.1) e in
    let name : j.1 ≡ k.1 = words_apart t.names j.1 k.1 (bytes_at t.names j.1) program.spelled.names_apart (word_there t.names j.1 a) (word_there t.names k.1 b ∙ ap Some (sym bytes)) in
    λ i. (class i, name i)

key_there : (us : List Used) (i : ℕ) (u : Used) → slice_get us i ≡ Some u → slice_get (map key_of us) i ≡ Some (key_of u)
key_there [] i u e = absurd (none-some u e)
key_there (x ∷ us) zero u e = let same : x ≡ u = cc e in ap (λ (y : Used). Some (key_of y)) same
key_there (x ∷ us) (suc i) u e = key_there us i u e

-- what was found for a key among the first answers stands before them
among_at : (k : ℕ) (us : List Used) (ss : List Seen) (i : ℕ) → IsAmong k (take i (answers_in us ss)) → (j : ℕ) × (s : Seen) × (j < i) × (slice_get ss j ≡ Some s) × (k ≡ s.key.0)
among_at k us ss zero h = absurd h
among_at k [] ss (suc i) h = absurd h
among_at k (u ∷ us) [] (suc i) h = absurd h
among_at k (u ∷ us) (s ∷ ss) (suc i) (inl e) = (0, s, omega arith, refl, e)
among_at k (u ∷ us) (s ∷ ss) (suc i) (inr h) = let r = among_at k us ss i h in let low = r.2 in (suc r.0, r.1, omega (arith, low), r.3, r.4)

none_of : (n : ℕ) → n ≤ 1 → (n ≡ 1 → ⊥) → n ≡ 0
none_of zero h f = refl
none_of (suc zero) h f = absurd (f refl)
none_of (suc (suc n)) h f = absurd (omega (arith, h))

module _ (t : Table) (names asked : List Name) (log : List Entry) (kept : Kept) (program : IsProgram t) (check : IsTrueCheck t names asked log kept) where
  abbrev looks_of : Events
  looks_of = let s = check.good.subject in events (table (sites_of t) kept.derivation.uses.items) s.self s.block (variables_of s)

  looks_named : LooksBelow (length t.names) looks_of
  looks_named =
      let s = check.good.subject in let types = table (sites_of t) kept.derivation.uses.items in let at = block_at t _ _ _ s check.good.is in
      subst (λ (e : Tree). LooksBelow (length t.names) (events types s.self e (variables_of s))) (sym at.1) (looks_below t types s.self program at.0 (variables_of s))

  -- the key of a use is a new look
  looked_at : (i : ℕ) (u : Used) → slice_get kept.derivation.uses.items i ≡ Some u → slice_get (fresh [] looks_of) i ≡ Some (key_of u)
  looked_at i u e = subst (λ (ks : List Key). slice_get ks i ≡ Some (key_of u)) (good_uses (sites_of t) check.good.subject (content_of kept.derivation) check.good.good) (key_there kept.derivation.uses.items i u e)

  named : (i : ℕ) (u : Used) → slice_get kept.derivation.uses.items i ≡ Some u → (key_of u).1 < length t.names
  named i u e = fresh_below (length t.names) [] looks_of i (key_of u) looks_named (looked_at i u e)

  -- two places of a kept check's counts with the same key are the same place
  pub uses_apart : (i j : ℕ) (a b : Seen) → slice_get kept.counts.items i ≡ Some a → slice_get kept.counts.items j ≡ Some b → a.key.0 ≡ b.key.0 → i ≡ j
  uses_apart i j a b e f same =
      let u = use_at t names asked log kept.derivation.uses.items kept.counts.items i a check.uses e in
      let v = use_at t names asked log kept.derivation.uses.items kept.counts.items j b check.uses f in
      let one = place-apart names (name_of t (key_of u.u)) (name_of t (key_of v.u)) a.key.0 u.fits.named (v.fits.named ∙ ap Some (sym same)) in
      let key : key_of u.u ≡ key_of v.u = same_name t (key_of u.u) (key_of v.u) program (named i u.u u.is) (named j v.u v.is) one in
      fresh_once [] looks_of i j (key_of u.u) (looked_at i u.u u.is) (looked_at j v.u v.is ∙ ap Some (sym key))

-- a use that comes next, whose key is not the call's own, is not held
pub next_free : (g : Given) (known asked : List Name) (log : List Entry) (held : List KeyId) (kept : Kept) (i : ℕ) (s : Seen) → IsCalling g.t g.door g.q.0 known asked log g.key g.own held (take i (answers_kept kept))
    → IsProgram g.t → IsTrueCheck g.t known asked log kept → slice_get kept.counts.items i ≡ Some s → (s.key.0 ≡ g.key.0 → ⊥) → times (g.door.caller, g.q.0) (spot s.key.0 log).calls ≡ 0
next_free g known asked log held kept i s h program check there other = none_of (times (g.door.caller, g.q.0) (spot s.key.0 log).calls) once
    (λ one. elim (h.only s.key.0 one) [ inl e ↦ other e | inr among ↦ before among ])
  where
    once : times (g.door.caller, g.q.0) (spot s.key.0 log).calls ≤ 1
    once = let a = held_stands g.door.caller g.q.0 s.key.0 log in let o = h.holds.once s.key.0 in omega (arith, a, o)

    before : IsAmong s.key.0 (take i (answers_kept kept)) → ⊥
    before among =
        let r = among_at s.key.0 kept.derivation.uses.items kept.counts.items i among in let low = r.2 in
        let same = uses_apart g.t known asked log kept program check i r.0 s r.1 there r.3 r.4 in omega (arith, low, same)
