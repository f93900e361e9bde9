-- The answers that the uses of a kept check had, one by one.
use Rattle.std.proofs.Common.{◌≡◌, ℕ, zero, suc, ◌+◌, ◌≤◌, List, [], ◌∷◌, ◌++◌, length, map, take, drop, Some, Ok, Err, refl, sym, ap, ◌∙◌, subst, arith}
use Rattle.std.proofs.lemmas.Option.{none-some}
use Rattle.std.specs.Prelude.{IsErrAnd, Result, slice_get}
use Rattle.hb_tree.specs.Table.{Table}
use Rattle.hb_names.specs.Names.{Name}
use Rattle.hb_tables.specs.declared.entry.Entry.{Entry}
use Rattle.hb_call.specs.declared.{frame.CallFail.CallFail, answers.Answer.Answer}
use Rattle.hb_call.specs.{OwnCache.AreUses, Comparing.answers_in}
use Rattle.hb_deriv.specs.declared.raw.Used.{Used}
use Rattle.hb_cache.specs.declared.kept.Seen.{Seen}

-- the answer of a use, where a hold found this
abbrev pub answer_of : Used → Seen → Answer
answer_of u s = record { class = u.class; name = u.name; key = s.key; held = record { ty = s.site; changes = s.changes } }

pub answer_at : (us : List Used) (ss : List Seen) (i : ℕ) (u : Used) (s : Seen) → slice_get us i ≡ Some u → slice_get ss i ≡ Some s → slice_get (answers_in us ss) i ≡ Some (answer_of u s)
answer_at [] ss i u s e f = absurd (none-some u e)
answer_at (x ∷ us) [] i u s e f = absurd (none-some s f)
answer_at (x ∷ us) (y ∷ ss) zero u s e f = let a : x ≡ u = cc e in let b : y ≡ s = cc f in ap (λ z. Some (answer_of z y)) a ∙ ap (λ z. Some (answer_of u z)) b
answer_at (x ∷ us) (y ∷ ss) (suc i) u s e f = answer_at us ss i u s e f

pub take_more : {X : Type 0} (l : List X) (i : ℕ) (x : X) → slice_get l i ≡ Some x → take (i + 1) l ≡ take i l ++ x ∷ []
take_more [] i x e = absurd (none-some x e)
take_more (y ∷ l) zero x e = let a : y ≡ x = cc e in ap (λ z. z ∷ []) a
take_more (y ∷ l) (suc i) x e = let n : suc i + 1 ≡ suc (i + 1) = omega arith in ap (λ k. take k (y ∷ l)) n ∙ ap (λ m. y ∷ m) (take_more l i x e)

pub take_other : {X : Type 0} (f : X → X) (l : List X) (i : ℕ) (x : X) → slice_get l i ≡ Some x → take i l ++ map f (take 1 (drop i l)) ≡ take i l ++ f x ∷ []
take_other f [] i x e = absurd (none-some x e)
take_other f (y ∷ l) zero x e = let a : y ≡ x = cc e in ap (λ z. f z ∷ []) a
take_other f (y ∷ l) (suc i) x e = ap (λ m. y ∷ m) (take_other f l i x e)

-- where an answer stands, so does what a hold found
pub seen_at : (us : List Used) (ss : List Seen) (i : ℕ) (a : Answer) → slice_get (answers_in us ss) i ≡ Some a → (s : Seen) × (slice_get ss i ≡ Some s) × (a.held.changes ≡ s.changes)
seen_at [] ss i a e = absurd (none-some a e)
seen_at (x ∷ us) [] i a e = absurd (none-some a e)
seen_at (x ∷ us) (y ∷ ss) zero a e = let f : answer_of x y ≡ a = cc e in (y, refl, ap (λ (z : Answer). z.held.changes) (sym f))
seen_at (x ∷ us) (y ∷ ss) (suc i) a e = seen_at us ss i a e

pub take_all : {X : Type 0} (l : List X) (i : ℕ) → length l ≤ i → take i l ≡ l
take_all [] zero h = refl
take_all [] (suc i) h = refl
take_all (x ∷ l) zero h = absurd (omega (arith, h))
take_all (x ∷ l) (suc i) h = ap (λ m. x ∷ m) (take_all l i (omega (arith, h)))

pub uses_length : (t : Table) (names asked : List Name) (log : List Entry) (us : List Used) (ss : List Seen) → AreUses t names asked log us ss → length ss ≡ length us
uses_length t names asked log [] [] h = refl
uses_length t names asked log [] (s ∷ ss) h = absurd h
uses_length t names asked log (u ∷ us) [] h = absurd h
uses_length t names asked log (u ∷ us) (s ∷ ss) h = let r = uses_length t names asked log us ss h.1 in omega (arith, r)

pub answers_length : (t : Table) (names asked : List Name) (log : List Entry) (us : List Used) (ss : List Seen) → AreUses t names asked log us ss → length (answers_in us ss) ≡ length ss
answers_length t names asked log [] [] h = refl
answers_length t names asked log [] (s ∷ ss) h = absurd h
answers_length t names asked log (u ∷ us) [] h = absurd h
answers_length t names asked log (u ∷ us) (s ∷ ss) h = let r = answers_length t names asked log us ss h.1 in omega (arith, r)

pub as_err : {X : Type 0} (P : Result X CallFail → Type 0) (r : Result X CallFail) (e : CallFail) → IsErrAnd r (λ x. x ≡ e) → P (Err e) → P r
as_err P (Ok x) e h p = absurd h
as_err P (Err x) e h p = subst (λ (y : CallFail). P (Err y)) (sym h) p
