-- Whose the next turn is depends on who has turns left, and not on how many.
use Rattle.std.proofs.Common.{◌≡◌, ◌⊎◌, inl, inr, ℕ, zero, suc, ◌-◌, ◌≤◌, Bool, true, false, List, [], ◌∷◌, ◌++◌, refl, sym, ap, ◌∙◌, arith, eqb, eq-eqb, ne_eqb}
use Rattle.std.specs.Prelude.{replicate, if◌then◌else◌}
use Rattle.std.specs.List.{AllByRecursion}
use Rattle.hb_types.specs.declared.ids.NodeId.{NodeId}
use Rattle.hb_types.specs.declared.ids.NameId.{NameId}
use Rattle.hb_run.specs.History.{callers_from}
use Rattle.hb_turns.specs.Players.{less, turn_order, turns_left}
use Rattle.hb_ordered.specs.Turns.{HaveSameNext, IsNextTurn, SameLeft}

IsOther : ℕ → ℕ → Type 0
IsOther c d = d ≡ c → ⊥

less_other : (c d : ℕ) (left : ℕ → ℕ) → (d ≡ c → ⊥) → less c left d ≡ left d
less_other c d left apart = (let e = ne_eqb d c apart in rw e refl)

less_own : (c : ℕ) (left : ℕ → ℕ) → less c left c ≡ left c - 1
less_own c left = (let e = eq-eqb c c refl in rw e refl)

others_left : (c : ℕ) (left : ℕ → ℕ) (cs : List ℕ) → AllByRecursion (IsOther c) cs → turns_left (less c left) cs ≡ turns_left left cs
unfolding IsOther
others_left c left [] apart = refl
others_left c left (d ∷ cs) apart = ap (λ n. replicate n d ++ turns_left (less c left) cs) (less_other c d left apart.0) ∙ ap (λ l. replicate (left d) d ++ l) (others_left c left cs apart.1)

-- each of these callers stands once
Once : List ℕ → Type 0
Once [] = Unit {0}
Once (c ∷ cs) = AllByRecursion (IsOther c) cs × Once cs

taken : (c n : ℕ) (left : ℕ → ℕ) (cs : List ℕ) → left c ≡ suc n → AllByRecursion (IsOther c) cs → turns_left left (c ∷ cs) ≡ c ∷ turns_left (less c left) (c ∷ cs)
taken c n left cs e apart =
    let one : less c left c ≡ n = less_own c left ∙ (let x = e in omega (arith, x)) in
    ap (λ k. replicate k c ++ turns_left left cs) e
    ∙ ap (λ l. c ∷ (replicate n c ++ l)) (sym (others_left c left cs apart))
    ∙ ap (λ k. c ∷ (replicate k c ++ turns_left (less c left) cs)) (sym one)

-- a caller with none left is passed over
passed : (d c : ℕ) (left : ℕ → ℕ) (cs : List ℕ) → left d ≡ 0 → turns_left left cs ≡ c ∷ turns_left (less c left) cs → turns_left left (d ∷ cs) ≡ c ∷ turns_left (less c left) (d ∷ cs)
passed d c left cs none next =
    ap (λ k. replicate k d ++ turns_left left cs) none ∙ next
    ∙ ap (λ k. c ∷ (replicate k d ++ turns_left (less c left) cs)) (sym still)
  where
    go : (b : Bool) → left d ≡ 0 → (if b then left d - 1 else left d) ≡ 0
    go true e = omega (arith, e)
    go false e = e

    still : less c left d ≡ 0
    still = go (eqb d c) none

-- where nothing is left of the order
RestNext : (left other : ℕ → ℕ) → List ℕ → Type 0
RestNext left other cs = ((turns_left left cs ≡ []) × (turns_left other cs ≡ [])) ⊎ ((c : ℕ) × IsNextTurn [] left cs c [] × IsNextTurn [] other cs c [])

same_rest : (left other : ℕ → ℕ) (cs : List ℕ) → SameLeft left other → Once cs → RestNext left other cs
unfolding Once RestNext
same_rest left other [] same once = inl (refl, refl)
same_rest left other (d ∷ cs) same once = go (left d) (other d) refl refl (same_rest left other cs same once.1)
  where
    go : (n m : ℕ) → left d ≡ n → other d ≡ m → RestNext left other cs → RestNext left other (d ∷ cs)
    go zero zero e f (inl none) = inl (ap (λ k. replicate k d ++ turns_left left cs) e ∙ none.0, ap (λ k. replicate k d ++ turns_left other cs) f ∙ none.1)
    go zero zero e f (inr next) = inr (next.0, passed d next.0 left cs e next.1, passed d next.0 other cs f next.2)
    go zero (suc m) e f h = absurd (let x = (same d).0 e in omega (arith, x, f))
    go (suc n) zero e f h = absurd (let x = (same d).1 f in omega (arith, x, e))
    go (suc n) (suc m) e f h = inr (d, taken d n left cs e once.0, taken d m other cs f once.0)

pub skips : (c : ℕ) (order : List ℕ) (left : ℕ → ℕ) (cs : List ℕ) → left c ≡ 0 → turn_order (c ∷ order) left cs ≡ turn_order order left cs
skips c order left cs e = (let b = eq-eqb (left c) 0 e in rw b refl)

pub takes : (c : ℕ) (order : List ℕ) (left : ℕ → ℕ) (cs : List ℕ) → (left c ≡ 0 → ⊥) → turn_order (c ∷ order) left cs ≡ c ∷ turn_order order (less c left) cs
takes c order left cs e = (let b = ne_eqb (left c) 0 e in rw b refl)

same_next : (order : List ℕ) (left other : ℕ → ℕ) (cs : List ℕ) → SameLeft left other → Once cs → HaveSameNext order left other cs
unfolding RestNext
same_next [] left other cs same once = elim (same_rest left other cs same once) [ inl none ↦ inl none | inr next ↦ inr (next.0, [], next.1, next.2) ]
same_next (c ∷ order) left other cs same once = go (left c) (other c) refl refl (same_next order left other cs same once)
  where
    go : (n m : ℕ) → left c ≡ n → other c ≡ m → HaveSameNext order left other cs → HaveSameNext (c ∷ order) left other cs
    go zero zero e f (inl none) = inl (skips c order left cs e ∙ none.0, skips c order other cs f ∙ none.1)
    go zero zero e f (inr next) = inr (next.0, next.1, skips c order left cs e ∙ next.2, skips c order other cs f ∙ next.3)
    go zero (suc m) e f h = absurd (let x = (same c).0 e in omega (arith, x, f))
    go (suc n) zero e f h = absurd (let x = (same c).1 f in omega (arith, x, e))
    go (suc n) (suc m) e f h = inr (c, order, takes c order left cs (λ x. omega (arith, x, e)), takes c order other cs (λ x. omega (arith, x, f)))

-- the callers of the scripts stand once
rising : (c d : ℕ) (ss : List (NameId × NodeId)) → suc c ≤ d → AllByRecursion (IsOther c) (callers_from d ss)
unfolding IsOther
rising c d [] low = tt
rising c d (s ∷ ss) low = (λ is. omega (arith, low, is), rising c (suc d) ss (omega (arith, low)))

once_from : (c : ℕ) (ss : List (NameId × NodeId)) → Once (callers_from c ss)
unfolding Once
once_from c [] = tt
once_from c (s ∷ ss) = (rising c (suc c) ss (omega arith), once_from (suc c) ss)

pub next_turn : (order : List ℕ) (left other : ℕ → ℕ) (ss : List (NameId × NodeId)) → SameLeft left other → HaveSameNext order left other (callers_from 1 ss)
next_turn order left other ss same = same_next order left other (callers_from 1 ss) same (once_from 1 ss)
