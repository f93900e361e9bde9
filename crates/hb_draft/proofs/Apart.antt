-- Numbers that stand in one list at most once stay so where they are moved, or where some are dropped.
use Rattle.std.proofs.Common.{◌≡◌, ℕ, ◌≤◌, List, [], ◌∷◌, ◌++◌, refl, arith, inl, inr, false, subst}
use Rattle.std.specs.Prelude.{nat_eq}
use Rattle.std.specs.List.{AllByRecursion, IsDistinct}
use Rattle.std.proofs.lemmas.Bool.{eq-eqb}
use Rattle.std.proofs.lemmas.Bool.Decides.{eqb_tells}
use Rattle.hb_tree.specs.Nodes.{numbers_of}
use Rattle.hb_tree.specs.Program.{all_parts}
use Rattle.hb_tree.specs.Roots.{IsReachedOnce, roots}
use Rattle.hb_tree.proofs.Reached.{same, times, total-append, once_of_distinct}
use Rattle.hb_draft.specs.Kept.{IsKept}
use Rattle.hb_draft.specs.Unfinished.{Unfinished}
use Rattle.hb_draft.proofs.Lists.{IsDistinct-front}

same-itself : (x : ℕ) → same x x ≡ 1
same-itself x = rw (eq-eqb x x refl) refl

-- a number that stands nowhere in a list differs from each
apart-each : (x : ℕ) (ys : List ℕ) → times x ys ≡ 0 → AllByRecursion (λ y. nat_eq x y ≡ false) ys
apart-each x [] none = tt
apart-each x (y ∷ ys) none = elim (eqb_tells x y) [ inl e ↦ there e.1 | inr e ↦ (e.0, apart-each x ys (omega arith)) ]
  where
    there : x ≡ y → AllByRecursion (λ y. nat_eq x y ≡ false) (y ∷ ys)
    there e = let first : same x y ≡ 1 = rw (eq-eqb x y e) refl in absurd (omega arith)

distinct_of_once : (xs : List ℕ) → ((j : ℕ) → times j xs ≤ 1) → IsDistinct nat_eq xs
unfolding IsDistinct
distinct_of_once [] once = tt
distinct_of_once (x ∷ xs) once =
    (apart-each x xs (let o = once x in let first = same-itself x in omega arith), distinct_of_once xs (λ j. (let o = once j in omega arith)))

-- where each number stands as often as before, or less
distinct_fewer : (xs ys : List ℕ) → ((j : ℕ) → times j ys ≤ times j xs) → IsDistinct nat_eq xs → IsDistinct nat_eq ys
distinct_fewer xs ys fewer h = distinct_of_once ys (λ j. (let f = fewer j in let o = once_of_distinct j xs h in omega arith))

-- those taken from the hand are parts now
pub apart-taken : (all old kept taken : List ℕ) → IsDistinct nat_eq ((all ++ old) ++ (kept ++ taken)) → IsDistinct nat_eq (((all ++ taken) ++ old) ++ kept)
apart-taken all old kept taken = distinct_fewer _ _ (λ j. simp total-append (omega arith))

-- the last one in hand is the root of the setup now, in place of an earlier one
pub apart-setup : (all old scripts kept rest : List ℕ) (b : ℕ) → IsDistinct nat_eq ((all ++ (old ++ scripts)) ++ (kept ++ b ∷ rest)) → IsDistinct nat_eq ((all ++ (b ∷ scripts)) ++ kept)
apart-setup all old scripts kept rest b = distinct_fewer _ _ (λ j. simp total-append (omega arith))

-- the last one in hand is the root of one script more
pub apart-script : (all old scripts kept rest : List ℕ) (b : ℕ) → IsDistinct nat_eq ((all ++ (old ++ scripts)) ++ (kept ++ b ∷ rest)) → IsDistinct nat_eq ((all ++ (old ++ (scripts ++ b ∷ []))) ++ kept)
apart-script all old scripts kept rest b = distinct_fewer _ _ (λ j. simp total-append (omega arith))

-- what a draft keeps, whatever the draft is called
pub kept-once : (s d : Unfinished) → s ≡ d → (hs : List ℕ) → IsKept s.table s.nodes hs → IsReachedOnce d.table
kept-once s d same hs kept =
    subst (λ (v : Unfinished). IsReachedOnce v.table) same (IsDistinct-front nat_eq (all_parts s.table ++ roots s.table) (numbers_of s.nodes) kept.draft.apart)
