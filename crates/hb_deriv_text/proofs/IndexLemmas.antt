-- An index that is filled from the last to the first finds the first.
use Rattle.std.proofs.Common.{◌≡◌, ℕ, zero, suc, ◌+◌, ◌<◌, ◌^◌, List, [], ◌∷◌, drop, Bool, true, false, cond, refl, sym, ap, ◌∙◌, subst, add-one, slice_get, All}
use Rattle.std.proofs.lemmas.List.Elements.{All-cons}
use Rattle.std.specs.Prelude.{Some, if◌then◌else◌}
use Rattle.std.specs.Option.{option_map}
use Rattle.indexmap.specs.IndexMap.{IndexMap, get, Updates}
use Rattle.hb_tree.specs.declared.node.Placed.{Placed}
use Rattle.hb_deriv_text.specs.Reading.{first}
use Rattle.hb_deriv_text.specs.Finds.{Finds}
use Rattle.hb_deriv_text.proofs.FirstLemmas.{split_first, same_value, place_of}

module _ {K V X Z : Type 0} (eq : K → K → Bool) (number : V → ℕ) (f : X → Z) (q : K → Z → Bool) (xs : List X) (i j : ℕ) (z : Z)
    (known : option_map f (slice_get xs i) ≡ Some z) (next : j ≡ i + 1) where
  from_here : (k : K) → first (λ x. q k (f x)) i (drop i xs) ≡ (if q k z then Some i else first (λ x. q k (f x)) j (drop j xs))
  from_here k =
      split_first f (q k) xs i i z known
      ∙ ap (λ n. if q k z then Some i else first (λ x. q k (f x)) (i + 1) (drop n xs)) (sym (add-one i))
      ∙ ap (λ n. if q k z then Some i else first (λ x. q k (f x)) n (drop n xs)) (sym next)

  -- one that no key seeks is left out
  pub skipped : {S : Type 0} (m : IndexMap K V S) → ((k : K) → q k z ≡ false) → Finds eq number (λ k x. q k (f x)) xs j m → Finds eq number (λ k x. q k (f x)) xs i m
  skipped m other before k = before k ∙ sym (from_here k ∙ ap (λ b. if b then Some i else first (λ x. q k (f x)) j (drop j xs)) (other k))

  -- one that is put at the key that seeks it
  pub inserted : {S : Type 0} (m n : IndexMap K V S) (key : K) (v : V) → ((k : K) → q k z ≡ eq key k) → number v ≡ i → Updates eq m n key (Some v)
      → Finds eq number (λ k x. q k (f x)) xs j m → Finds eq number (λ k x. q k (f x)) xs i n
  inserted m n key v same is u before k =
      ap (option_map number) (u.0 k) ∙ by (eq key k) ∙ sym (from_here k ∙ ap (λ b. if b then Some i else first (λ x. q k (f x)) j (drop j xs)) (same k))
    where
      by : (b : Bool) → option_map number (cond b (Some v) (get eq m k)) ≡ (if b then Some i else first (λ x. q k (f x)) j (drop j xs))
      by true = ap Some is
      by false = before k

all_from : {X : Type 0} (P : X → Type 0) (xs : List X) (i : ℕ) → ((x : X) → slice_get xs i ≡ Some x → P x) → All P (drop (suc i) xs) → All P (drop i xs)
all_from P [] zero here rest = rest
all_from P [] (suc i) here rest = rest
all_from P (x ∷ xs) zero here rest = All-cons P x xs (here x refl) rest
all_from P (x ∷ xs) (suc i) here rest = all_from P xs i here rest

-- what holds of one and of each behind it
pub all_back : {X : Type 0} (P : X → Type 0) (xs : List X) (i j : ℕ) → j ≡ i + 1 → ((x : X) → slice_get xs i ≡ Some x → P x) → All P (drop j xs) → All P (drop i xs)
all_back P xs i j next here rest = all_from P xs i here (subst (λ n. All P (drop n xs)) (next ∙ add-one i) rest)

-- a node whose line and column are small
pub small_place : (nodes : List Placed) (i : ℕ) (p : ℕ × ℕ) → option_map place_of (slice_get nodes i) ≡ Some p → p.0 < 2 ^ 32 → p.1 < 2 ^ 32
    → (x : Placed) → slice_get nodes i ≡ Some x → (x.line < 2 ^ 32) × (x.column < 2 ^ 32)
small_place nodes i p placed line column x got =
    let same : place_of x ≡ p = same_value (place_of x) p (sym (ap (option_map place_of) got) ∙ placed) in
    (subst (λ (r : ℕ × ℕ). r.0 < 2 ^ 32) (sym same) line, subst (λ (r : ℕ × ℕ). r.1 < 2 ^ 32) (sym same) column)
