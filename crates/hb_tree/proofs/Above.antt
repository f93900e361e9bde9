-- The least number that is above each of a list: the measure of what is written of these nodes.
use Rattle.std.proofs.Common.{ℕ, suc, zero, ◌<◌, ◌≤◌, List, [], ◌∷◌, max, length, get_or, arith}
use Rattle.std.specs.{Prelude.All, List.AllByRecursion}
use Rattle.hb_types.specs.declared.ids.NodeId.{NodeId}
use Rattle.hb_tree.specs.Nodes.{numbers_of}

abbrev pub above : List ℕ → ℕ
above [] = 0
above (i ∷ is) = max (suc i) (above is)

pub above-le : (n : ℕ) (is : List ℕ) → AllByRecursion (λ j. j < n) is → above is ≤ n
above-le n [] h = omega arith
above-le n (i ∷ is) h = let first : i < n = h.0 in let rest : above is ≤ n = above-le n is h.1 in omega arith

pub above-all : (n : ℕ) (ids : List NodeId) → All (λ i. i.0 < n) ids → above (numbers_of ids) ≤ n
above-all n [] h = omega arith
above-all n (i ∷ ids) h =
    let first : i.0 < n = h 0 i (omega arith) in
    let rest : above (numbers_of ids) ≤ n = above-all n ids (λ k d within. h (suc k) d (omega arith)) in omega arith

pub below-above : (ids : List NodeId) (k : ℕ) (d : NodeId) → k < length ids → (get_or ids k d).0 < above (numbers_of ids)
below-above [] k d within = absurd (omega arith)
below-above (i ∷ ids) zero d within = omega arith
below-above (i ∷ ids) (suc k) d within = let rest : (get_or ids k d).0 < above (numbers_of ids) = below-above ids k d (omega arith) in omega arith
