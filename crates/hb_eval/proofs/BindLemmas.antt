-- Arguments under the names of parameters.
use Rattle.std.proofs.Common.{◌≡◌, ℕ, zero, suc, ◌+◌, ◌-◌, ◌≤◌, List, [], ◌∷◌, ◌++◌, length, map, take, drop, min, refl, sym, ap, ◌∙◌, arith, append-nil, length-drop, add-one}
use Rattle.std.proofs.lemmas.List.{length-map}
use Rattle.hb_types.specs.declared.ids.NameId.{NameId}
use Rattle.hb_eval.specs.declared.value.Value.{Value}
use Rattle.hb_eval.specs.{State.Bindings, Calls.bindings}

bindings_none : (xs : List ℕ) (vs : List Value) → min (length xs) (length vs) ≡ 0 → bindings xs vs ≡ []
bindings_none [] vs h = refl
bindings_none (x ∷ xs) [] h = refl
bindings_none (x ∷ xs) (v ∷ vs) h = absurd (omega (arith, h))

-- all are bound
pub bound_all : (vars whole : Bindings) (params : List NameId) (ops : List Value) (from i count : ℕ) → vars ++ bindings (map (λ (x : NameId). x.0) (drop i params)) (drop (from + i) ops) ≡ whole
    → count ≡ min (length params) (length ops - from) → count ≤ i → vars ≡ whole
bound_all vars whole params ops from i count e is past =
    let xs = map (λ (x : NameId). x.0) (drop i params) in
    let vs = drop (from + i) ops in
    let none : bindings xs vs ≡ [] = bindings_none xs vs (omega (arith, length-map (drop i params) (λ (x : NameId). x.0), length-drop i params, length-drop (from + i) ops, is, past)) in
    sym (append-nil vars) ∙ ap (λ l. vars ++ l) (sym none) ∙ e

take_one : {A : Type 0} (n : ℕ) (xs : List A) → take n (take (n + 1) xs) ≡ take n xs
take_one {A = A} n xs = ap (λ k. take n (take k xs)) (add-one n) ∙ go n xs
  where
    go : (n : ℕ) (xs : List A) → take n (take (suc n) xs) ≡ take n xs
    go zero xs = refl
    go (suc n) [] = refl
    go (suc n) (x ∷ xs) = ap (λ l. x ∷ l) (go n xs)

pub take_less : {A : Type 0} (n : ℕ) (a b : List A) → take (n + 1) a ≡ take (n + 1) b → take n a ≡ take n b
take_less n a b e = sym (take_one n a) ∙ ap (take n) e ∙ take_one n b
