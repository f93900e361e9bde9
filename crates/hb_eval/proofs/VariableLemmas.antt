-- A variable's place among those of its frame.
use Rattle.std.proofs.Common.{◌≡◌, ℕ, zero, suc, ◌+◌, ◌-◌, ◌<◌, ◌≤◌, [], ◌∷◌, ◌++◌, length, get_or, true, false, refl, sym, ap, ◌∙◌, subst, drop, arith, nat_eq, set, add-one, eq-eqb, ⊎_elim}
use Rattle.std.proofs.lemmas.Bool.Decides.{eqb_tells}
use Rattle.std.proofs.lemmas.List.{get_or-drop, length-drop, drop-set-add, drop-append-le}
use Rattle.hb_types.specs.declared.ids.NameId.{NameId}
use Rattle.hb_eval.specs.declared.value.Value.{Value}
use Rattle.hb_eval.specs.State.{Bindings, bind}

differ : (a b : ℕ) → (a ≡ b → ⊥) → nat_eq a b ≡ false
differ a b h = ⊎_elim (λ p. absurd (h p.1)) (λ p. p.0) (eqb_tells a b)

-- none of the first i bindings is of this name
abbrev pub NotIn : ℕ → Bindings → ℕ → Type 0
NotIn zero ps x = Unit {0}
NotIn (suc i) [] x = Unit {0}
NotIn (suc i) (p ∷ ps) x = (nat_eq p.0.0 x ≡ false) × NotIn i ps x

not_in_more : (i : ℕ) (ps : Bindings) (x : ℕ) (d : NameId × Value) → NotIn i ps x → i < length ps → nat_eq (get_or ps i d).0.0 x ≡ false → NotIn (suc i) ps x
not_in_more zero [] x d n h e = tt
not_in_more zero (p ∷ ps) x d n h e = (e, tt)
not_in_more (suc i) [] x d n h e = tt
not_in_more (suc i) (p ∷ ps) x d n h e = (n.0, not_in_more i ps x d n.1 (omega arith) e)

set_at : (i : ℕ) (ps : Bindings) (x : ℕ) (v : Value) (d : NameId × Value) → NotIn i ps x → i < length ps → nat_eq (get_or ps i d).0.0 x ≡ true → set ps i (record { 0 = x }, v) ≡ bind ps x v
set_at i [] x v d n h e = absurd (omega arith)
set_at zero (p ∷ ps) x v d n h e = rw e refl
set_at (suc i) (p ∷ ps) x v d n h e = rw n.0 (ap (λ qs. p ∷ qs) (set_at i ps x v d n.1 (omega arith) e))

set_new : (ps : Bindings) (x : ℕ) (v : Value) → NotIn (length ps) ps x → ps ++ (record { 0 = x }, v) ∷ [] ≡ bind ps x v
set_new [] x v n = refl
set_new (p ∷ ps) x v n = rw n.0 (ap (λ qs. p ∷ qs) (set_new ps x v n.1))

not_in_read : (i : ℕ) (ps : Bindings) (x : ℕ) (p : NameId × Value) → NotIn i ps x → i < length ps → p ≡ get_or ps i p → (p.0.0 ≡ x → ⊥) → NotIn (i + 1) ps x
not_in_read i ps x p n h e ne =
    let t : nat_eq (get_or ps i p).0.0 x ≡ false = ap (λ (q : NameId × Value). nat_eq q.0.0 x) (sym e) ∙ differ p.0.0 x ne in
    rw add-one (not_in_more i ps x p n h t)

set_read : (i : ℕ) (ps : Bindings) (x : ℕ) (v : Value) (p : NameId × Value) → NotIn i ps x → i < length ps → p ≡ get_or ps i p → p.0.0 ≡ x → set ps i (record { 0 = x }, v) ≡ bind ps x v
set_read i ps x v p n h e eq =
    let t : nat_eq (get_or ps i p).0.0 x ≡ true = ap (λ (q : NameId × Value). nat_eq q.0.0 x) (sym e) ∙ eq-eqb p.0.0 x eq in
    set_at i ps x v p n h t

-- the same among the bindings from a place on
above : (b i : ℕ) → b ≤ i → b + (i - b) ≡ i
above b i h = omega arith

pub not_in_above : (b i : ℕ) (ps : Bindings) (x : ℕ) (p : NameId × Value) → b ≤ i → NotIn (i - b) (drop b ps) x → i < length ps → p ≡ get_or ps i p → (p.0.0 ≡ x → ⊥) → NotIn (i + 1 - b) (drop b ps) x
not_in_above b i ps x p le h lt e ne =
    let read : p ≡ get_or (drop b ps) (i - b) p = e ∙ ap (λ k. get_or ps k p) (sym (above b i le)) ∙ sym (get_or-drop b ps (i - b) p) in
    let m : (i - b) + 1 ≡ i + 1 - b = omega arith in
    subst (λ k. NotIn k (drop b ps) x) m (not_in_read (i - b) (drop b ps) x p h (omega (arith, length-drop b ps)) read ne)

pub set_above : (b i : ℕ) (ps : Bindings) (x : ℕ) (v : Value) (p : NameId × Value) → b ≤ i → NotIn (i - b) (drop b ps) x → i < length ps → p ≡ get_or ps i p → p.0.0 ≡ x
    → drop b (set ps i (record { 0 = x }, v)) ≡ bind (drop b ps) x v
set_above b i ps x v p le h lt e eq =
    let read : p ≡ get_or (drop b ps) (i - b) p = e ∙ ap (λ k. get_or ps k p) (sym (above b i le)) ∙ sym (get_or-drop b ps (i - b) p) in
    ap (λ k. drop b (set ps k (record { 0 = x }, v))) (sym (above b i le)) ∙ drop-set-add b ps (i - b) (record { 0 = x }, v) ∙ set_read (i - b) (drop b ps) x v p h (omega (arith, length-drop b ps)) read eq

new_above : (b : ℕ) (ps : Bindings) (x : ℕ) (v : Value) → b ≤ length ps → NotIn (length ps - b) (drop b ps) x → drop b (ps ++ (record { 0 = x }, v) ∷ []) ≡ bind (drop b ps) x v
new_above b ps x v h n = drop-append-le b ps ((record { 0 = x }, v) ∷ []) h ∙ set_new (drop b ps) x v (subst (λ k. NotIn k (drop b ps) x) (sym (length-drop b ps)) n)

pub new_name : (b : ℕ) (ps : Bindings) (name : NameId) (v : Value) → b ≤ length ps → NotIn (length ps - b) (drop b ps) name.0 → drop b (ps ++ (name, v) ∷ []) ≡ bind (drop b ps) name.0 v
new_name b ps name v h n = new_above b ps name.0 v h n
