-- Keys, lists of keys, and the table of the uses.
use Rattle.std.proofs.Common.{◌≡◌, ℕ, List, [], ◌∷◌, ◌++◌, map, Bool, true, false, refl, sym, ap, ◌∙◌, subst, eq-eqb, append_assoc}
use Rattle.std.proofs.lemmas.Bool.{eqb-true}
use Rattle.std.specs.Prelude.{◌||◌, if◌then◌else◌}
use Rattle.hb_deriv.specs.declared.raw.Used.{Used}
use Rattle.hb_deriv.specs.Judge.{Key, Types}
use Rattle.hb_deriv.specs.Events.{Events, Look, Done, SameIn, same_key, has, fresh}
use Rattle.hb_deriv.specs.Derivation.{Sites, key_of, type_of, table, AgreesWith}
use Rattle.hb_deriv.proofs.JudgementLemmas.{and_both}

pub key_same : (j k : Key) → same_key j k ≡ true → j ≡ k
key_same j k h = let p = and_both _ _ h in pair (eqb-true j.0 k.0 p.0) (eqb-true j.1 k.1 p.1)
  where
    pair : j.0 ≡ k.0 → j.1 ≡ k.1 → j ≡ k
    pair p q = ap (λ (n : ℕ). (n, j.1)) p ∙ ap (λ (n : ℕ). (k.0, n)) q

pub key_itself : (k : Key) → same_key k k ≡ true
key_itself k = rw (eq-eqb k.0 k.0 refl, eq-eqb k.1 k.1 refl) refl

pub has_front : (k : Key) (js ls : List Key) → has k js ≡ true → has k (js ++ ls) ≡ true
has_front k [] ls h = absurd (cc)
has_front k (j ∷ js) ls h = go (same_key j k) (has_front k js ls) h
  where
    go : (b : Bool) → (has k js ≡ true → has k (js ++ ls) ≡ true) → (b || has k js) ≡ true → (b || has k (js ++ ls)) ≡ true
    go true rest h = refl
    go false rest h = rest h

pub has_mid : (k : Key) (js ls : List Key) → has k (js ++ k ∷ ls) ≡ true
has_mid k [] ls = rw (key_itself k) refl
has_mid k (j ∷ js) ls = go (same_key j k) (has_mid k js ls)
  where
    go : (b : Bool) → has k (js ++ k ∷ ls) ≡ true → (b || has k (js ++ k ∷ ls)) ≡ true
    go true rest = refl
    go false rest = rest

-- each look is at one of these keys
abbrev pub AllHave : List Key → Events → Type 0
AllHave ks [] = Unit {0}
AllHave ks (Look id k ∷ es) = (has k ks ≡ true) × AllHave ks es
AllHave ks (Done id t ∷ es) = AllHave ks es

-- the looks without repeats have each look
pub fresh_has : (seen : List Key) (es : Events) → AllHave (seen ++ fresh seen es) es
fresh_has seen [] = tt
fresh_has seen (Done id t ∷ es) = fresh_has seen es
fresh_has seen (Look id k ∷ es) = go (has k seen) refl (λ ks. fresh_has ks es)
  where
    go : (b : Bool) → has k seen ≡ b → ((ks : List Key) → AllHave (ks ++ fresh ks es) es) → AllHave (seen ++ (if b then fresh seen es else k ∷ fresh (seen ++ k ∷ []) es)) (Look id k ∷ es)
    go true e rest = (has_front k seen (fresh seen es) e, rest seen)
    go false e rest = (has_mid k seen (fresh (seen ++ k ∷ []) es), subst (λ (ks : List Key). AllHave ks es) (append_assoc seen (k ∷ []) (fresh (seen ++ k ∷ []) es)) (rest (seen ++ k ∷ [])))

-- at the key of a use, the table of the uses has the type that the other has
table_agrees : (sites : Sites) (us : List Used) (types : Types) (k : Key) → has k (map key_of us) ≡ true → AgreesWith sites us types → table sites us k ≡ types k
table_agrees sites [] types k h a = absurd (cc)
table_agrees sites (u ∷ us) types k h a = go (same_key (key_of u) k) refl (λ h. table_agrees sites us types k h a.1) h
  where
    go : (b : Bool) → same_key (key_of u) k ≡ b → (has k (map key_of us) ≡ true → table sites us k ≡ types k) → (b || has k (map key_of us)) ≡ true → (if b then type_of sites u else table sites us k) ≡ types k
    go true e rest h = sym (subst (λ (j : Key). types j ≡ type_of sites u) (key_same (key_of u) k e) a.0)
    go false e rest h = rest h

pub same_in : (sites : Sites) (us : List Used) (types : Types) (es : Events) → AllHave (map key_of us) es → AgreesWith sites us types → SameIn (table sites us) types es
same_in sites us types [] h a = tt
same_in sites us types (Look id k ∷ es) h a = (table_agrees sites us types k h.0 a, same_in sites us types es h.1 a)
same_in sites us types (Done id t ∷ es) h a = same_in sites us types es h a

pub same_back : (t u : Types) (es : Events) → SameIn t u es → SameIn u t es
same_back t u [] h = tt
same_back t u (Look id k ∷ es) h = (sym h.0, same_back t u es h.1)
same_back t u (Done id s ∷ es) h = same_back t u es h
