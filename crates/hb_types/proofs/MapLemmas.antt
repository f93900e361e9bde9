-- Finite maps of variables: what is found after each change.
use Rattle.std.proofs.Common.{◌≡◌, ℕ, zero, suc, ◌<◌, ◌≤◌, append-nil, [], ◌∷◌, ◌++◌, length, get_or, drop, set as list_set, Option, Some, None, Bool, true, false, refl, sym}
use Rattle.std.proofs.Common.{ap, ◌∙◌, subst, arith, nat_eq, eq-eqb, ◌||◌, ◌&&◌, if◌then◌else◌, position, ltb-true, ltb-false}
use Rattle.std.proofs.{lemmas.Bool.eqb-true, lemmas.List.length-set, lemmas.List.drop_all, lemmas.List.Sums.fails_before_first, lemmas.List.Sums.passes_at_first}
use Rattle.std.specs.{Prelude.nat_lt, List.position_or_len, List.refill}
use Rattle.hb_types.specs.declared.{ids.NameId.NameId, types.Ty.Ty}
use Rattle.hb_types.specs.declared.types.Ty.TheVariants as ty
use Rattle.hb_types.specs.Types.{is_below}
use Rattle.hb_types.specs.Variables.{Variables, variable, has, IsMap, get, set, joined, join, both, stays_below, keeps}

-- equality of names, turned round
same_false : (x y : ℕ) → nat_eq x y ≡ false → nat_eq y x ≡ false
same_false x y h = go (nat_eq y x) refl
  where
    go : (b : Bool) → nat_eq y x ≡ b → nat_eq y x ≡ false
    go true e = absurd (let k = eq-eqb x y (sym (eqb-true y x e)) in cc)
    go false e = e

either_twice : (a b : Bool) → (a || b) ≡ (a || (a || b))
either_twice true b = refl
either_twice false b = refl

either_swap : (a b c : Bool) → (a || (b || c)) ≡ (b || (a || c))
either_swap true true c = refl
either_swap true false c = refl
either_swap false true c = refl
either_swap false false c = refl

pub has_set : (G : Variables) (x : ℕ) (t : Ty) (y : ℕ) → has (set G x t) y ≡ (nat_eq x y || has G y)
has_set [] x t y = refl
has_set (v ∷ G) x t y = go (nat_eq v.0.0 x) refl (has_set G x t y)
  where
    go : (b : Bool) → nat_eq v.0.0 x ≡ b → has (set G x t) y ≡ (nat_eq x y || has G y) → has (if b then variable x t ∷ G else v ∷ set G x t) y ≡ (nat_eq x y || (nat_eq v.0.0 y || has G y))
    go true e rest = either_twice (nat_eq x y) (has G y) ∙ ap (λ (n : ℕ). nat_eq x y || (nat_eq n y || has G y)) (sym (eqb-true v.0.0 x e))
    go false e rest = ap (λ b. nat_eq v.0.0 y || b) rest ∙ either_swap (nat_eq v.0.0 y) (nat_eq x y) (has G y)

pub set_map : (G : Variables) (x : ℕ) (t : Ty) → IsMap G → IsMap (set G x t)
set_map [] x t h = (refl, tt)
set_map (v ∷ G) x t h = go (nat_eq v.0.0 x) refl (set_map G x t h.1)
  where
    go : (b : Bool) → nat_eq v.0.0 x ≡ b → IsMap (set G x t) → IsMap (if b then variable x t ∷ G else v ∷ set G x t)
    go true e rest = (subst (λ (n : ℕ). has G n ≡ false) (eqb-true v.0.0 x e) h.0, h.1)
    go false e rest = (has_set G x t v.0.0 ∙ rw (same_false v.0.0 x e, h.0) refl, rest)

pub get_set : (G : Variables) (x : ℕ) (t : Ty) (y : ℕ) → get (set G x t) y ≡ (if nat_eq x y then Some t else get G y)
get_set [] x t y = refl
get_set (v ∷ G) x t y = go (nat_eq v.0.0 x) refl (get_set G x t y)
  where
    same : (b : Bool) (o : Option Ty) → (if b then Some t else o) ≡ (if b then Some t else (if b then Some v.1 else o))
    same true o = refl
    same false o = refl

    other : (b : Bool) → nat_eq v.0.0 y ≡ b → nat_eq v.0.0 x ≡ false → (if b then Some v.1 else (if nat_eq x y then Some t else get G y)) ≡ (if nat_eq x y then Some t else (if b then Some v.1 else get G y))
    other false e ne = refl
    other true e ne = let xy : nat_eq x y ≡ false = same_false y x (subst (λ (n : ℕ). nat_eq n x ≡ false) (eqb-true v.0.0 y e) ne) in rw xy refl

    go : (b : Bool) → nat_eq v.0.0 x ≡ b → get (set G x t) y ≡ (if nat_eq x y then Some t else get G y)
        → get (if b then variable x t ∷ G else v ∷ set G x t) y ≡ (if nat_eq x y then Some t else (if nat_eq v.0.0 y then Some v.1 else get G y))
    go true e rest = same (nat_eq x y) (get G y) ∙ ap (λ (n : ℕ). if nat_eq x y then Some t else (if nat_eq n y then Some v.1 else get G y)) (sym (eqb-true v.0.0 x e))
    go false e rest = ap (λ o. if nat_eq v.0.0 y then Some v.1 else o) rest ∙ other (nat_eq v.0.0 y) refl e

both_none : (o : Option Ty) → both o None ≡ None
both_none None = refl
both_none (Some t) = refl

pub get_join : (G H : Variables) (x : ℕ) → get (join G H) x ≡ both (get G x) (get H x)
get_join [] H x = refl
get_join (v ∷ G) H x = go (get H v.0.0) refl (nat_eq v.0.0 x) refl (get_join G H x)
  where
    go : (o : Option Ty) → get H v.0.0 ≡ o → (b : Bool) → nat_eq v.0.0 x ≡ b → get (join G H) x ≡ both (get G x) (get H x) → get (joined v o (join G H)) x ≡ both (if b then Some v.1 else get G x) (get H x)
    go None f true e rest =
        let absent : get H x ≡ None = subst (λ (n : ℕ). get H n ≡ None) (eqb-true v.0.0 x e) f in
        rest ∙ ap (λ o. both (get G x) o) absent ∙ both_none (get G x) ∙ ap (λ o. both (Some v.1) o) (sym absent)
    go None f false e rest = rest
    go (Some u) f true e rest =
        let there : get H x ≡ Some u = subst (λ (n : ℕ). get H n ≡ Some u) (eqb-true v.0.0 x e) f in
        rw e (ap (λ o. both (Some v.1) o) (sym there))
    go (Some u) f false e rest = rw e rest

has_join : (G H : Variables) (y : ℕ) → has G y ≡ false → has (join G H) y ≡ false
has_join [] H y h = refl
has_join (v ∷ G) H y h = go (get H v.0.0) (nat_eq v.0.0 y) refl h (has_join G H y)
  where
    go : (o : Option Ty) (b : Bool) → nat_eq v.0.0 y ≡ b → (b || has G y) ≡ false → (has G y ≡ false → has (join G H) y ≡ false) → has (joined v o (join G H)) y ≡ false
    go o true e h rest = absurd (cc)
    go None false e h rest = rest h
    go (Some u) false e h rest = rw e (rest h)

pub join_map : (G H : Variables) → IsMap G → IsMap (join G H)
join_map [] H h = tt
join_map (v ∷ G) H h = go (get H v.0.0) (join_map G H h.1)
  where
    go : (o : Option Ty) → IsMap (join G H) → IsMap (joined v o (join G H))
    go None rest = rest
    go (Some u) rest = (has_join G H v.0.0 h.0, rest)

pub both_true : (a b : Bool) → (a && b) ≡ true → (a ≡ true) × (b ≡ true)
both_true true true h = (refl, refl)
both_true true false h = absurd (cc)
both_true false b h = absurd (cc)

stays : (t : Ty) (o : Option Ty) → stays_below t o ≡ true → (u : Ty) × (o ≡ Some u) × (is_below u t ≡ true)
stays t None h = absurd (cc)
stays t (Some u) h = (u, refl, h)

pub keeps_get : (G H : Variables) → keeps G H ≡ true → (x : ℕ) (t : Ty) → get G x ≡ Some t → (u : Ty) × (get H x ≡ Some u) × (is_below u t ≡ true)
keeps_get [] H h x t k = absurd (cc)
keeps_get (v ∷ G) H h x t k = let p = both_true (stays_below v.1 (get H v.0.0)) (keeps G H) h in go (nat_eq v.0.0 x) refl k p.0 (keeps_get G H p.1 x t)
  where
    go : (b : Bool) → nat_eq v.0.0 x ≡ b → (if b then Some v.1 else get G x) ≡ Some t → stays_below v.1 (get H v.0.0) ≡ true
        → (get G x ≡ Some t → (u : Ty) × (get H x ≡ Some u) × (is_below u t ≡ true)) → (u : Ty) × (get H x ≡ Some u) × (is_below u t ≡ true)
    go false e k s rest = rest k
    go true e k s rest =
        let same : v.1 ≡ t = cc in
        stays t (get H x) (subst (λ (n : ℕ). stays_below t (get H n) ≡ true) (eqb-true v.0.0 x e) (subst (λ (r : Ty). stays_below r (get H v.0.0) ≡ true) same s))

get_has : (G : Variables) (x : ℕ) (t : Ty) → get G x ≡ Some t → has G x ≡ true
get_has [] x t h = absurd (cc)
get_has (v ∷ G) x t h = go (nat_eq v.0.0 x) h (get_has G x t)
  where
    go : (b : Bool) → (if b then Some v.1 else get G x) ≡ Some t → (get G x ≡ Some t → has G x ≡ true) → (b || has G x) ≡ true
    go true h rest = refl
    go false h rest = rest h

pub keeps_of : (G H : Variables) → IsMap G → ((x : ℕ) (t : Ty) → get G x ≡ Some t → (u : Ty) × (get H x ≡ Some u) × (is_below u t ≡ true)) → keeps G H ≡ true
keeps_of [] H m h = refl
keeps_of (v ∷ G) H m h =
    let first = h v.0.0 v.1 (rw (eq-eqb v.0.0 v.0.0 refl) refl) in
    rw (first.1, first.2) (keeps_of G H m.1 (λ x t k. h x t (later x t k (nat_eq v.0.0 x) refl)))
  where
    later : (x : ℕ) (t : Ty) → get G x ≡ Some t → (b : Bool) → nat_eq v.0.0 x ≡ b → (if b then Some v.1 else get G x) ≡ Some t
    later x t k false e = k
    later x t k true e = absurd (let there = get_has G x t k in let gone : has G x ≡ false = subst (λ (n : ℕ). has G n ≡ false) (eqb-true v.0.0 x e) m.0 in cc)

-- the places of a list: a write at the first place of a name, and one behind all
abbrev names : ℕ → NameId × Ty → Bool
names x v = nat_eq v.0.0 x

set_at : (i : ℕ) (G : Variables) (x : ℕ) (t : Ty) (d : NameId × Ty) → ((k : ℕ) → k < i → names x (get_or G k d) ≡ false) → i < length G → names x (get_or G i d) ≡ true → list_set G i (variable x t) ≡ set G x t
set_at i [] x t d n h e = absurd (omega arith)
set_at zero (v ∷ G) x t d n h e = rw e refl
set_at (suc i) (v ∷ G) x t d n h e = rw (n 0 (omega arith)) (ap (λ (l : Variables). v ∷ l) (set_at i G x t d (λ k lt. n (suc k) (omega (arith, lt))) (omega (arith, h)) e))

has_at : (i : ℕ) (G : Variables) (x : ℕ) (d : NameId × Ty) → i < length G → names x (get_or G i d) ≡ true → has G x ≡ true
has_at i [] x d h e = absurd (omega arith)
has_at zero (v ∷ G) x d h e = rw e refl
has_at (suc i) (v ∷ G) x d h e = go (nat_eq v.0.0 x) (has_at i G x d (omega (arith, h)) e)
  where
    go : (b : Bool) → has G x ≡ true → (b || has G x) ≡ true
    go true k = refl
    go false k = k

has_nowhere : (G : Variables) (x : ℕ) (d : NameId × Ty) → ((k : ℕ) → k < length G → names x (get_or G k d) ≡ false) → has G x ≡ false
has_nowhere [] x d n = refl
has_nowhere (v ∷ G) x d n = rw (n 0 (omega arith)) (has_nowhere G x d (λ k lt. n (suc k) (omega (arith, lt))))

pub set_new : (G : Variables) (x : ℕ) (t : Ty) → has G x ≡ false → G ++ variable x t ∷ [] ≡ set G x t
set_new [] x t h = refl
set_new (v ∷ G) x t h = go (nat_eq v.0.0 x) h (set_new G x t)
  where
    go : (b : Bool) → (b || has G x) ≡ false → (has G x ≡ false → G ++ variable x t ∷ [] ≡ set G x t) → v ∷ (G ++ variable x t ∷ []) ≡ (if b then variable x t ∷ G else v ∷ set G x t)
    go true h rest = absurd (cc)
    go false h rest = ap (λ (l : Variables). v ∷ l) (rest h)

-- what the first place of a name says
pub found_at : (G : Variables) (x : ℕ) (t : Ty) (i : ℕ) → position (names x) G ≡ Some i → (has G x ≡ true) × (list_set G i (variable x t) ≡ set G x t)
found_at G x t i h = go (nat_lt (position_or_len (names x) G) (length G)) refl h
  where
    n : ℕ
    n = position_or_len (names x) G

    go : (b : Bool) → nat_lt n (length G) ≡ b → (if b then Some n else None) ≡ Some i → (has G x ≡ true) × (list_set G i (variable x t) ≡ set G x t)
    go false e h = absurd (cc)
    go true e h =
        let lt : n < length G = ltb-true n (length G) e in
        let same : n ≡ i = cc in
        let first = passes_at_first (names x) G (variable x t) lt in
        (has_at n G x (variable x t) lt first, ap (λ (j : ℕ). list_set G j (variable x t)) (sym same) ∙ set_at n G x t (variable x t) (λ k b. fails_before_first (names x) G k (variable x t) b) lt first)

pub found_nowhere : (G : Variables) (x : ℕ) → position (names x) G ≡ None → has G x ≡ false
found_nowhere G x h = go (nat_lt (position_or_len (names x) G) (length G)) refl h
  where
    n : ℕ
    n = position_or_len (names x) G

    go : (b : Bool) → nat_lt n (length G) ≡ b → (if b then Some n else None) ≡ None → has G x ≡ false
    go true e h = absurd (cc)
    go false e h = let ge = ltb-false n (length G) e in has_nowhere G x (variable x ty.Nil) (λ k lt. fails_before_first (names x) G k (variable x ty.Nil) (omega (arith, lt, ge)))

pub refill_whole : (xs ws : Variables) → length ws ≡ length xs → refill (length xs) xs ws ≡ ws
refill_whole [] [] h = refl
refill_whole [] (w ∷ ws) h = absurd (omega arith)
refill_whole (x ∷ xs) [] h = absurd (omega arith)
refill_whole (x ∷ xs) (w ∷ ws) h = ap (λ (l : Variables). w ∷ l) (refill_whole xs ws (omega (arith, h)))

-- a write at the place that was found, in a list that is seen through slices
pub written : (G L W : Variables) (n : NameId) (t : Ty) (o : Option ℕ) (i : ℕ) → L ≡ G → W ≡ G → o ≡ position (names n.0) L → o ≡ Some i → (has G n.0 ≡ true) × (refill (length G) G (list_set W i (n, t)) ≡ set G n.0 t)
written G L W n t o i l w p s =
    let f = found_at G n.0 t i (ap (λ (k : Variables). position (names n.0) k) (sym l) ∙ sym p ∙ s) in
    (f.0, ap (λ (k : Variables). refill (length G) G (list_set k i (n, t))) w ∙ refill_whole G (list_set G i (n, t)) (length-set G i (n, t)) ∙ f.1)

pub absent : (G L : Variables) (n : NameId) (o : Option ℕ) → L ≡ G → o ≡ position (names n.0) L → o ≡ None → has G n.0 ≡ false
absent G L n o l p s = found_nowhere G n.0 (ap (λ (k : Variables). position (names n.0) k) (sym l) ∙ sym p ∙ s)

-- a join whose first map was gone through to its end
pub join_whole : (G L H out : Variables) (i : ℕ) → L ≡ G → length L ≤ i → out ++ join (drop i G) H ≡ join G H → out ≡ join G H
join_whole G L H out i l h e =
    let past : drop i G ≡ [] = drop_all i G (omega (arith, h, ap (λ (k : Variables). length k) l)) in
    sym (append-nil out) ∙ ap (λ (k : Variables). out ++ join k H) (sym past) ∙ e
