-- Values and variables that have their types.
use Rattle.std.proofs.Common.{◌≡◌, ℕ, suc, List, [], ◌∷◌, ◌++◌, length, map, Option, Some, None, Bool, true, false, refl, sym, ap, ◌∙◌, subst, nat_eq, eq-eqb}
use Rattle.std.specs.Prelude.{if◌then◌else◌}
use Rattle.std.proofs.lemmas.Bool.{eqb-true}
use Rattle.hb_types.specs.declared.{types.Ty.Ty, types.MethodTy.MethodTy}
use Rattle.hb_types.specs.declared.types.Ty.TheVariants as ty
use Rattle.hb_types.specs.Types.{IsBelow, below_itself, nil_below, below_any, is_below, join_of, params_of}
use Rattle.hb_types.specs.Variables.{Variables, get, set, both, join, keeps}
use Rattle.hb_types.proofs.Below.{is_below_of, is_below_from}
use Rattle.hb_types.proofs.MapLemmas.{get_set, get_join, keeps_get}
use Rattle.hb_deriv.specs.Judge.{all_below, parameters}
use Rattle.hb_deriv.proofs.JudgementLemmas.{and_both}
use Rattle.hb_tables.specs.Verdicts.{takes}
use Rattle.hb_eval.specs.declared.value.Value.{Value}
use Rattle.hb_eval.specs.{Values.kind_of, Calls.bindings}
use Rattle.hb_eval.specs.State.{Bindings, value_at, bind}
use Rattle.hb_sound.specs.Sound.{Conforms, Fits, AllConform}

pub below_refl : (a : Ty) → is_below a a ≡ true
below_refl a = is_below_of a a below_itself

pub below_trans : (a b c : Ty) → is_below a b ≡ true → is_below b c ≡ true → is_below a c ≡ true
below_trans a b c h k = is_below_of a c (go a b c (is_below_from a b h) (is_below_from b c k))
  where
    under : (b c : Ty) → b ≡ ty.Any → IsBelow b c → c ≡ ty.Any
    under b _ e below_itself = e
    under _ c e nil_below = absurd (cc)
    under b _ e below_any = refl

    go : (a b c : Ty) → IsBelow a b → IsBelow b c → IsBelow a c
    go a _ c below_itself k = k
    go _ b c nil_below k = nil_below
    go a _ c below_any k = subst (λ (t : Ty). IsBelow a t) (sym (under ty.Any c refl k)) below_any

pub widen : (v : Value) (s t : Ty) → Conforms v s → is_below s t ≡ true → Conforms v t
widen v s t h k = below_trans (kind_of v) s t h k

-- the first of two types is below their join, and so is the second
pub join_first : (a b : Ty) → is_below a (join_of a b) ≡ true
join_first a b = go (is_below a b) refl (is_below b a)
  where
    go : (p : Bool) → is_below a b ≡ p → (q : Bool) → is_below a (if p then b else (if q then a else ty.Any)) ≡ true
    go true e q = e
    go false e true = below_refl a
    go false e false = is_below_of a ty.Any below_any

pub join_second : (a b : Ty) → is_below b (join_of a b) ≡ true
join_second a b = go (is_below a b) (is_below b a) refl
  where
    go : (p q : Bool) → is_below b a ≡ q → is_below b (if p then b else (if q then a else ty.Any)) ≡ true
    go true q e = below_refl b
    go false true e = e
    go false false e = is_below_of b ty.Any below_any

pub some_same : {A : Type 0} (x y : A) → Some x ≡ Some y → x ≡ y
some_same x y h = cc

-- what a variable has after one was bound
value_at_bind : (vars : Bindings) (x y : ℕ) (v : Value) → value_at (bind vars x v) y ≡ (if nat_eq x y then Some v else value_at vars y)
value_at_bind [] x y v = refl
value_at_bind (p ∷ ps) x y v = go (value_at_bind ps x y v) (nat_eq p.0.0 x) refl (nat_eq x y) refl (nat_eq p.0.0 y) refl
  where
    go : value_at (bind ps x v) y ≡ (if nat_eq x y then Some v else value_at ps y) → (a : Bool) → nat_eq p.0.0 x ≡ a → (b : Bool) → nat_eq x y ≡ b → (c : Bool) → nat_eq p.0.0 y ≡ c
        → value_at (if a then (record { 0 = x }, v) ∷ ps else p ∷ bind ps x v) y ≡ (if b then Some v else (if c then Some p.1 else value_at ps y))
    go r true ea true eb c ec = rw eb refl
    go r true ea false eb true ec = absurd (let e : nat_eq x y ≡ true = eq-eqb x y (sym (eqb-true p.0.0 x ea) ∙ eqb-true p.0.0 y ec) in cc)
    go r true ea false eb false ec = rw eb refl
    go r false ea true eb true ec = absurd (let e : nat_eq p.0.0 x ≡ true = eq-eqb p.0.0 x (eqb-true p.0.0 y ec ∙ sym (eqb-true x y eb)) in cc)
    go r false ea false eb true ec = rw ec refl
    go r false ea true eb false ec = rw ec (r ∙ ap (λ b. if b then Some v else value_at ps y) eb)
    go r false ea false eb false ec = rw ec (r ∙ ap (λ b. if b then Some v else value_at ps y) eb)

pub fits_bind : (G : Variables) (vars : Bindings) (x : ℕ) (t : Ty) (v : Value) → Fits G vars → Conforms v t → Fits (set G x t) (bind vars x v)
fits_bind G vars x t v f h y u e = go (nat_eq x y) refl
  where
    go : (b : Bool) → nat_eq x y ≡ b → (w : Value) × (value_at (bind vars x v) y ≡ Some w) × Conforms w u
    go true eb =
        let g : Some t ≡ Some u = sym (get_set G x t y ∙ ap (λ b. if b then Some t else get G y) eb) ∙ e in
        (v, value_at_bind vars x y v ∙ ap (λ b. if b then Some v else value_at vars y) eb, subst (Conforms v) (some_same t u g) h)
    go false eb =
        let g : get G y ≡ Some u = sym (get_set G x t y ∙ ap (λ b. if b then Some t else get G y) eb) ∙ e in
        let w = f y u g in
        (w.0, value_at_bind vars x y v ∙ ap (λ b. if b then Some v else value_at vars y) eb ∙ w.1, w.2)

-- where a name of a join comes from
joined : (a b : Option Ty) (t : Ty) → both a b ≡ Some t → (s u : Ty) × (a ≡ Some s) × (b ≡ Some u) × (join_of s u ≡ t)
joined None b t h = absurd (cc)
joined (Some s) None t h = absurd (cc)
joined (Some s) (Some u) t h = (s, u, refl, refl, some_same (join_of s u) t h)

pub fits_join_first : (G H : Variables) (vars : Bindings) → Fits G vars → Fits (join G H) vars
fits_join_first G H vars f x t h =
    let j = joined (get G x) (get H x) t (sym (get_join G H x) ∙ h) in
    let v = f x j.0 j.2 in
    (v.0, v.1, widen v.0 j.0 t v.2 (subst (λ u. is_below j.0 u ≡ true) j.4 (join_first j.0 j.1)))

pub fits_join_second : (G H : Variables) (vars : Bindings) → Fits H vars → Fits (join G H) vars
fits_join_second G H vars f x t h =
    let j = joined (get G x) (get H x) t (sym (get_join G H x) ∙ h) in
    let v = f x j.1 j.3 in
    (v.0, v.1, widen v.0 j.1 t v.2 (subst (λ u. is_below j.1 u ≡ true) j.4 (join_second j.0 j.1)))

pub fits_keeps : (G H : Variables) (vars : Bindings) → keeps G H ≡ true → Fits H vars → Fits G vars
fits_keeps G H vars k f x t h =
    let u = keeps_get G H k x t h in
    let v = f x u.0 u.1 in
    (v.0, v.1, widen v.0 u.0 t v.2 u.2)

pub conform_more : (vs : List Value) (ts : List Ty) (v : Value) (t : Ty) → AllConform vs ts → Conforms v t → AllConform (vs ++ v ∷ []) (ts ++ t ∷ [])
conform_more [] [] v t h k = (k, tt)
conform_more (x ∷ vs) (u ∷ ts) v t h k = (h.0, conform_more vs ts v t h.1 k)
conform_more [] (u ∷ ts) v t h k = absurd h
conform_more (x ∷ vs) [] v t h k = absurd h

-- arguments that conform to types that a method takes are taken by it
kinds_length : (vs : List Value) (ts : List Ty) → AllConform vs ts → length (map kind_of vs) ≡ length ts
kinds_length [] [] h = refl
kinds_length (v ∷ vs) (t ∷ ts) h = ap suc (kinds_length vs ts h.1)
kinds_length [] (t ∷ ts) h = absurd h
kinds_length (v ∷ vs) [] h = absurd h

kinds_below : (vs : List Value) (ts params : List Ty) → AllConform vs ts → all_below ts params ≡ true → all_below (map kind_of vs) params ≡ true
kinds_below [] [] ps h b = refl
kinds_below (v ∷ vs) (t ∷ ts) [] h b = absurd (cc)
kinds_below (v ∷ vs) (t ∷ ts) (p ∷ ps) h b = let k = and_both _ _ b in rw (below_trans (kind_of v) t p h.0 k.0, kinds_below vs ts ps h.1 k.1) refl
kinds_below [] (t ∷ ts) ps h b = absurd h
kinds_below (v ∷ vs) [] ps h b = absurd h

pub taken : (vs : List Value) (ts : List Ty) (m : MethodTy) → AllConform vs ts → length ts ≡ m.count → all_below ts (params_of m) ≡ true → takes m (map kind_of vs) ≡ true
taken vs ts m h n b = let e = eq-eqb (length (map kind_of vs)) m.count (kinds_length vs ts h ∙ n) in let k = kinds_below vs ts (params_of m) h b in rw (e, k) refl

-- arguments that are taken fit the parameters
pub params_fit : (xs : List ℕ) (ts : List Ty) (vs : List Value) → length (map kind_of vs) ≡ length xs → all_below (map kind_of vs) ts ≡ true → Fits (parameters xs ts) (bindings xs vs)
params_fit (x ∷ xs) (t ∷ ts) (v ∷ vs) l b y u h = go (nat_eq x y) refl h (params_fit xs ts vs (cc l) (and_both _ _ b).1 y u)
  where
    go : (i : Bool) → nat_eq x y ≡ i → (if i then Some t else get (parameters xs ts) y) ≡ Some u
        → (get (parameters xs ts) y ≡ Some u → (w : Value) × (value_at (bindings xs vs) y ≡ Some w) × Conforms w u)
        → (w : Value) × ((if nat_eq x y then Some v else value_at (bindings xs vs) y) ≡ Some w) × Conforms w u
    go true e h r = (v, rw e refl, subst (Conforms v) (some_same t u h) (and_both _ _ b).0)
    go false e h r = let w = r h in (w.0, rw e w.1, w.2)
params_fit _ ts vs l b y u h = absurd (cc)
