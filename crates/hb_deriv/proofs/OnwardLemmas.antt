-- Where two tables agree on the looks of the first events, they have one event more in common.
use Rattle.std.proofs.Common.{◌≡◌, ◌⊎◌, ℕ, List, [], ◌∷◌, ◌++◌, Bool, true, false, refl, sym, ap, ◌∙◌, subst, inl, inr, ⊎_elim, append_assoc}
use Rattle.std.specs.Prelude.{Ok, Err, if◌then◌else◌}
use Rattle.hb_types.specs.declared.types.Ty.{Ty}
use Rattle.hb_types.specs.declared.types.Ty.TheVariants as ty
use Rattle.hb_types.specs.Variables.{Variables}
use Rattle.hb_tree.specs.Tree.{Tree, TNil, TTrue, TFalse, TSelf, TInt, TText, TVar, TNew, TAssign, TPrint, TToStr, TNot, TBinary, TIf, TWhile, TCall, TDef, TDefComputed}
use Rattle.hb_tree.specs.Tree.{TDeclare, TDeclareComputed, TBlock, Forest, NoTree, Trees}
use Rattle.hb_deriv.specs.Judge.{Types, Verdict, keys_of, called, call_type, Subject, variables_of, has_count}
use Rattle.hb_deriv.specs.Events.{Event, Look, Events, behind, done, look_at, events, events_items, events_args, events_body, SameIn}
use Rattle.hb_deriv.proofs.AlikeLemmas.{Alike, parts_in, alike, alike_args}

-- each look of the first list, up to which the tables agree, is one of the second at the same place
pub record Onward (t u : Types) (ls ms : Events) : Type 0 where
  pub by : (ks : Events) (k : Event) (rest : Events) → ls ≡ ks ++ k ∷ rest → SameIn t u ks → (others : Events) × (ms ≡ ks ++ k ∷ others)

head_same : (x y : Event) (xs ys : Events) → x ∷ xs ≡ y ∷ ys → (x ≡ y) × (xs ≡ ys)
head_same x y xs ys h = (cc, cc)

-- a place in two lists joined is in the first or in the second
split : (a b ks : Events) (k : Event) (rest : Events) → a ++ b ≡ ks ++ k ∷ rest → ((r : Events) × (a ≡ ks ++ k ∷ r)) ⊎ ((js : Events) × (ks ≡ a ++ js) × (b ≡ js ++ k ∷ rest))
split [] b ks k rest h = inr (ks, refl, h)
split (x ∷ a) b [] k rest h = let p = head_same x k (a ++ b) rest h in inl (a, ap (λ (y : Event). y ∷ a) p.0)
split (x ∷ a) b (y ∷ ks) k rest h =
    let p = head_same x y (a ++ b) (ks ++ k ∷ rest) h in
    ⊎_elim
    (λ q. inl (q.0, ap (λ l. x ∷ l) q.1 ∙ ap (λ (z : Event). z ∷ (ks ++ k ∷ q.0)) p.0))
    (λ q. inr (q.0, ap (λ l. y ∷ l) q.1 ∙ ap (λ (z : Event). z ∷ (a ++ q.0)) (sym p.0), q.2))
    (split a b ks k rest p.1)

none_here : (ks : Events) (k : Event) (rest : Events) → [] ≡ ks ++ k ∷ rest → ⊥
none_here [] k rest h = cc
none_here (x ∷ ks) k rest h = cc

onward_same : (t u : Types) (ls : Events) → Onward t u ls ls
onward_same t u ls = record { by = λ ks k rest h s. (rest, h) }

onward_then : {A : Type 0} (t u : Types) (v w : Verdict A) (ls ms : Events) (f g : A → Events) → Onward t u ls ms → (SameIn t u ls → Alike v w ls ms) → ((r : A) → Onward t u (f r) (g r))
    → Onward t u (ls ++ behind v f) (ms ++ behind w g)
unfolding behind
onward_then {A} t u v w ls ms f g part whole rest = record { by = λ ks k tail h s. ⊎_elim (λ q. first ks k s q.0 q.1) (λ q. second ks k tail s q.0 q.1 q.2) (split ls (behind v f) ks k tail h) }
  where
    first : (ks : Events) (k : Event) → SameIn t u ks → (r : Events) → ls ≡ ks ++ k ∷ r → (others : Events) × (ms ++ behind w g ≡ ks ++ k ∷ others)
    first ks k s r e = let p = part.by ks k r e s in (p.0 ++ behind w g, ap (λ l. l ++ behind w g) p.1 ∙ append_assoc ks (k ∷ p.0) (behind w g))

    second : (ks : Events) (k : Event) (tail : Events) → SameIn t u ks → (js : Events) → ks ≡ ls ++ js → behind v f ≡ js ++ k ∷ tail → (others : Events) × (ms ++ behind w g ≡ ks ++ k ∷ others)
    second ks k tail s js e d =
        let parts = parts_in t u ls js (subst (SameIn t u) e s) in
        let p = whole parts.0 in
        go v p.verdict p.events parts.1 d
      where
        go : (x : Verdict A) → x ≡ w → ls ≡ ms → SameIn t u js → behind x f ≡ js ++ k ∷ tail → (others : Events) × (ms ++ behind w g ≡ ks ++ k ∷ others)
        go (Err z) xw lm s d = absurd (none_here js k tail d)
        go (Ok r) xw lm s d =
            let q = (rest r).by js k tail d s in
            (q.0, ap (λ (x : Verdict A). ms ++ behind x g) (sym xw) ∙ ap (λ l. ms ++ l) q.1 ∙ ap (λ l. l ++ (js ++ k ∷ q.0)) (sym lm) ∙ sym (append_assoc ls js (k ∷ q.0)) ∙ ap (λ l. l ++ k ∷ q.0) (sym e))

onward_call : (t u : Types) (id m : ℕ) (G : Variables) (p : Ty) (ts : List Ty) → Onward t u (look_at id (keys_of p m) ++ done id (call_type t id m G p ts)) (look_at id (keys_of p m) ++ done id (call_type u id m G p ts))
onward_call t u id m G (ty.Class c) ts = record { by = go }
  where
    go : (ks : Events) (k : Event) (rest : Events) → Look id (c.0, m) ∷ done id (called id G ts (t (c.0, m))) ≡ ks ++ k ∷ rest → SameIn t u ks
        → (others : Events) × (Look id (c.0, m) ∷ done id (called id G ts (u (c.0, m))) ≡ ks ++ k ∷ others)
    go [] k rest h s = let p = head_same (Look id (c.0, m)) k (done id (called id G ts (t (c.0, m)))) rest h in (done id (called id G ts (u (c.0, m))), ap (λ (y : Event). y ∷ done id (called id G ts (u (c.0, m)))) p.0)
    go (y ∷ ks) k rest h s =
        let p = head_same (Look id (c.0, m)) y (done id (called id G ts (t (c.0, m)))) (ks ++ k ∷ rest) h in
        let e = (subst (λ (x : Event). SameIn t u (x ∷ ks)) (sym p.0) s).0 in
        (rest, ap (λ o. Look id (c.0, m) ∷ done id (called id G ts o)) (sym e) ∙ h)
onward_call t u _ _ _ _ _ = onward_same t u _

mutual
  pub onward : (t u : Types) (self : ℕ) (e : Tree) (G : Variables) → Onward t u (events t self e G) (events u self e G)
  onward t u self (TAssign id x e) G = onward_then t u _ _ _ _ _ _ (onward t u self e G) (alike t u self e G) (λ r. onward_same t u _)
  onward t u self (TPrint id e) G = onward_then t u _ _ _ _ _ _ (onward t u self e G) (alike t u self e G) (λ r. onward_same t u _)
  onward t u self (TToStr id e) G = onward_then t u _ _ _ _ _ _ (onward t u self e G) (alike t u self e G) (λ r. onward_same t u _)
  onward t u self (TNot id e) G = onward_then t u _ _ _ _ _ _ (onward t u self e G) (alike t u self e G) (λ r. onward_same t u _)
  onward t u self (TBinary id o a b) G = onward_then t u _ _ _ _ _ _ (onward t u self a G) (alike t u self a G) (λ r. onward_then t u _ _ _ _ _ _ (onward t u self b r.0) (alike t u self b r.0) (λ q. onward_same t u _))
  onward t u self (TIf id c a b) G = onward_then t u _ _ _ _ _ _ (onward t u self c G) (alike t u self c G)
      (λ r. onward_then t u _ _ _ _ _ _ (onward t u self a r.0) (alike t u self a r.0) (λ p. onward_then t u _ _ _ _ _ _ (onward t u self b r.0) (alike t u self b r.0) (λ q. onward_same t u _)))
  onward t u self (TWhile id c b) G = onward_then t u _ _ _ _ _ _ (onward t u self c G) (alike t u self c G) (λ r. onward_then t u _ _ _ _ _ _ (onward t u self b r.0) (alike t u self b r.0) (λ q. onward_same t u _))
  onward t u self (TCall id r m args) G = onward_then t u _ _ _ _ _ _ (onward t u self r G) (alike t u self r G)
      (λ p. onward_then t u _ _ _ _ _ _ (onward_args t u self args p.0 []) (alike_args t u self args p.0 []) (λ q. onward_call t u id m q.0 p.1 q.1))
  onward t u self (TDefComputed id c e s b) G = onward_then t u _ _ _ _ _ _ (onward t u self e G) (alike t u self e G) (λ r. onward_same t u _)
  onward t u self (TDeclareComputed id c e s asks) G = onward_then t u _ _ _ _ _ _ (onward t u self e G) (alike t u self e G) (λ r. onward_same t u _)
  onward t u self (TBlock id es) G = onward_items t u self es G ty.Nil
  onward t u _ _ _ = onward_same t u _

  onward_items : (t u : Types) (self : ℕ) (es : Forest) (G : Variables) (r : Ty) → Onward t u (events_items t self es G r) (events_items u self es G r)
  onward_items t u self NoTree G r = onward_same t u []
  onward_items t u self (Trees e es) G r = onward_then t u _ _ _ _ _ _ (onward t u self e G) (alike t u self e G) (λ p. onward_items t u self es p.0 p.1)

  onward_args : (t u : Types) (self : ℕ) (es : Forest) (G : Variables) (ts : List Ty) → Onward t u (events_args t self es G ts) (events_args u self es G ts)
  onward_args t u self NoTree G ts = onward_same t u []
  onward_args t u self (Trees e es) G ts = onward_then t u _ _ _ _ _ _ (onward t u self e G) (alike t u self e G) (λ p. onward_args t u self es p.0 (ts ++ p.1 ∷ []))

-- the same of a body
pub onward_body : (t u : Types) (s : Subject) → Onward t u (events_body t s) (events_body u s)
onward_body t u s = go (has_count s)
  where
    go : (b : Bool) → Onward t u (if b then events t s.self s.block (variables_of s) else []) (if b then events u s.self s.block (variables_of s) else [])
    go false = onward_same t u []
    go true = onward t u s.self s.block (variables_of s)
