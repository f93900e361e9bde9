-- The walk over a tree is the judgement's events, in the table of the uses, against the state.
use Rattle.std.proofs.Common.{◌≡◌, ℕ, List, [], ◌∷◌, ◌++◌, map, Bool, true, false, refl, sym, ap, ◌∙◌, append_assoc}
use Rattle.std.specs.Prelude.{Ok, Err, ◌||◌, if◌then◌else◌}
use Rattle.hb_types.specs.declared.types.Ty.{Ty}
use Rattle.hb_types.specs.declared.types.Ty.TheVariants as ty
use Rattle.hb_types.specs.Variables.{Variables, get}
use Rattle.hb_tree.specs.Tree.{Tree, TNil, TTrue, TFalse, TSelf, TInt, TText, TVar, TNew, TAssign, TPrint, TToStr, TNot, TBinary, TIf, TWhile, TCall, TDef, TDefComputed}
use Rattle.hb_tree.specs.Tree.{TDeclare, TDeclareComputed, TBlock, Forest, NoTree, Trees}
use Rattle.hb_deriv.specs.declared.raw.Used.{Used}
use Rattle.hb_deriv.specs.Judge.{Key, Typed, Verdict, ◌>>=◌, object, variable_type, declaration_type, keys_of, called, call_type, judge, judge_items, judge_args}
use Rattle.hb_deriv.specs.Events.{Look, Done, Events, behind, done, look_at, events, events_items, events_args, same_key, has}
use Rattle.hb_deriv.specs.Derivation.{Sites, key_of, type_of, table}
use Rattle.hb_deriv.specs.Walk.{State, AtStep, Walked, ◌>>>◌, look, pass, finish, walk_call, walk, walk_items, walk_args}
use Rattle.hb_deriv.proofs.WalkLemmas.{replay, passed_by}

-- a state, and a verdict there
abbrev pub answer : {A : Type 0} → Verdict A → State → Walked (State × A)
answer (Ok r) s = Ok (s, r)
answer (Err f) s = Err (AtStep s.passed)

-- the uses taken and those left are all of them
abbrev pub Whole : List Used → State → Type 0
Whole uses s = s.taken ++ s.left ≡ uses

pub record Along {A : Type 0} (uses : List Used) (w : State → Walked (State × A)) (v : Verdict A) (es : Events) : Type 0 where
  pub by : (s : State) → Whole uses s → w s ≡ (replay s es >>> answer v)

whole_on : (uses : List Used) (s z : State) (es : Events) → replay s es ≡ Ok z → Whole uses s → Whole uses z
whole_on uses s z es h w =
    let p = passed_by s es z h in
    ap (λ (l : List Used). l ++ z.left) p.taken ∙ append_assoc s.taken p.used z.left ∙ ap (λ (l : List Used). s.taken ++ l) (sym p.left) ∙ w

replay_both : (s : State) (es fs : Events) → replay s (es ++ fs) ≡ (replay s es >>> (λ z. replay z fs))
unfolding ◌>>>◌
replay_both s [] fs = refl
replay_both s (Look id k ∷ es) fs = go (look s k) (λ z. replay_both z es fs)
  where
    go : (r : Walked State) → ((z : State) → replay z (es ++ fs) ≡ (replay z es >>> (λ y. replay y fs))) → (r >>> (λ z. replay z (es ++ fs))) ≡ ((r >>> (λ z. replay z es)) >>> (λ y. replay y fs))
    go (Ok z) h = h z
    go (Err f) h = refl
replay_both s (Done id t ∷ es) fs = go (pass s id t) (λ z. replay_both z es fs)
  where
    go : (r : Walked State) → ((z : State) → replay z (es ++ fs) ≡ (replay z es >>> (λ y. replay y fs))) → (r >>> (λ z. replay z (es ++ fs))) ≡ ((r >>> (λ z. replay z es)) >>> (λ y. replay y fs))
    go (Ok z) h = h z
    go (Err f) h = refl

-- one part, and then what follows from it
then_along : {A B : Type 0} (uses : List Used) (w : State → Walked (State × A)) (v : Verdict A) (es : Events) (x : State × A → Walked (State × B)) (f : A → Verdict B) (k : A → Events)
    → Along uses w v es → ((r : A) → Along uses (λ s. x (s, r)) (f r) (k r)) → Along uses (λ s. w s >>> x) (v >>= f) (es ++ behind v k)
unfolding ◌>>=◌ ◌>>>◌ behind
then_along {A} {B} uses w v es x f k part rest = record { by = λ s h. ap (λ r. r >>> x) (part.by s h) ∙ go s h (replay s es) refl v rest ∙ ap (λ r. r >>> answer (v >>= f)) (sym (replay_both s es (behind v k))) }
  where
    go : (s : State) → Whole uses s → (r : Walked State) → replay s es ≡ r → (v : Verdict A) → ((r : A) → Along uses (λ s. x (s, r)) (f r) (k r))
        → ((r >>> answer v) >>> x) ≡ ((r >>> (λ z. replay z (behind v k))) >>> answer (v >>= f))
    go s h (Ok z) e (Ok a) rest = (rest a).by z (whole_on uses s z es e h)
    go s h (Ok z) e (Err y) rest = refl
    go s h (Err y) e v rest = refl

finish_along : (uses : List Used) (id : ℕ) (v : Verdict Typed) → Along uses (λ s. finish s id v) v (done id v)
unfolding ◌>>>◌ behind
finish_along uses id (Ok r) = record { by = λ s h. go s (pass s id r.1) }
  where
    pair : State → Walked (State × Typed)
    pair z = Ok (z, r)

    go : (s : State) (p : Walked State) → (p >>> pair) ≡ ((p >>> (λ z. Ok z)) >>> pair)
    go s (Ok z) = refl
    go s (Err f) = refl
finish_along uses id (Err f) = record { by = λ s h. refl }

finish_typed : (uses : List Used) (id : ℕ) (G : Variables) (t : Ty) → Along uses (λ s. finish s id (Ok (G, t))) (Ok (G, t)) (Done id t ∷ [])
unfolding behind
finish_typed uses id G t = finish_along uses id (Ok (G, t))

nothing_along : {A : Type 0} (uses : List Used) (r : A) → Along uses (λ s. Ok (s, r)) (Ok r) []
unfolding ◌>>>◌
nothing_along uses r = record { by = λ s h. refl }

-- a key among the first uses has its type there
table_front : (sites : Sites) (us vs : List Used) (k : Key) → has k (map key_of us) ≡ true → table sites (us ++ vs) k ≡ table sites us k
table_front sites [] vs k h = absurd (cc)
table_front sites (u ∷ us) vs k h = go (same_key (key_of u) k) (table_front sites us vs k) h
  where
    go : (b : Bool) → (has k (map key_of us) ≡ true → table sites (us ++ vs) k ≡ table sites us k) → (b || has k (map key_of us)) ≡ true
        → (if b then type_of sites u else table sites (us ++ vs) k) ≡ (if b then type_of sites u else table sites us k)
    go true rest h = refl
    go false rest h = rest h

call_along : (sites : Sites) (uses : List Used) (id m : ℕ) (G : Variables) (t : Ty) (ts : List Ty)
    → Along uses (walk_call sites id m G t ts) (call_type (table sites uses) id m G t ts) (look_at id (keys_of t m) ++ done id (call_type (table sites uses) id m G t ts))
unfolding ◌>>>◌ behind
call_along sites uses id m G (ty.Class c) ts = record { by = λ s h. go s h (look s (c.0, m)) refl }
  where
    go : (s : State) → Whole uses s → (r : Walked State) → look s (c.0, m) ≡ r
        → ((r >>> (λ z. Ok z)) >>> (λ z. finish z id (called id G ts (table sites z.taken (c.0, m))))) ≡
        ((r >>> (λ z. replay z (done id (called id G ts (table sites uses (c.0, m)))))) >>> answer (called id G ts (table sites uses (c.0, m))))
    go s h (Err f) e = refl
    go s h (Ok z) e =
        let hit : replay s (Look id (c.0, m) ∷ []) ≡ Ok z = ap (λ (r : Walked State). r >>> (λ z. Ok z)) e in
        let p = passed_by s (Look id (c.0, m) ∷ []) z hit in
        let w : Whole uses z = whole_on uses s z (Look id (c.0, m) ∷ []) hit h in
        let same : table sites uses (c.0, m) ≡ table sites z.taken (c.0, m) = ap (λ (l : List Used). table sites l (c.0, m)) (sym w) ∙ table_front sites z.taken z.left (c.0, m) p.all.0 in
        ap (λ o. finish z id (called id G ts o)) (sym same) ∙ (finish_along uses id (called id G ts (table sites uses (c.0, m)))).by z w
call_along _ _ _ _ _ _ _ = record { by = λ s h. refl }

mutual
  pub along : (sites : Sites) (uses : List Used) (self : ℕ) (e : Tree) (G : Variables) → Along uses (walk sites self e G) (judge (table sites uses) self e G) (events (table sites uses) self e G)
  along sites uses self (TNil id) G = finish_typed uses id G ty.Nil
  along sites uses self (TTrue id) G = finish_typed uses id G ty.Bool
  along sites uses self (TFalse id) G = finish_typed uses id G ty.Bool
  along sites uses self (TSelf id) G = finish_typed uses id G (object self)
  along sites uses self (TInt id n) G = finish_typed uses id G ty.Int
  along sites uses self (TText id x) G = finish_typed uses id G ty.Str
  along sites uses self (TVar id x) G = finish_along uses id (variable_type id G (get G x))
  along sites uses self (TNew id c) G = finish_typed uses id G (object c)
  along sites uses self (TAssign id x e) G = then_along uses _ _ _ _ _ _ (along sites uses self e G) (λ p. finish_typed uses id _ _)
  along sites uses self (TPrint id e) G = then_along uses _ _ _ _ _ _ (along sites uses self e G) (λ p. finish_typed uses id _ _)
  along sites uses self (TToStr id e) G = then_along uses _ _ _ _ _ _ (along sites uses self e G) (λ p. finish_typed uses id _ _)
  along sites uses self (TNot id e) G = then_along uses _ _ _ _ _ _ (along sites uses self e G) (λ p. finish_typed uses id _ _)
  along sites uses self (TBinary id o a b) G = then_along uses _ _ _ _ _ _ (along sites uses self a G) (λ p. then_along uses _ _ _ _ _ _ (along sites uses self b p.0) (λ q. finish_along uses id _))
  along sites uses self (TIf id c a b) G = then_along uses _ _ _ _ _ _ (along sites uses self c G)
      (λ r. then_along uses _ _ _ _ _ _ (along sites uses self a r.0) (λ p. then_along uses _ _ _ _ _ _ (along sites uses self b r.0) (λ q. finish_typed uses id _ _)))
  along sites uses self (TWhile id c b) G = then_along uses _ _ _ _ _ _ (along sites uses self c G) (λ p. then_along uses _ _ _ _ _ _ (along sites uses self b p.0) (λ q. finish_along uses id _))
  along sites uses self (TCall id r m args) G = then_along uses _ _ _ _ _ _ (along sites uses self r G)
      (λ p. then_along uses _ _ _ _ _ _ (along_args sites uses self args p.0 []) (λ q. call_along sites uses id m q.0 p.1 q.1))
  along sites uses self (TDef id c m s b) G = finish_typed uses id G ty.Nil
  along sites uses self (TDefComputed id c e s b) G = then_along uses _ _ _ _ _ _ (along sites uses self e G) (λ p. finish_along uses id _)
  along sites uses self (TDeclare id c m s asks) G = finish_typed uses id G (declaration_type asks)
  along sites uses self (TDeclareComputed id c e s asks) G = then_along uses _ _ _ _ _ _ (along sites uses self e G) (λ p. finish_along uses id _)
  along sites uses self (TBlock id es) G = along_items sites uses self es G ty.Nil

  along_items : (sites : Sites) (uses : List Used) (self : ℕ) (es : Forest) (G : Variables) (t : Ty)
      → Along uses (walk_items sites self es G t) (judge_items (table sites uses) self es G t) (events_items (table sites uses) self es G t)
  along_items sites uses self NoTree G t = nothing_along uses (G, t)
  along_items sites uses self (Trees e es) G t = then_along uses _ _ _ _ _ _ (along sites uses self e G) (λ p. along_items sites uses self es p.0 p.1)

  along_args : (sites : Sites) (uses : List Used) (self : ℕ) (es : Forest) (G : Variables) (ts : List Ty)
      → Along uses (walk_args sites self es G ts) (judge_args (table sites uses) self es G ts) (events_args (table sites uses) self es G ts)
  along_args sites uses self NoTree G ts = nothing_along uses (G, ts)
  along_args sites uses self (Trees e es) G ts = then_along uses _ _ _ _ _ _ (along sites uses self e G) (λ p. along_args sites uses self es p.0 (ts ++ p.1 ∷ []))
