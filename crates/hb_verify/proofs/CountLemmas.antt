-- A walk takes few uses and passes few steps: no more than its body has nodes, twice.
use Rattle.std.proofs.Common.{◌≡◌, ℕ, suc, ◌+◌, ◌*◌, ◌≤◌, List, [], ◌∷◌, ◌++◌, map, length, Bool, true, false, refl, sym, ap, ◌∙◌, subst, arith, length-append}
use Rattle.std.specs.Prelude.{Ok, Err, nat_eq, if◌then◌else◌, ◌&&◌}
use Rattle.hb_types.specs.declared.types.Ty.{Ty}
use Rattle.hb_types.specs.declared.types.Ty.TheVariants as ty
use Rattle.hb_types.specs.Types.{is_below, same_ty}
use Rattle.hb_types.specs.Variables.{Variables, get}
use Rattle.hb_tree.specs.Tree.{Tree, TNil, TTrue, TFalse, TSelf, TInt, TText, TVar, TNew, TAssign, TPrint, TToStr, TNot, TBinary, TIf, TWhile, TCall}
use Rattle.hb_tree.specs.Tree.{TDef, TDefComputed, TDeclare, TDeclareComputed, TBlock, Forest, NoTree, Trees}
use Rattle.hb_tree.specs.Counts.{nodes_in, nodes_in_all}
use Rattle.hb_deriv.specs.declared.raw.Used.{Used}
use Rattle.hb_deriv.specs.declared.raw.Step.{Step}
use Rattle.hb_deriv.specs.Judge.{Key, Types, Typed, Verdict, keys_of, variable_type, judge, Subject, variables_of, has_count}
use Rattle.hb_deriv.specs.Events.{Events, Look, Done, behind, done, look_at, events, events_items, events_args, same_key, has}
use Rattle.hb_deriv.specs.Derivation.{Content, Sites, key_of, table}
use Rattle.hb_deriv.specs.Walk.{State, WalkFault, AtUses, AtStep, Walked, ◌>>>◌, take_next, look, pass_next, pass, no_use, at_end, start, walk, walk_body}
use Rattle.hb_deriv.proofs.WalkLemmas.{replay}
use Rattle.hb_deriv.proofs.AlongLemmas.{answer, along}

-- ── the events of a tree ──

part_few : {A : Type 0} (es : Events) (v : Verdict A) (k : A → Events) (m n : ℕ) → length es ≤ m → ((r : A) → length (k r) ≤ n) → length (es ++ behind v k) ≤ m + n
unfolding behind
part_few es (Ok r) k m n h rest = let both = length-append es (k r) in let more = rest r in omega (arith, both, more, h)
part_few es (Err f) k m n h rest = let both = length-append es [] in omega (arith, both, h)

done_few : (id : ℕ) (v : Verdict Typed) → length (done id v) ≤ 1
unfolding behind
done_few id (Ok r) = omega arith
done_few id (Err f) = omega arith

looked_few : (id m : ℕ) (t : Ty) (v : Verdict Typed) → length (look_at id (keys_of t m) ++ done id v) ≤ 2
looked_few id m ty.Nil v = let d = done_few id v in omega (arith, d)
looked_few id m ty.Bool v = let d = done_few id v in omega (arith, d)
looked_few id m ty.Int v = let d = done_few id v in omega (arith, d)
looked_few id m ty.Str v = let d = done_few id v in omega (arith, d)
looked_few id m ty.Any v = let d = done_few id v in omega (arith, d)
looked_few id m (ty.Class c) v = let d = done_few id v in omega (arith, d)

one_more : {A : Type 0} (es : Events) (v : Verdict A) (k : A → Events) (n : ℕ) → length es ≤ n * 2 → ((r : A) → length (k r) ≤ 1)
    → length (es ++ behind v k) ≤ (1 + n) * 2
one_more es v k n h rest = let p = part_few es v k (n * 2) 1 h rest in omega (arith, p)

at_most : (a m n : ℕ) → a ≤ m → m ≤ n → a ≤ n
at_most a m n h k = omega (arith, h, k)

mutual
  events_few : (types : Types) (self : ℕ) (e : Tree) (G : Variables) → length (events types self e G) ≤ nodes_in e * 2
  events_few types self (TNil id) G = omega arith
  events_few types self (TTrue id) G = omega arith
  events_few types self (TFalse id) G = omega arith
  events_few types self (TSelf id) G = omega arith
  events_few types self (TInt id n) G = omega arith
  events_few types self (TText id x) G = omega arith
  events_few types self (TVar id x) G = let d = done_few id (variable_type id G (get G x)) in omega (arith, d)
  events_few types self (TNew id c) G = omega arith
  events_few types self (TAssign id x e) G = one_more _ _ _ (nodes_in e) (events_few types self e G) (λ (r : Typed). omega arith)
  events_few types self (TPrint id e) G = one_more _ _ _ (nodes_in e) (events_few types self e G) (λ (r : Typed). omega arith)
  events_few types self (TToStr id e) G = one_more _ _ _ (nodes_in e) (events_few types self e G) (λ (r : Typed). omega arith)
  events_few types self (TNot id e) G = one_more _ _ _ (nodes_in e) (events_few types self e G) (λ (r : Typed). omega arith)
  events_few types self (TBinary id o a b) G =
      at_most _ (nodes_in a * 2 + (nodes_in b * 2 + 1)) _
      (part_few _ _ _ (nodes_in a * 2) (nodes_in b * 2 + 1) (events_few types self a G)
      (λ (r : Typed). part_few _ _ _ (nodes_in b * 2) 1 (events_few types self b r.0) (λ (q : Typed). done_few id _))) (omega arith)
  events_few types self (TIf id c a b) G =
      at_most _ (nodes_in c * 2 + (nodes_in a * 2 + (nodes_in b * 2 + 1))) _
      (part_few _ _ _ (nodes_in c * 2) (nodes_in a * 2 + (nodes_in b * 2 + 1)) (events_few types self c G)
      (λ (r : Typed). part_few _ _ _ (nodes_in a * 2) (nodes_in b * 2 + 1) (events_few types self a r.0)
      (λ (p : Typed). part_few _ _ _ (nodes_in b * 2) 1 (events_few types self b r.0) (λ (q : Typed). omega arith)))) (omega arith)
  events_few types self (TWhile id c b) G =
      at_most _ (nodes_in c * 2 + (nodes_in b * 2 + 1)) _
      (part_few _ _ _ (nodes_in c * 2) (nodes_in b * 2 + 1) (events_few types self c G)
      (λ (r : Typed). part_few _ _ _ (nodes_in b * 2) 1 (events_few types self b r.0) (λ (q : Typed). done_few id _))) (omega arith)
  events_few types self (TCall id r m args) G =
      at_most _ (nodes_in r * 2 + (nodes_in_all args * 2 + 2)) _
      (part_few _ _ _ (nodes_in r * 2) (nodes_in_all args * 2 + 2) (events_few types self r G)
      (λ (p : Typed). part_few _ _ _ (nodes_in_all args * 2) 2 (args_few types self args p.0 []) (λ (q : Variables × List Ty). looked_few id m p.1 _))) (omega arith)
  events_few types self (TDef id c m s b) G = omega arith
  events_few types self (TDefComputed id c e s b) G = one_more _ _ _ (nodes_in e) (events_few types self e G) (λ (r : Typed). done_few id _)
  events_few types self (TDeclare id c m s asks) G = omega arith
  events_few types self (TDeclareComputed id c e s asks) G = one_more _ _ _ (nodes_in e) (events_few types self e G) (λ (r : Typed). done_few id _)
  events_few types self (TBlock id es) G = let p = items_few types self es G ty.Nil in omega (arith, p)

  items_few : (types : Types) (self : ℕ) (es : Forest) (G : Variables) (t : Ty) → length (events_items types self es G t) ≤ nodes_in_all es * 2
  items_few types self NoTree G t = omega arith
  items_few types self (Trees e es) G t =
      at_most _ (nodes_in e * 2 + (nodes_in_all es * 2)) _
      (part_few _ _ _ (nodes_in e * 2) (nodes_in_all es * 2) (events_few types self e G) (λ (r : Typed). items_few types self es r.0 r.1)) (omega arith)

  args_few : (types : Types) (self : ℕ) (es : Forest) (G : Variables) (ts : List Ty) → length (events_args types self es G ts) ≤ nodes_in_all es * 2
  args_few types self NoTree G ts = omega arith
  args_few types self (Trees e es) G ts =
      at_most _ (nodes_in e * 2 + (nodes_in_all es * 2)) _
      (part_few _ _ _ (nodes_in e * 2) (nodes_in_all es * 2) (events_few types self e G) (λ (r : Typed). args_few types self es r.0 (ts ++ r.1 ∷ []))) (omega arith)

-- ── a walk over events ──

-- the number in a fault
abbrev pub AtMost : ℕ → WalkFault → Type 0
AtMost n (AtUses m) = m ≤ n
AtMost n (AtStep m) = m ≤ n

record Near (n : ℕ) (s : State) : Type 0 where
  pub taken : length s.taken ≤ n
  pub passed : s.passed ≤ n

Bounded : ℕ → Walked State → Type 0
Bounded n (Ok z) = Near n z
Bounded n (Err f) = AtMost n f

look_few : (n : ℕ) (s : State) (k : Key) → Near n s → Bounded (n + 1) (look s k)
unfolding Bounded
look_few n s k h = go (has k (map key_of s.taken))
  where
    one : (u : Used) (us : List Used) (b : Bool)
        → Bounded (n + 1) (if b then Ok (record { taken = s.taken ++ u ∷ []; left = us; steps = s.steps; passed = s.passed }) else Err (AtUses (length s.taken)))
    one u us true = let a = h.taken in let p = h.passed in let both = length-append s.taken
        (u ∷ []) in record { taken = omega (arith, a, both); passed = omega (arith, p) }
    one u us false = let a = h.taken in omega (arith, a)

    next : (us : List Used) → Bounded (n + 1) (take_next s k us)
    next [] = let a = h.taken in omega (arith, a)
    next (u ∷ us) = one u us (same_key (key_of u) k)

    go : (b : Bool) → Bounded (n + 1) (if b then Ok s else take_next s k s.left)
    go true = let a = h.taken in let p = h.passed in record { taken = omega (arith, a); passed = omega (arith, p) }
    go false = next s.left

pass_few : (n : ℕ) (s : State) (id : ℕ) (t : Ty) → Near n s → Bounded (n + 1) (pass s id t)
unfolding Bounded
pass_few n s id t h = next s.steps
  where
    one : (ps : List Step) (b : Bool) → Bounded (n + 1)
        (if b then Ok (record { taken = s.taken; left = s.left; steps = ps; passed = suc s.passed }) else Err (AtStep s.passed))
    one ps true = let a = h.taken in let p = h.passed in record { taken = omega (arith, a); passed = omega (arith, p) }
    one ps false = let p = h.passed in omega (arith, p)

    next : (ps : List Step) → Bounded (n + 1) (pass_next s id t ps)
    next [] = let p = h.passed in omega (arith, p)
    next (p ∷ ps) = one ps (nat_eq p.node.0 id && same_ty p.ty t)

most_more : (m n : ℕ) (f : WalkFault) → m ≤ n → AtMost m f → AtMost n f
most_more m n (AtUses a) h k = omega (arith, h, k)
most_more m n (AtStep a) h k = omega (arith, h, k)

replay_few : (n : ℕ) (s : State) (es : Events) → Near n s → Bounded (n + length es) (replay s es)
unfolding Bounded ◌>>>◌
replay_few n s [] h = let a = h.taken in let p = h.passed in record { taken = omega (arith, a); passed = omega (arith, p) }
replay_few n s (Look id k ∷ es) h = go (look s k) (look_few n s k h) (λ z i. replay_few (n + 1) z es i)
  where
    go : (r : Walked State) → Bounded (n + 1) r → ((z : State) → Near (n + 1) z → Bounded (n + 1 + length es) (replay z es))
        → Bounded (n + suc (length es)) (r >>> (λ z. replay z es))
    go (Ok z) b rest = subst (λ m. Bounded m (replay z es)) (omega arith) (rest z b)
    go (Err f) b rest = most_more (n + 1) (n + suc (length es)) f (omega arith) b
replay_few n s (Done id t ∷ es) h = go (pass s id t) (pass_few n s id t h) (λ z i. replay_few (n + 1) z es i)
  where
    go : (r : Walked State) → Bounded (n + 1) r → ((z : State) → Near (n + 1) z → Bounded (n + 1 + length es) (replay z es))
        → Bounded (n + suc (length es)) (r >>> (λ z. replay z es))
    go (Ok z) b rest = subst (λ m. Bounded m (replay z es)) (omega arith) (rest z b)
    go (Err f) b rest = most_more (n + 1) (n + suc (length es)) f (omega arith) b

-- ── a body ──

end_few : (n : ℕ) (limit : Ty) (s : State) (t : Ty) (f : WalkFault) → Near n s → at_end limit s t s.steps ≡ Err f → AtMost n f
end_few n limit s t f h = steps s.steps
  where
    same : (e f : WalkFault) → AtMost n e → (let r : Walked State = Err e in r) ≡ Err f → AtMost n f
    same e f b h = subst (AtMost n) (is e f h) b
      where
        is : (e f : WalkFault) → (let r : Walked State = Err e in r) ≡ Err f → e ≡ f
        is e f h = cc

    uses : (us : List Used) → no_use s us ≡ Err f → AtMost n f
    uses [] e = absurd (cc)
    uses (u ∷ us) e = same (AtUses (length s.taken)) f h.taken e

    typed : (b : Bool) → (if b then no_use s s.left else Err (AtStep s.passed)) ≡ Err f → AtMost n f
    typed true e = uses s.left e
    typed false e = same (AtStep s.passed) f h.passed e

    steps : (ps : List Step) → at_end limit s t ps ≡ Err f → AtMost n f
    steps [] e = typed (is_below t limit) e
    steps (p ∷ ps) e = same (AtStep s.passed) f h.passed e

answered_few : (n : ℕ) (limit : Ty) (r : Walked State) (v : Verdict Typed) (f : WalkFault) → Bounded n r
    → ((r >>> answer v) >>> (λ p. at_end limit p.0 p.1.1 p.0.steps)) ≡ Err f → AtMost n f
unfolding Bounded ◌>>>◌
answered_few n limit (Ok z) (Ok t) f b e = end_few n limit z t.1 f b e
answered_few n limit (Ok z) (Err i) f b e = subst (AtMost n) (is (AtStep z.passed) f e) b.passed
  where
    is : (e f : WalkFault) → (let r : Walked State = Err e in r) ≡ Err f → e ≡ f
    is e f h = cc
answered_few n limit (Err g) v f b e = subst (AtMost n) (is g f e) b
  where
    is : (e f : WalkFault) → (let r : Walked State = Err e in r) ≡ Err f → e ≡ f
    is e f h = cc

pub body_few : (sites : Sites) (s : Subject) (d : Content) (f : WalkFault) → walk_body sites s d ≡ Err f → AtMost (nodes_in s.block * 2) f
body_few sites s d f = go (has_count s)
  where
    is : (e f : WalkFault) → (let r : Walked State = Err e in r) ≡ Err f → e ≡ f
    is e f h = cc

    go : (b : Bool) → (if b then walk sites s.self s.block (variables_of s) (start d) >>> (λ p. at_end s.declared.result p.0 p.1.1 p.0.steps) else Err
        (AtStep 0)) ≡ Err f → AtMost (nodes_in s.block * 2) f
    go true e =
        let es = events (table sites d.uses) s.self s.block (variables_of s) in
        let v = judge (table sites d.uses) s.self s.block (variables_of s) in
        let near : Near 0 (start d) = record { taken = omega arith; passed = omega arith } in
        let few = events_few (table sites d.uses) s.self s.block (variables_of s) in
        most_more (0 + length es) (nodes_in s.block * 2) f (omega (arith, few))
        (answered_few (0 + length es) s.declared.result (replay (start d) es) v f (replay_few 0 (start d) es near)
        (sym (ap (λ (r : Walked (State × Typed)). r >>> (λ p. at_end s.declared.result p.0 p.1.1 p.0.steps))
        ((along sites d.uses s.self s.block (variables_of s)).by (start d) refl)) ∙ e))
    go false e = subst (AtMost (nodes_in s.block * 2)) (is (AtStep 0) f e) (omega arith)
