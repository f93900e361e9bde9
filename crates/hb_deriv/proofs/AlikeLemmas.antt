-- Two tables that agree where the judgement looks give one verdict and one list of events.
use Rattle.std.proofs.Common.{◌≡◌, ℕ, List, [], ◌∷◌, ◌++◌, Bool, true, false, refl, ap, ◌∙◌, subst}
use Rattle.std.specs.Prelude.{Ok, Err, if◌then◌else◌}
use Rattle.hb_types.specs.declared.types.Ty.{Ty}
use Rattle.hb_types.specs.declared.types.Ty.TheVariants as ty
use Rattle.hb_types.specs.Variables.{Variables}
use Rattle.hb_tree.specs.Tree.{Tree, TNil, TTrue, TFalse, TSelf, TInt, TText, TVar, TNew, TAssign, TPrint, TToStr, TNot, TBinary, TIf, TWhile, TCall, TDef, TDefComputed}
use Rattle.hb_tree.specs.Tree.{TDeclare, TDeclareComputed, TBlock, Forest, NoTree, Trees, id_of}
use Rattle.hb_deriv.specs.declared.ill.Reason.TheVariants as reason
use Rattle.hb_deriv.specs.Judge.{Types, Typed, Verdict, ◌>>=◌, fault, keys_of, called, call_type, judge, judge_items, judge_args, Subject, variables_of, has_count, ended, judge_body}
use Rattle.hb_deriv.specs.Events.{Look, Done, Events, behind, done, look_at, events, events_items, events_args, events_body, SameIn}

pub record Alike {A : Type 0} (v w : Verdict A) (es fs : Events) : Type 0 where
  pub verdict : v ≡ w
  pub events : es ≡ fs

pub parts_in : (t u : Types) (es fs : Events) → SameIn t u (es ++ fs) → SameIn t u es × SameIn t u fs
parts_in t u [] fs h = (tt, h)
parts_in t u (Look id k ∷ es) fs h = let r = parts_in t u es fs h.1 in ((h.0, r.0), r.1)
parts_in t u (Done id s ∷ es) fs h = parts_in t u es fs h

itself : {A : Type 0} (v : Verdict A) (es : Events) → Alike v v es es
itself v es = record { verdict = refl; events = refl }

-- one part, and then what follows from it
then_alike : {A B : Type 0} (t u : Types) (v w : Verdict A) (es fs : Events) (f g : A → Verdict B) (k j : A → Events) → SameIn t u (es ++ behind v k) → (SameIn t u es → Alike v w es fs)
    → ((r : A) → SameIn t u (k r) → Alike (f r) (g r) (k r) (j r)) → Alike (v >>= f) (w >>= g) (es ++ behind v k) (fs ++ behind w j)
unfolding ◌>>=◌ behind
then_alike {A} {B} t u v w es fs f g k j h part rest = go v h part
  where
    go : (v : Verdict A) → SameIn t u (es ++ behind v k) → (SameIn t u es → Alike v w es fs) → Alike (v >>= f) (w >>= g) (es ++ behind v k) (fs ++ behind w j)
    go (Ok r) h part =
        let hs = parts_in t u es (k r) h in
        let p = part hs.0 in
        let q = rest r hs.1 in
        subst (λ (x : Verdict A). Alike (f r) (x >>= g) (es ++ k r) (fs ++ behind x j)) p.verdict
        (record { verdict = q.verdict; events = ap (λ l. l ++ k r) p.events ∙ ap (λ l. fs ++ l) q.events })
    go (Err e) h part =
        let hs = parts_in t u es [] h in
        let p = part hs.0 in
        subst (λ (x : Verdict A). Alike (let y : Verdict B = Err e in y) (x >>= g) (es ++ []) (fs ++ behind x j)) p.verdict
        (record { verdict = refl; events = ap (λ l. l ++ []) p.events })

called_alike : (t u : Types) (id m : ℕ) (G : Variables) (r : Ty) (ts : List Ty) → SameIn t u (look_at id (keys_of r m) ++ done id (call_type t id m G r ts))
    → Alike (call_type t id m G r ts) (call_type u id m G r ts) (look_at id (keys_of r m) ++ done id (call_type t id m G r ts)) (look_at id (keys_of r m) ++ done id (call_type u id m G r ts))
called_alike t u id m G (ty.Class c) ts h = record { verdict = ap (called id G ts) h.0; events = ap (λ s. Look id (c.0, m) ∷ done id (called id G ts s)) h.0 }
called_alike _ _ _ _ _ _ _ _ = itself _ _

mutual
  pub alike : (t u : Types) (self : ℕ) (e : Tree) (G : Variables) → SameIn t u (events t self e G) → Alike (judge t self e G) (judge u self e G) (events t self e G) (events u self e G)
  alike t u self (TAssign id x e) G h = then_alike t u _ _ _ _ _ _ _ _ h (alike t u self e G) (λ r h. itself _ _)
  alike t u self (TPrint id e) G h = then_alike t u _ _ _ _ _ _ _ _ h (alike t u self e G) (λ r h. itself _ _)
  alike t u self (TToStr id e) G h = then_alike t u _ _ _ _ _ _ _ _ h (alike t u self e G) (λ r h. itself _ _)
  alike t u self (TNot id e) G h = then_alike t u _ _ _ _ _ _ _ _ h (alike t u self e G) (λ r h. itself _ _)
  alike t u self (TBinary id o a b) G h =
      then_alike t u _ _ _ _ _ _ _ _ h (alike t u self a G) (λ r h. then_alike t u _ _ _ _ _ _ _ _ h (alike t u self b r.0) (λ q h. itself _ _))
  alike t u self (TIf id c a b) G h =
      then_alike t u _ _ _ _ _ _ _ _ h (alike t u self c G) (λ r h. then_alike t u _ _ _ _ _ _ _ _ h (alike t u self a r.0) (λ p h. then_alike t u _ _ _ _ _ _ _ _ h (alike t u self b r.0) (λ q h. itself _ _)))
  alike t u self (TWhile id c b) G h =
      then_alike t u _ _ _ _ _ _ _ _ h (alike t u self c G) (λ r h. then_alike t u _ _ _ _ _ _ _ _ h (alike t u self b r.0) (λ q h. itself _ _))
  alike t u self (TCall id r m args) G h =
      then_alike t u _ _ _ _ _ _ _ _ h (alike t u self r G) (λ p h. then_alike t u _ _ _ _ _ _ _ _ h (alike_args t u self args p.0 []) (λ q h. called_alike t u id m q.0 p.1 q.1 h))
  alike t u self (TDefComputed id c e s b) G h = then_alike t u _ _ _ _ _ _ _ _ h (alike t u self e G) (λ r h. itself _ _)
  alike t u self (TDeclareComputed id c e s asks) G h = then_alike t u _ _ _ _ _ _ _ _ h (alike t u self e G) (λ r h. itself _ _)
  alike t u self (TBlock id es) G h = alike_items t u self es G ty.Nil h
  alike _ _ _ _ _ _ = itself _ _

  pub alike_items : (t u : Types) (self : ℕ) (es : Forest) (G : Variables) (r : Ty) → SameIn t u (events_items t self es G r)
      → Alike (judge_items t self es G r) (judge_items u self es G r) (events_items t self es G r) (events_items u self es G r)
  alike_items t u self NoTree G r h = itself _ _
  alike_items t u self (Trees e es) G r h = then_alike t u _ _ _ _ _ _ _ _ h (alike t u self e G) (λ p h. alike_items t u self es p.0 p.1 h)

  pub alike_args : (t u : Types) (self : ℕ) (es : Forest) (G : Variables) (ts : List Ty) → SameIn t u (events_args t self es G ts)
      → Alike (judge_args t self es G ts) (judge_args u self es G ts) (events_args t self es G ts) (events_args u self es G ts)
  alike_args t u self NoTree G ts h = itself _ _
  alike_args t u self (Trees e es) G ts h = then_alike t u _ _ _ _ _ _ _ _ h (alike t u self e G) (λ p h. alike_args t u self es p.0 (ts ++ p.1 ∷ []) h)

-- the same of a body
pub alike_body : (t u : Types) (s : Subject) → SameIn t u (events_body t s) → Alike (judge_body t s) (judge_body u s) (events_body t s) (events_body u s)
alike_body t u s h = go (has_count s) h
  where
    none : Verdict Typed
    none = fault (id_of s.block) reason.Count

    go : (b : Bool) → SameIn t u (if b then events t s.self s.block (variables_of s) else [])
        → Alike (if b then judge t s.self s.block (variables_of s) >>= ended s else none) (if b then judge u s.self s.block (variables_of s) >>= ended s else none)
        (if b then events t s.self s.block (variables_of s) else []) (if b then events u s.self s.block (variables_of s) else [])
    go false h = itself _ _
    go true h =
        let p = alike t u s.self s.block (variables_of s) h in
        record { verdict = ap (λ v. v >>= ended s) p.verdict; events = p.events }
