-- What is computed is what the relation says.
use Rattle.std.proofs.Common.{◌≡◌, ℕ, List, [], ◌∷◌, ◌++◌, length, Option, Some, None, Bool, true, false, refl, ap, subst, nat_eq, eq-eqb}
use Rattle.std.proofs.lemmas.Bool.{eqb-true}
use Rattle.std.specs.Prelude.{Ok, Err, ◌&&◌, if◌then◌else◌}
use Rattle.hb_types.specs.declared.{types.Ty.Ty, ids.ClassId.ClassId, types.MethodTy.MethodTy}
use Rattle.hb_types.specs.declared.types.Ty.TheVariants as ty
use Rattle.hb_types.specs.Types.{is_below, join_of, params_of}
use Rattle.hb_types.specs.Variables.{Variables, get, join, keeps}
use Rattle.hb_tree.specs.Tree.{Tree, TNil, TTrue, TFalse, TSelf, TInt, TText, TVar, TNew, TAssign, TPrint, TToStr, TNot, TBinary, TIf, TWhile, TCall, TDef, TDefComputed}
use Rattle.hb_tree.specs.Tree.{TDeclare, TDeclareComputed, TBlock, Forest, NoTree, Trees, id_of}
use Rattle.hb_deriv.specs.declared.ill.Ill.{Ill}
use Rattle.hb_deriv.specs.declared.ill.Reason.TheVariants as reason
use Rattle.hb_deriv.specs.Judge.{Types, Typed, Verdict, ◌>>=◌, ill_at, fault, variable_type, operand_limit, operator_type, all_below, called, call_type, judge, judge_items}
use Rattle.hb_deriv.specs.Judge.{judge_args, Subject, variables_of, has_count, ended, judge_body}
use Rattle.hb_deriv.specs.Judgement.{Judged, JudgedItems, JudgedArgs, JudgedNil, JudgedTrue, JudgedFalse, JudgedSelf, JudgedInt, JudgedText, JudgedVar, JudgedNew, JudgedAssign}
use Rattle.hb_deriv.specs.Judgement.{JudgedPrint, JudgedToStr, JudgedNot, JudgedBinary, JudgedIf, JudgedWhile, JudgedCall, JudgedDef, JudgedDefComputed, JudgedDeclare}
use Rattle.hb_deriv.specs.Judgement.{JudgedDeclareComputed, JudgedBlock, JudgedNoItem, JudgedItem, JudgedNoArg, JudgedArg, IsJudged}
pub use Rattle.hb_types.proofs.MapLemmas.{both_true as and_both}

-- complete: what the relation has is computed
mutual
  unfolding ◌>>=◌

  pub judge_of : {types : Types} {self : ℕ} {G G2 : Variables} {e : Tree} {t : Ty} → Judged types self G e G2 t → judge types self e G ≡ Ok (G2, t)
  judge_of (JudgedVar {G = G} {id = id} h) = ap (variable_type id G) h
  judge_of (JudgedAssign h) = rw (judge_of h) refl
  judge_of (JudgedPrint h) = rw (judge_of h) refl
  judge_of (JudgedToStr h) = rw (judge_of h) refl
  judge_of (JudgedNot h) = rw (judge_of h) refl
  judge_of (JudgedBinary h k p q) = rw (judge_of h, judge_of k, p, q) refl
  judge_of (JudgedIf h k l) = rw (judge_of h, judge_of k, judge_of l) refl
  judge_of (JudgedWhile h k p) = rw (judge_of h, judge_of k, p) refl
  judge_of (JudgedCall {ts = ts} {s = s} h k p n q) = rw (judge_of h, args_of k, p, eq-eqb (length ts) s.count n, q) refl
  judge_of (JudgedDefComputed h p) = rw (judge_of h, p) refl
  judge_of (JudgedDeclareComputed h p) = rw (judge_of h, p) refl
  judge_of (JudgedBlock h) = items_of h
  judge_of _ = refl

  items_of : {types : Types} {self : ℕ} {G G2 : Variables} {es : Forest} {r t : Ty} → JudgedItems types self G es r G2 t → judge_items types self es G r ≡ Ok (G2, t)
  items_of JudgedNoItem = refl
  items_of (JudgedItem h k) = rw (judge_of h) (items_of k)

  pub args_of : {types : Types} {self : ℕ} {G G2 : Variables} {es : Forest} {ss ts : List Ty} → JudgedArgs types self G es ss G2 ts → judge_args types self es G ss ≡ Ok (G2, ts)
  args_of JudgedNoArg = refl
  args_of (JudgedArg h k) = rw (judge_of h) (args_of k)

-- sound: what is computed is in the relation
pub bind_ok : {A B : Type 0} (r : Verdict A) (f : A → Verdict B) (y : B) → (r >>= f) ≡ Ok y → (x : A) × (r ≡ Ok x) × (f x ≡ Ok y)
unfolding ◌>>=◌
bind_ok (Ok x) f y h = (x, refl, h)
bind_ok (Err e) f y h = absurd (cc)

ok_same : {A : Type 0} (x y : A) → (let r : Verdict A = Ok x in r) ≡ Ok y → x ≡ y
ok_same x y h = cc

-- a test that let the value through
pub guard_ok : {A : Type 0} (b : Bool) (x y : A) (f : Ill) → (let r : Verdict A = Err f in if b then Ok x else r) ≡ Ok y → (b ≡ true) × (x ≡ y)
guard_ok true x y f h = (refl, cc)
guard_ok false x y f h = absurd (cc)

variable_ok : (id : ℕ) (G : Variables) (o : Option Ty) (y : Typed) → variable_type id G o ≡ Ok y → (t : Ty) × (o ≡ Some t) × ((G, t) ≡ y)
variable_ok id G None y h = absurd (cc)
variable_ok id G (Some t) y h = (t, refl, cc)

called_ok : (id : ℕ) (G : Variables) (ts : List Ty) (o : Option MethodTy) (y : Typed) → called id G ts o ≡ Ok y
    → (s : MethodTy) × (o ≡ Some s) × (length ts ≡ s.count) × (all_below ts (params_of s) ≡ true) × ((G, s.result) ≡ y)
called_ok id G ts None y h = absurd (cc)
called_ok id G ts (Some s) y h = count (nat_eq (length ts) s.count) refl h
  where
    count : (b : Bool) → nat_eq (length ts) s.count ≡ b → (if b then (if all_below ts (params_of s) then Ok (G, s.result) else fault id reason.Argument) else fault id reason.Count) ≡ Ok y
        → (r : MethodTy) × (Some s ≡ Some r) × (length ts ≡ r.count) × (all_below ts (params_of r) ≡ true) × ((G, r.result) ≡ y)
    count true e h = let k = guard_ok (all_below ts (params_of s)) (G, s.result) y (ill_at id reason.Argument) h in (s, refl, eqb-true (length ts) s.count e, k.0, k.1)
    count false e h = absurd (cc)

call_ok : (types : Types) (id m : ℕ) (G : Variables) (t : Ty) (ts : List Ty) (y : Typed) → call_type types id m G t ts ≡ Ok y → (c : ClassId) × (t ≡ ty.Class c) × (called id G ts (types (c.0, m)) ≡ Ok y)
call_ok types id m G (ty.Class c) ts y h = (c, refl, h)
call_ok types id m _ _ ts y h = absurd (cc)

-- what is judged, with its variables and type written otherwise
as_said : (types : Types) (self : ℕ) (G : Variables) (e : Tree) (x y : Typed) → x ≡ y → Judged types self G e x.0 x.1 → Judged types self G e y.0 y.1
as_said types self G e x y h = subst (λ (z : Typed). Judged types self G e z.0 z.1) h

mutual
  pub judged_of : (types : Types) (self : ℕ) (e : Tree) (G : Variables) (y : Typed) → judge types self e G ≡ Ok y → Judged types self G e y.0 y.1
  judged_of types self (TNil id) G y h = as_said types self G (TNil id) _ y (ok_same _ y h) JudgedNil
  judged_of types self (TTrue id) G y h = as_said types self G (TTrue id) _ y (ok_same _ y h) JudgedTrue
  judged_of types self (TFalse id) G y h = as_said types self G (TFalse id) _ y (ok_same _ y h) JudgedFalse
  judged_of types self (TSelf id) G y h = as_said types self G (TSelf id) _ y (ok_same _ y h) JudgedSelf
  judged_of types self (TInt id n) G y h = as_said types self G (TInt id n) _ y (ok_same _ y h) JudgedInt
  judged_of types self (TText id x) G y h = as_said types self G (TText id x) _ y (ok_same _ y h) JudgedText
  judged_of types self (TVar id x) G y h = let v = variable_ok id G (get G x) y h in as_said types self G (TVar id x) _ y v.2 (JudgedVar v.1)
  judged_of types self (TNew id c) G y h = as_said types self G (TNew id c) _ y (ok_same _ y h) JudgedNew
  judged_of types self (TAssign id x e) G y h =
      let a = bind_ok (judge types self e G) _ y h in
      as_said types self G (TAssign id x e) _ y (ok_same _ y a.2) (JudgedAssign (judged_of types self e G a.0 a.1))
  judged_of types self (TPrint id e) G y h =
      let a = bind_ok (judge types self e G) _ y h in
      as_said types self G (TPrint id e) _ y (ok_same _ y a.2) (JudgedPrint (judged_of types self e G a.0 a.1))
  judged_of types self (TToStr id e) G y h =
      let a = bind_ok (judge types self e G) _ y h in
      as_said types self G (TToStr id e) _ y (ok_same _ y a.2) (JudgedToStr (judged_of types self e G a.0 a.1))
  judged_of types self (TNot id e) G y h =
      let a = bind_ok (judge types self e G) _ y h in
      as_said types self G (TNot id e) _ y (ok_same _ y a.2) (JudgedNot (judged_of types self e G a.0 a.1))
  judged_of types self (TBinary id o a b) G y h =
      let l = bind_ok (judge types self a G) _ y h in
      let r = bind_ok (judge types self b l.0.0) _ y l.2 in
      let g = guard_ok (is_below l.0.1 (operand_limit o) && is_below r.0.1 (operand_limit o)) _ y _ r.2 in
      let p = and_both _ _ g.0 in
      as_said types self G (TBinary id o a b) (r.0.0, operator_type o) y g.1 (JudgedBinary (judged_of types self a G l.0 l.1) (judged_of types self b l.0.0 r.0 r.1) p.0 p.1)
  judged_of types self (TIf id c a b) G y h =
      let t = bind_ok (judge types self c G) _ y h in
      let l = bind_ok (judge types self a t.0.0) _ y t.2 in
      let r = bind_ok (judge types self b t.0.0) _ y l.2 in
      as_said types self G (TIf id c a b) (join l.0.0 r.0.0, join_of l.0.1 r.0.1) y (ok_same _ y r.2)
      (JudgedIf (judged_of types self c G t.0 t.1) (judged_of types self a t.0.0 l.0 l.1) (judged_of types self b t.0.0 r.0 r.1))
  judged_of types self (TWhile id c b) G y h =
      let t = bind_ok (judge types self c G) _ y h in
      let r = bind_ok (judge types self b t.0.0) _ y t.2 in
      let g = guard_ok (keeps G r.0.0) _ y _ r.2 in
      as_said types self G (TWhile id c b) (t.0.0, ty.Nil) y g.1 (JudgedWhile (judged_of types self c G t.0 t.1) (judged_of types self b t.0.0 r.0 r.1) g.0)
  judged_of types self (TCall id r m args) G y h =
      let p = bind_ok (judge types self r G) _ y h in
      let q = bind_ok (judge_args types self args p.0.0 []) _ y p.2 in
      let k = call_ok types id m q.0.0 p.0.1 q.0.1 y q.2 in
      let s = called_ok id q.0.0 q.0.1 (types (k.0.0, m)) y k.2 in
      let receiver : Judged types self G r p.0.0 (ty.Class k.0) = subst (λ t. Judged types self G r p.0.0 t) k.1 (judged_of types self r G p.0 p.1) in
      as_said types self G (TCall id r m args) (q.0.0, s.0.result) y s.4 (JudgedCall receiver (judged_args types self args p.0.0 [] q.0 q.1) s.1 s.2 s.3)
  judged_of types self (TDef id c m s b) G y h = as_said types self G (TDef id c m s b) _ y (ok_same _ y h) JudgedDef
  judged_of types self (TDefComputed id c e s b) G y h =
      let a = bind_ok (judge types self e G) _ y h in
      let g = guard_ok (is_below a.0.1 ty.Str) _ y _ a.2 in
      as_said types self G (TDefComputed id c e s b) _ y g.1 (JudgedDefComputed (judged_of types self e G a.0 a.1) g.0)
  judged_of types self (TDeclare id c m s asks) G y h = as_said types self G (TDeclare id c m s asks) _ y (ok_same _ y h) JudgedDeclare
  judged_of types self (TDeclareComputed id c e s asks) G y h =
      let a = bind_ok (judge types self e G) _ y h in
      let g = guard_ok (is_below a.0.1 ty.Str) _ y _ a.2 in
      as_said types self G (TDeclareComputed id c e s asks) _ y g.1 (JudgedDeclareComputed (judged_of types self e G a.0 a.1) g.0)
  judged_of types self (TBlock id es) G y h = JudgedBlock (judged_items types self es G ty.Nil y h)

  judged_items : (types : Types) (self : ℕ) (es : Forest) (G : Variables) (t : Ty) (y : Typed) → judge_items types self es G t ≡ Ok y → JudgedItems types self G es t y.0 y.1
  judged_items types self NoTree G t y h = subst (λ (z : Typed). JudgedItems types self G NoTree t z.0 z.1) (ok_same _ y h) JudgedNoItem
  judged_items types self (Trees e es) G t y h =
      let a = bind_ok (judge types self e G) _ y h in
      JudgedItem (judged_of types self e G a.0 a.1) (judged_items types self es a.0.0 a.0.1 y a.2)

  pub judged_args : (types : Types) (self : ℕ) (es : Forest) (G : Variables) (ts : List Ty) (y : Variables × List Ty) → judge_args types self es G ts ≡ Ok y → JudgedArgs types self G es ts y.0 y.1
  judged_args types self NoTree G ts y h = subst (λ (z : Variables × List Ty). JudgedArgs types self G NoTree ts z.0 z.1) (ok_same _ y h) JudgedNoArg
  judged_args types self (Trees e es) G ts y h =
      let a = bind_ok (judge types self e G) _ y h in
      JudgedArg (judged_of types self e G a.0 a.1) (judged_args types self es a.0.0 (ts ++ a.0.1 ∷ []) y a.2)

-- the same of a body
pub body_judged : (types : Types) (s : Subject) (y : Typed) → judge_body types s ≡ Ok y → IsJudged types s
body_judged types s y h = go (has_count s) refl h
  where
    go : (b : Bool) → has_count s ≡ b → (if b then judge types s.self s.block (variables_of s) >>= ended s else fault (id_of s.block) reason.Count) ≡ Ok y → IsJudged types s
    go false e h = absurd (cc)
    go true e h =
        let a = bind_ok (judge types s.self s.block (variables_of s)) (ended s) y h in
        let g = guard_ok (is_below a.0.1 s.declared.result) a.0 y (ill_at (id_of s.block) reason.Result) a.2 in
        record { count = eqb-true (length s.params) s.declared.count e; behind = a.0.0; ty = a.0.1; judged = judged_of types s.self s.block (variables_of s) a.0 a.1; below = g.0 }

pub judge_body_of : (types : Types) (s : Subject) (j : IsJudged types s) → judge_body types s ≡ Ok (j.behind, j.ty)
unfolding ◌>>=◌
judge_body_of types s j = rw (eq-eqb (length s.params) s.declared.count j.count, judge_of j.judged, j.below) refl
