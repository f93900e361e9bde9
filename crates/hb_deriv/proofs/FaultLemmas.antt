-- The faults that are computed are those of the relation.
use Rattle.std.proofs.Common.{◌≡◌, ◌⊎◌, ℕ, List, [], ◌∷◌, ◌++◌, length, Option, Some, None, Bool, true, false, refl, ap, subst, nat_eq, eq-eqb, inl, inr, ⊎_elim}
use Rattle.std.proofs.{lemmas.Bool.eqb-true, lemmas.Bool.Decides.eqb_tells}
use Rattle.std.specs.Prelude.{Ok, Err, ◌&&◌, if◌then◌else◌}
use Rattle.hb_types.specs.declared.{types.Ty.Ty, ids.ClassId.ClassId, types.MethodTy.MethodTy}
use Rattle.hb_types.specs.declared.types.Ty.TheVariants as ty
use Rattle.hb_types.specs.{Types.is_below, Types.params_of, Variables.Variables, Variables.get, Variables.keeps}
use Rattle.hb_tree.specs.Tree.{Tree, TNil, TTrue, TFalse, TSelf, TInt, TText, TVar, TNew, TAssign, TPrint, TToStr, TNot, TBinary, TIf, TWhile, TCall, TDef, TDefComputed}
use Rattle.hb_tree.specs.Tree.{TDeclare, TDeclareComputed, TBlock, Forest, NoTree, Trees, id_of}
use Rattle.hb_deriv.specs.declared.ill.Ill.{Ill}
use Rattle.hb_deriv.specs.declared.ill.Reason.TheVariants as reason
use Rattle.hb_deriv.specs.Judge.{Types, Typed, Verdict, ◌>>=◌, ill_at, fault, variable_type, operand_limit, all_below, called, call_type, judge, judge_items, judge_args}
use Rattle.hb_deriv.specs.Judge.{Subject, variables_of, has_count, ended, judge_body}
use Rattle.hb_deriv.specs.Judgement.{Judged, JudgedArgs, IsJudged}
use Rattle.hb_deriv.specs.Faults.{IsNoClass, Fails, FailsVar, FailsAssign, FailsPrint, FailsToStr, FailsNot, FailsLeft, FailsRight, FailsOperand, FailsTest, FailsFirst}
use Rattle.hb_deriv.specs.Faults.{FailsSecond, FailsCondition, FailsTurn, FailsLoop, FailsReceiver, FailsArgs, FailsNoClass, FailsNoType, FailsCount, FailsArgument}
use Rattle.hb_deriv.specs.Faults.{FailsDefName, FailsDefText, FailsDeclareName, FailsDeclareText, FailsBlock, ItemsFail, FailsItem, FailsLaterItem, ArgsFail, FailsArg}
use Rattle.hb_deriv.specs.Faults.{FailsLaterArg, BodyFails, BodyCount, BodyPart, BodyResult}
use Rattle.hb_deriv.proofs.JudgementLemmas.{judge_of, args_of, judged_of, judged_args, body_judged, judge_body_of}

other : (a b : ℕ) → (a ≡ b → ⊥) → nat_eq a b ≡ false
other a b h = ⊎_elim (λ p. absurd (h p.1)) (λ p. p.0) (eqb_tells a b)

not_equal : (a b : ℕ) → nat_eq a b ≡ false → a ≡ b → ⊥
not_equal a b h e = let k = eq-eqb a b e in cc

no_class : (types : Types) (id m : ℕ) (G : Variables) (p : Ty) (ts : List Ty) → IsNoClass p → call_type types id m G p ts ≡ fault id reason.Receiver
no_class types id m G (ty.Class c) ts h = absurd h
no_class _ _ _ _ _ _ _ = refl

mutual
  unfolding ◌>>=◌

  pub fails_of : {types : Types} {self : ℕ} {G : Variables} {e : Tree} {f : Ill} → Fails types self G e f → judge types self e G ≡ Err f
  fails_of (FailsVar {G = G} {id = id} h) = ap (variable_type id G) h
  fails_of (FailsAssign h) = rw (fails_of h) refl
  fails_of (FailsPrint h) = rw (fails_of h) refl
  fails_of (FailsToStr h) = rw (fails_of h) refl
  fails_of (FailsNot h) = rw (fails_of h) refl
  fails_of (FailsLeft h) = rw (fails_of h) refl
  fails_of (FailsRight h k) = rw (judge_of h, fails_of k) refl
  fails_of (FailsOperand h k p) = rw (judge_of h, judge_of k, p) refl
  fails_of (FailsTest h) = rw (fails_of h) refl
  fails_of (FailsFirst h k) = rw (judge_of h, fails_of k) refl
  fails_of (FailsSecond h k l) = rw (judge_of h, judge_of k, fails_of l) refl
  fails_of (FailsCondition h) = rw (fails_of h) refl
  fails_of (FailsTurn h k) = rw (judge_of h, fails_of k) refl
  fails_of (FailsLoop h k p) = rw (judge_of h, judge_of k, p) refl
  fails_of (FailsReceiver h) = rw (fails_of h) refl
  fails_of (FailsArgs h k) = rw (judge_of h, args_fail_of k) refl
  fails_of {types = types} (FailsNoClass {G2 = H} {id = id} {m = m} {p = p} {ts = ts} h k n) = rw (judge_of h, args_of k) (no_class types id m H p ts n)
  fails_of (FailsNoType h k p) = rw (judge_of h, args_of k, p) refl
  fails_of (FailsCount {ts = ts} {s = s} h k p n) = rw (judge_of h, args_of k, p, other (length ts) s.count n) refl
  fails_of (FailsArgument {ts = ts} {s = s} h k p n q) = rw (judge_of h, args_of k, p, eq-eqb (length ts) s.count n, q) refl
  fails_of (FailsDefName h) = rw (fails_of h) refl
  fails_of (FailsDefText h p) = rw (judge_of h, p) refl
  fails_of (FailsDeclareName h) = rw (fails_of h) refl
  fails_of (FailsDeclareText h p) = rw (judge_of h, p) refl
  fails_of (FailsBlock h) = items_fail_of h

  items_fail_of : {types : Types} {self : ℕ} {G : Variables} {es : Forest} {r : Ty} {f : Ill} → ItemsFail types self G es r f → judge_items types self es G r ≡ Err f
  items_fail_of (FailsItem h) = rw (fails_of h) refl
  items_fail_of (FailsLaterItem h k) = rw (judge_of h) (items_fail_of k)

  args_fail_of : {types : Types} {self : ℕ} {G : Variables} {es : Forest} {ss : List Ty} {f : Ill} → ArgsFail types self G es ss f → judge_args types self es G ss ≡ Err f
  args_fail_of (FailsArg h) = rw (fails_of h) refl
  args_fail_of (FailsLaterArg h k) = rw (judge_of h) (args_fail_of k)

-- the other way: a fault that is computed is in the relation
pub bind_err : {A B : Type 0} (r : Verdict A) (k : A → Verdict B) (f : Ill) → (r >>= k) ≡ Err f → (r ≡ Err f) ⊎ ((x : A) × (r ≡ Ok x) × (k x ≡ Err f))
unfolding ◌>>=◌
bind_err (Ok x) k f h = inr (x, refl, h)
bind_err {A} (Err e) k f h = inl (let same : e ≡ f = cc in ap (λ (g : Ill). let r : Verdict A = Err g in r) same)

-- a part that has its type without a test of its own can only fail in its part
part_err : {A B : Type 0} (r : Verdict A) (k : A → B) (f : Ill) → (r >>= (λ x. Ok (k x))) ≡ Err f → r ≡ Err f
unfolding ◌>>=◌
part_err (Ok x) k f h = absurd (cc)
part_err {A} (Err e) k f h = let same : e ≡ f = cc in ap (λ (g : Ill). let r : Verdict A = Err g in r) same

pub guard_err : {A : Type 0} (b : Bool) (x : A) (e f : Ill) → (let r : Verdict A = Err e in if b then Ok x else r) ≡ Err f → (b ≡ false) × (e ≡ f)
guard_err true x e f h = absurd (cc)
guard_err false x e f h = (refl, cc)

variable_err : (id : ℕ) (G : Variables) (o : Option Ty) (f : Ill) → variable_type id G o ≡ Err f → (o ≡ None) × (ill_at id reason.Unbound ≡ f)
variable_err id G None f h = (refl, cc)
variable_err id G (Some t) f h = absurd (cc)

-- the same fault, written otherwise
as_told : (types : Types) (self : ℕ) (G : Variables) (e : Tree) (f g : Ill) → f ≡ g → Fails types self G e f → Fails types self G e g
as_told types self G e f g h = subst (λ (x : Ill). Fails types self G e x) h

called_fails : (types : Types) (self id m : ℕ) (c : ClassId) (G : Variables) (r : Tree) (args : Forest) (G1 G2 : Variables) (ts : List Ty) (f : Ill) (o : Option MethodTy) → types (c.0, m) ≡ o
    → Judged types self G r G1 (ty.Class c) → JudgedArgs types self G1 args [] G2 ts → called id G2 ts o ≡ Err f → Fails types self G (TCall id r m args) f
called_fails types self id m c G r args G1 G2 ts f None is j k h = let same : ill_at id reason.NoType ≡ f = cc in as_told types self G (TCall id r m args) _ f same (FailsNoType j k is)
called_fails types self id m c G r args G1 G2 ts f (Some s) is j k h = go (nat_eq (length ts) s.count) refl h
  where
    go : (b : Bool) → nat_eq (length ts) s.count ≡ b → (let x : Typed = (G2, s.result) in
        let v : Verdict Typed = if b then (if all_below ts (params_of s) then Ok x else fault id reason.Argument) else fault id reason.Count in v) ≡ Err f
        → Fails types self G (TCall id r m args) f
    go true e h = let g = guard_err (all_below ts (params_of s)) (G2, s.result) (ill_at id reason.Argument) f h in
        as_told types self G (TCall id r m args) _ f g.1 (FailsArgument j k is (eqb-true (length ts) s.count e) g.0)
    go false e h = let same : ill_at id reason.Count ≡ f = cc in as_told types self G (TCall id r m args) _ f same (FailsCount j k is (not_equal (length ts) s.count e))

call_fails : (types : Types) (self id m : ℕ) (G : Variables) (r : Tree) (args : Forest) (G1 : Variables) (p : Ty) (G2 : Variables) (ts : List Ty) (f : Ill) → Judged types self G r G1 p
    → JudgedArgs types self G1 args [] G2 ts → call_type types id m G2 p ts ≡ Err f → Fails types self G (TCall id r m args) f
call_fails types self id m G r args G1 (ty.Class c) G2 ts f j k h = called_fails types self id m c G r args G1 G2 ts f (types (c.0, m)) refl j k h
call_fails types self id m G r args G1 _ G2 ts f j k h = let same : ill_at id reason.Receiver ≡ f = cc in as_told types self G (TCall id r m args) _ f same (FailsNoClass j k tt)

mutual
  pub fails_from : (types : Types) (self : ℕ) (e : Tree) (G : Variables) (f : Ill) → judge types self e G ≡ Err f → Fails types self G e f
  fails_from types self (TVar id x) G f h = let v = variable_err id G (get G x) f h in as_told types self G (TVar id x) _ f v.1 (FailsVar v.0)
  fails_from types self (TAssign id x e) G f h = FailsAssign (fails_from types self e G f (part_err (judge types self e G) _ f h))
  fails_from types self (TPrint id e) G f h = FailsPrint (fails_from types self e G f (part_err (judge types self e G) _ f h))
  fails_from types self (TToStr id e) G f h = FailsToStr (fails_from types self e G f (part_err (judge types self e G) _ f h))
  fails_from types self (TNot id e) G f h = FailsNot (fails_from types self e G f (part_err (judge types self e G) _ f h))
  fails_from types self (TBinary id o a b) G f h =
      ⊎_elim (λ p. FailsLeft (fails_from types self a G f p))
      (λ p. ⊎_elim (λ q. FailsRight (judged_of types self a G p.0 p.1) (fails_from types self b p.0.0 f q))
      (λ q. let g = guard_err (is_below p.0.1 (operand_limit o) && is_below q.0.1 (operand_limit o)) _ _ f q.2 in
      as_told types self G (TBinary id o a b) _ f g.1 (FailsOperand (judged_of types self a G p.0 p.1) (judged_of types self b p.0.0 q.0 q.1) g.0))
      (bind_err (judge types self b p.0.0) _ f p.2))
      (bind_err (judge types self a G) _ f h)
  fails_from types self (TIf id c a b) G f h =
      ⊎_elim (λ p. FailsTest (fails_from types self c G f p))
      (λ p. ⊎_elim (λ q. FailsFirst (judged_of types self c G p.0 p.1) (fails_from types self a p.0.0 f q))
      (λ q. FailsSecond (judged_of types self c G p.0 p.1) (judged_of types self a p.0.0 q.0 q.1) (fails_from types self b p.0.0 f (part_err (judge types self b p.0.0) _ f q.2)))
      (bind_err (judge types self a p.0.0) _ f p.2))
      (bind_err (judge types self c G) _ f h)
  fails_from types self (TWhile id c b) G f h =
      ⊎_elim (λ p. FailsCondition (fails_from types self c G f p))
      (λ p. ⊎_elim (λ q. FailsTurn (judged_of types self c G p.0 p.1) (fails_from types self b p.0.0 f q))
      (λ q. let g = guard_err (keeps G q.0.0) _ _ f q.2 in
      as_told types self G (TWhile id c b) _ f g.1 (FailsLoop (judged_of types self c G p.0 p.1) (judged_of types self b p.0.0 q.0 q.1) g.0))
      (bind_err (judge types self b p.0.0) _ f p.2))
      (bind_err (judge types self c G) _ f h)
  fails_from types self (TCall id r m args) G f h =
      ⊎_elim (λ p. FailsReceiver (fails_from types self r G f p))
      (λ p. ⊎_elim (λ q. FailsArgs (judged_of types self r G p.0 p.1) (args_fail_from types self args p.0.0 [] f q))
      (λ q. call_fails types self id m G r args p.0.0 p.0.1 q.0.0 q.0.1 f (judged_of types self r G p.0 p.1) (judged_args types self args p.0.0 [] q.0 q.1) q.2)
      (bind_err (judge_args types self args p.0.0 []) _ f p.2))
      (bind_err (judge types self r G) _ f h)
  fails_from types self (TDefComputed id c e s b) G f h =
      ⊎_elim (λ p. FailsDefName (fails_from types self e G f p))
      (λ p. let g = guard_err (is_below p.0.1 ty.Str) _ _ f p.2 in
      as_told types self G (TDefComputed id c e s b) _ f g.1 (FailsDefText (judged_of types self e G p.0 p.1) g.0))
      (bind_err (judge types self e G) _ f h)
  fails_from types self (TDeclareComputed id c e s asks) G f h =
      ⊎_elim (λ p. FailsDeclareName (fails_from types self e G f p))
      (λ p. let g = guard_err (is_below p.0.1 ty.Str) _ _ f p.2 in
      as_told types self G (TDeclareComputed id c e s asks) _ f g.1 (FailsDeclareText (judged_of types self e G p.0 p.1) g.0))
      (bind_err (judge types self e G) _ f h)
  fails_from types self (TBlock id es) G f h = FailsBlock (items_fail_from types self es G ty.Nil f h)
  fails_from types self _ G f h = absurd (cc)

  items_fail_from : (types : Types) (self : ℕ) (es : Forest) (G : Variables) (t : Ty) (f : Ill) → judge_items types self es G t ≡ Err f → ItemsFail types self G es t f
  items_fail_from types self NoTree G t f h = absurd (cc)
  items_fail_from types self (Trees e es) G t f h =
      ⊎_elim (λ p. FailsItem (fails_from types self e G f p)) (λ p. FailsLaterItem (judged_of types self e G p.0 p.1) (items_fail_from types self es p.0.0 p.0.1 f p.2)) (bind_err (judge types self e G) _ f h)

  args_fail_from : (types : Types) (self : ℕ) (es : Forest) (G : Variables) (ts : List Ty) (f : Ill) → judge_args types self es G ts ≡ Err f → ArgsFail types self G es ts f
  args_fail_from types self NoTree G ts f h = absurd (cc)
  args_fail_from types self (Trees e es) G ts f h =
      ⊎_elim (λ p. FailsArg (fails_from types self e G f p)) (λ p. FailsLaterArg (judged_of types self e G p.0 p.1) (args_fail_from types self es p.0.0 (ts ++ p.0.1 ∷ []) f p.2)) (bind_err (judge types self e G) _ f h)

-- the same of a body
pub body_fails_of : (types : Types) (s : Subject) (f : Ill) → BodyFails types s f → judge_body types s ≡ Err f
unfolding ◌>>=◌
body_fails_of types s _ (BodyCount n) = rw (other (length s.params) s.declared.count n) refl
body_fails_of types s f (BodyPart n h) = rw (eq-eqb (length s.params) s.declared.count n, fails_of h) refl
body_fails_of types s _ (BodyResult n h p) = rw (eq-eqb (length s.params) s.declared.count n, judge_of h, p) refl

pub body_fails_from : (types : Types) (s : Subject) (f : Ill) → judge_body types s ≡ Err f → BodyFails types s f
body_fails_from types s f h = go (has_count s) refl h
  where
    go : (b : Bool) → has_count s ≡ b → (if b then judge types s.self s.block (variables_of s) >>= ended s else fault (id_of s.block) reason.Count) ≡ Err f → BodyFails types s f
    go false e h = let same : ill_at (id_of s.block) reason.Count ≡ f = cc in subst (λ (x : Ill). BodyFails types s x) same (BodyCount (not_equal (length s.params) s.declared.count e))
    go true e h =
        let n = eqb-true (length s.params) s.declared.count e in
        ⊎_elim (λ p. BodyPart n (fails_from types s.self s.block (variables_of s) f p))
        (λ p. let g = guard_err (is_below p.0.1 s.declared.result) p.0 (ill_at (id_of s.block) reason.Result) f p.2 in
        subst (λ (x : Ill). BodyFails types s x) g.1 (BodyResult n (judged_of types s.self s.block (variables_of s) p.0 p.1) g.0))
        (bind_err (judge types s.self s.block (variables_of s)) (ended s) f h)

-- exactly one of the two
pub one_verdict : (types : Types) (s : Subject) → IsJudged types s ⊎ ((f : Ill) × BodyFails types s f)
one_verdict types s = go (judge_body types s) refl
  where
    go : (v : Verdict Typed) → judge_body types s ≡ v → IsJudged types s ⊎ ((f : Ill) × BodyFails types s f)
    go (Ok r) h = inl (body_judged types s r h)
    go (Err f) h = inr (f, body_fails_from types s f h)

pub never_both : (types : Types) (s : Subject) (f : Ill) → IsJudged types s → BodyFails types s f → ⊥
never_both types s f j h = let good = judge_body_of types s j in let bad = body_fails_of types s f h in cc

pub one_fault : (types : Types) (s : Subject) (f g : Ill) → BodyFails types s f → BodyFails types s g → f ≡ g
one_fault types s f g h k = let first = body_fails_of types s f h in let second = body_fails_of types s g k in cc
