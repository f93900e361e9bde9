-- What is asked of the tables has one answer.
use Rattle.std.proofs.Common.{◌≡◌, ◌⊎◌, inl, inr, ℕ, suc, ◌+◌, ◌≤◌, Bool, true, false, List, [], ◌∷◌, ◌++◌, length, length-append, map, Option, Some, None, refl, sym, ap, ◌∙◌}
use Rattle.std.proofs.Common.{subst, arith, append_assoc, eq-eqb, cond, eqb}
use Rattle.std.specs.Prelude.{Contains, slice_get}
use Rattle.std.specs.Option.{option_map}
use Rattle.std.proofs.lemmas.Bool.Decides.{eqb_tells}
use Rattle.std.proofs.lemmas.List.{append_cancel_left, append-nil}
use Rattle.std.proofs.lemmas.Option.{none-some, same_Some}
use mathlib.Core.List.{IsPrefix}
use Rattle.hb_types.specs.declared.ids.CallNo.{CallNo}
use Rattle.hb_types.specs.declared.ids.KeyId.{KeyId}
use Rattle.hb_types.specs.declared.ids.BodySite.{BodySite}
use Rattle.hb_types.specs.declared.ids.TypeSite.{TypeSite}
use Rattle.hb_types.specs.declared.types.Ty.{Ty}
use Rattle.hb_types.specs.declared.types.MethodTy.{MethodTy}
use Rattle.hb_tree.specs.declared.parts.Body.{Body}
use Rattle.hb_tree.specs.Table.{Table}
use Rattle.hb_deriv.specs.Judge.{Key, Types}
use Rattle.hb_deriv.specs.Derivation.{type_at}
use Rattle.hb_deriv.specs.Programs.{sites_of}
use Rattle.hb_deriv.specs.Events.{looks}
use Rattle.hb_names.specs.declared.names.TheConstants.{NAMES_MAX}
use Rattle.hb_names.specs.Names.{Differ, IsFull, Name, place}
use Rattle.hb_names.proofs.NameLemmas.{place-apart, place-at, place-one}
use Rattle.hb_tables.specs.declared.entry.Act.{Act}
use Rattle.hb_tables.specs.declared.entry.Act.TheVariants.{Hold, Free, Retype, Busy, WornType, Define, WornDef, Call}
use Rattle.hb_tables.specs.declared.entry.ArgKinds.{ArgKinds}
use Rattle.hb_tables.specs.declared.entry.By.{By}
use Rattle.hb_tables.specs.declared.entry.By.TheVariants as by
use Rattle.hb_tables.specs.declared.entry.Verdict.{Verdict}
use Rattle.hb_tables.specs.declared.entry.Verdict.TheVariants as verdict
use Rattle.hb_tables.specs.declared.entry.Entry.{Entry}
use Rattle.hb_tables.specs.Frames.{acts, KeepsHold}
use Rattle.hb_tables.specs.History.{FitsAct, Spot, blank, done, entry, key_of, spot, spot_from, times, same_call, without}
use Rattle.hb_tables.specs.Names.{name_of}
use Rattle.hb_tables.specs.Rows.{HoldsName, IsDecided, body_at, fill, kinds_of, needs_in, site_in, type_of_key, types_in, verdict_in}
use Rattle.hb_tables.specs.Standing.{count_of}
use Rattle.hb_tables.specs.Verdicts.{as_fresh, looks_of, subject, takes, verdict_of}
use Rattle.hb_tables.proofs.FrameLemmas.{acts_append, hold_stays, keeps_parts}
use Rattle.hb_tables.proofs.HistoryLemmas.{redefs_grow, redefs_same, spot_more, turn_here}
use Rattle.hb_tables.proofs.StandingLemmas.{held_stands}
use Rattle.hb_call.specs.Held.{HasCall}
use Rattle.hb_call.specs.Rules.{Began, EntersBy, FitsFree, FitsHold, FitsRules, GivesUp, HoldsNext, IsFullRightly, IsNextLook, IsRightWay, IsWay, runs}
use Rattle.hb_ordered.specs.Asking.{Question, Defines, Declares, Starts, Goes, Ends, Answers, Defined, Undefined, Retyped, Held, Worn, Started, Looked, GaveBack, Decided}
use Rattle.hb_ordered.specs.Asking.{Ended, IsAnswer, IsAsked, IsOpen, TakesAt, FitsArguments, AsksOne, DefineOne, DeclareOne, StartOne, GoOne, EndOne}
use Rattle.hb_ordered.specs.Sharing.{AreShared, HasKey, IsShared, Meet, NotFull}

-- ── a `def`, a `type`, the first Hold of a call and its last Frees ──

define_one : (limit c : ℕ) (log : List Entry) (k s : ℕ) (a b : Act) → Answers (Defines k s) a → Answers (Defines k s) b → FitsAct limit c (spot (key_of a) log) a → FitsAct limit c
    (spot (key_of b) log) b → a ≡ b
define_one limit c log _ _ _ _ (Defined key site) (Defined _ _) x y = refl
define_one limit c log _ _ _ _ (Defined key site) (Undefined s _) x y = absurd (omega (arith, x.0, y))
define_one limit c log _ _ _ _ (Undefined s key) (Defined _ site) x y = absurd (omega (arith, x, y.0))
define_one limit c log _ _ _ _ (Undefined s key) (Undefined _ _) x y = refl

declare_one : (limit c : ℕ) (log : List Entry) (k s : ℕ) (a b : Act) → Answers (Declares k s) a → Answers (Declares k s) b → FitsAct limit c (spot (key_of a) log) a → FitsAct limit c
    (spot (key_of b) log) b → a ≡ b
declare_one limit c log _ _ _ _ (Retyped key site) (Retyped _ _) x y = refl
declare_one limit c log _ _ _ _ (Retyped key site) (Held s _ pins) x y = absurd (omega (arith, x.0, y.0, y.1))
declare_one limit c log _ _ _ _ (Retyped key site) (Worn s _) x y = absurd (omega (arith, x.1, y.1))
declare_one limit c log _ _ _ _ (Held s key pins) (Retyped _ site) x y = absurd (omega (arith, y.0, x.0, x.1))
declare_one limit c log _ _ _ _ (Held s key pins) (Held _ _ other) x y = ap (λ n. Busy key n) (x.0 ∙ sym y.0)
declare_one limit c log _ _ _ _ (Held s key pins) (Worn _ _) x y = absurd (omega (arith, y.0, x.0, x.1))
declare_one limit c log _ _ _ _ (Worn s key) (Retyped _ site) x y = absurd (omega (arith, y.1, x.1))
declare_one limit c log _ _ _ _ (Worn s key) (Held _ _ pins) x y = absurd (omega (arith, x.0, y.0, y.1))
declare_one limit c log _ _ _ _ (Worn s key) (Worn _ _) x y = refl

-- a Hold finds what there is
hold_one : (limit c : ℕ) (log : List Entry) (q : CallNo) (key other : KeyId) (ty ty' : Option TypeSite) (n n' : ℕ) → key ≡ other → FitsAct limit c (spot key.0 log) (Hold key q ty n)
    → FitsAct limit c (spot other.0 log) (Hold other q ty' n') → Hold key q ty n ≡ Hold other q ty' n'
hold_one limit c log q key other ty ty' n n' same x y =
    let at : spot key.0 log ≡ spot other.0 log = ap (λ (k : KeyId). spot k.0 log) same in
    ap (λ (k : KeyId). Hold k q ty n) same ∙ ap (λ (o : Option TypeSite). Hold other q o n) (x.0 ∙ ap (λ (s : Spot). s.ty) at ∙ sym y.0) ∙ ap (λ m. Hold other q ty' m)
    (x.1 ∙ ap (λ (s : Spot). s.changes) at ∙ sym y.1)

start_one : (limit c : ℕ) (log : List Entry) (q k : ℕ) (a b : Act) → Answers (Starts q k) a → Answers (Starts q k) b → FitsAct limit c (spot (key_of a) log) a → FitsAct limit c
    (spot (key_of b) log) b → a ≡ b
start_one limit c log _ _ _ _ (Started q key ty n) (Started _ _ ty' n') x y = hold_one limit c log q key key ty ty' n n' refl x y

end_one : (q k : ℕ) (a b : Act) → Answers (Ends q k) a → Answers (Ends q k) b → a ≡ b
end_one _ _ _ _ (Ended q key) (Ended _ _) = refl

-- ── a call begins once ──

pub split : (xs ys before after : List Entry) (e : Entry) → xs ++ ys ≡ before ++ e ∷ after → (IsPrefix xs before) ⊎ ((rest : List Entry) × (xs ≡ before ++ e ∷ rest))
split [] ys before after e is = inl (before, refl)
split (x ∷ xs) ys [] after e is = inr (xs, let h : x ≡ e = cc is in ap (λ y. y ∷ xs) h)
split (x ∷ xs) ys (b ∷ before) after e is = let h : x ≡ b = cc is in elim (split xs ys before after e (cc is)) [ inl p ↦ inl (p.0, cc (h, p.1)) | inr r ↦ inr (r.0, cc (h, r.1)) ]

last_same : (xs ys : List Entry) (x y : Entry) → xs ++ x ∷ [] ≡ ys ++ y ∷ [] → x ≡ y
last_same [] [] x y e = cc e
last_same [] (b ∷ []) x y e = cc e
last_same [] (b ∷ d ∷ ys) x y e = cc e
last_same (a ∷ []) [] x y e = cc e
last_same (a ∷ d ∷ xs) [] x y e = cc e
last_same (a ∷ xs) (b ∷ ys) x y e = last_same xs ys x y (cc e)

nothing_behind : (xs ys rest back : List Entry) → xs ≡ ys ++ rest → ys ≡ xs ++ back → xs ≡ ys
nothing_behind xs ys [] back e f = e ∙ append-nil ys
nothing_behind xs ys (r ∷ rest) back e f = absurd (let n = ap length e in let m = ap length f in let a = length-append ys (r ∷ rest) in let b = length-append xs back in omega (arith, n, m, a, b))

same_self : (x : ℕ × ℕ) → same_call x x ≡ true
same_self x = let a = eq-eqb x.0 x.0 refl in let b = eq-eqb x.1 x.1 refl in rw (a, b) refl

start_holds : (c : ℕ) (q : CallNo) (key : KeyId) (before : List Entry) (ty : Option TypeSite) (n : ℕ) → 1 ≤ times (c, q.0) (spot key.0 (before ++ entry c (Hold key q ty n) ∷ [])).calls
start_holds c q key before ty n =
    let e : Entry = entry c (Hold key q ty n) in
    let one = same_self (c, q.0) in
    subst (λ (s : Spot). 1 ≤ times (c, q.0) s.calls) (sym (spot_more key.0 before e ∙ turn_here key.0 (spot key.0 before) e refl)) (rw one (omega arith))

-- the key of a call that began is held
began_holds : (c : ℕ) (q : CallNo) (key : KeyId) (start log : List Entry) → Began c q key start log → 1 ≤ times (c, q.0) (spot key.0 log).calls
began_holds c q key start log b =
    subst (λ l. 1 ≤ times (c, q.0) (spot key.0 l).calls) b.goes
    (hold_stays key.0 c q.0 start b.since b.keeps (subst (λ l. 1 ≤ times (c, q.0) (spot key.0 l).calls) (sym b.is) (start_holds c q key b.before b.ty b.changes)))

-- a call that began did not begin again since
not_again : (c : ℕ) (q : CallNo) (key other : KeyId) (start later log : List Entry) → Began c q key start log → (b : Began c q other later log) → IsPrefix start b.before → ⊥
not_again c q key other start later log a b p =
    let e : Entry = entry c (Hold other q b.ty b.changes) in
    let goes : start ++ (p.0 ++ e ∷ b.since) ≡ start ++ a.since =
    sym (append_assoc start p.0 (e ∷ b.since)) ∙ ap (λ l. l ++ e ∷ b.since) p.1 ∙ sym (append_assoc b.before (e ∷ []) b.since) ∙ ap (λ l. l ++ b.since) (sym b.is) ∙ b.goes ∙ sym a.goes in
    let rest : p.0 ++ e ∷ b.since ≡ a.since = append_cancel_left start (p.0 ++ e ∷ b.since) a.since goes in
    let keeps : KeepsHold q.0 key.0 (acts c p.0) = (keeps_parts q.0 key.0 (acts c p.0) (acts c (e ∷ b.since))
    (subst (KeepsHold q.0 key.0) (ap (acts c) (sym rest) ∙ acts_append c p.0 (e ∷ b.since)) a.keeps)).0 in
    let held = hold_stays key.0 c q.0 start p.0 keeps (subst (λ l. 1 ≤ times (c, q.0) (spot key.0 l).calls) (sym a.is) (start_holds c q key a.before a.ty a.changes)) in
    let here : 1 ≤ times (c, q.0) (spot key.0 b.before).calls = subst (λ l. 1 ≤ times (c, q.0) (spot key.0 l).calls) p.1 held in
    let none : times (c, q.0) (spot key.0 b.before).calls ≡ 0 = held_stands c q.0 key.0 b.before ∙ ap (count_of key.0) b.none in
    omega (arith, here, none)

-- the list in which a call begins goes on with its rest
starts_at : (c : ℕ) (q : CallNo) (key : KeyId) (start log : List Entry) (b : Began c q key start log) → log ≡ b.before ++ entry c (Hold key q b.ty b.changes) ∷ b.since
starts_at c q key start log b = sym b.goes ∙ ap (λ l. l ++ b.since) b.is ∙ append_assoc b.before (entry c (Hold key q b.ty b.changes) ∷ []) b.since

-- a start is behind another one
behind : (c : ℕ) (q : CallNo) (key other : KeyId) (start later log : List Entry) → Began c q key start log → Began c q other later log → (rest : List Entry) × (start ≡ later ++ rest)
behind c q key other start later log a b = elim (split start a.since b.before b.since (entry c (Hold other q b.ty b.changes)) (a.goes ∙ starts_at c q other later log b)) [
  | inl p ↦ absurd (not_again c q key other start later log a b p)
  | inr r ↦ (r.0, r.1 ∙ sym (append_assoc b.before (entry c (Hold other q b.ty b.changes) ∷ []) r.0) ∙ ap (λ l. l ++ r.0) (sym b.is))
]

-- the key and the start are the same, wherever it is said that a call began
pub one_began : (c : ℕ) (q : CallNo) (key other : KeyId) (start later log : List Entry) → Began c q key start log → Began c q other later log → (key ≡ other) × (start ≡ later)
one_began c q key other start later log a b =
    let x = behind c q key other start later log a b in
    let y = behind c q other key later start log b a in
    let same = nothing_behind start later x.0 y.0 x.1 y.1 in
    let last = last_same a.before b.before (entry c (Hold key q a.ty a.changes)) (entry c (Hold other q b.ty b.changes)) (sym a.is ∙ same ∙ b.is) in
    (held_key last, same)
  where
    held_key : entry c (Hold key q a.ty a.changes) ≡ entry c (Hold other q b.ty b.changes) → key ≡ other
    held_key e = let acts_are : Hold key q a.ty a.changes ≡ Hold other q b.ty b.changes = ap (λ (x : Entry). x.act) e in cc acts_are

-- ── in a list ──

here_in : {X : Type 0} (x : X) (xs : List X) → Contains (x ∷ xs) x
here_in x xs = (0, omega arith, refl)

later_in : {X : Type 0} (x y : X) (xs : List X) → Contains xs y → Contains (x ∷ xs) y
later_in x y xs h = (let low = h.1 in (suc h.0, omega (arith, low), h.2))

in_second : {X Y : Type 0} (f : X → Y) (x : X) (xs ys : List X) → Contains (map f (xs ++ x ∷ ys)) (f x)
in_second f x [] ys = here_in (f x) (map f ys)
in_second f x (z ∷ xs) ys = later_in (f z) (f x) (map f (xs ++ x ∷ ys)) (in_second f x xs ys)

-- two places of one list are one, or one of them is before the other
places : {X Y : Type 0} (f : X → Y) (x y : X) (xs us ys vs : List X) → xs ++ x ∷ us ≡ ys ++ y ∷ vs → (x ≡ y) ⊎ (Contains (map f ys) (f x) ⊎ Contains (map f xs) (f y))
places f x y [] us [] vs e = inl (cc e)
places f x y [] us (b ∷ ys) vs e = inr (inl (let h : x ≡ b = cc e in subst (λ z. Contains (f b ∷ map f ys) (f z)) (sym h) (here_in (f b) (map f ys))))
places f x y (a ∷ xs) us [] vs e = inr (inr (let h : a ≡ y = cc e in subst (λ z. Contains (f a ∷ map f xs) (f z)) h (here_in (f a) (map f xs))))
places f x y (a ∷ xs) us (b ∷ ys) vs e = elim (places f x y xs us ys vs (cc e)) [
  | inl same ↦ inl same
  | inr (inl h) ↦ inr (inl (later_in (f b) (f x) (map f ys) h))
  | inr (inr h) ↦ inr (inr (later_in (f a) (f y) (map f xs) h))
]

-- ── looks ──

-- the looks, where the arguments fit
every_look : Table → Types → ℕ → Option Body → Option MethodTy → List Key
every_look t types class None m = []
every_look t types class (Some b) None = []
every_look t types class (Some b) (Some m) = looks types (subject t class b m)

looks_defined : (t : Table) (types : Types) (class : ℕ) (b : Option Body) (m : Option MethodTy) (body : Body) (declared : MethodTy) → b ≡ Some body → m ≡ Some declared
    → every_look t types class b m ≡ looks types (subject t class body declared)
unfolding every_look
looks_defined t types class b m body declared e f = ap (λ (o : Option Body). every_look t types class o m) e ∙ ap (λ (o : Option MethodTy). every_look t types class (Some body) o) f

looks_taken : (t : Table) (types : Types) (class : ℕ) (b : Option Body) (m : MethodTy) (kinds : List Ty) → takes m kinds ≡ true → looks_of t types class b
    (Some m) kinds ≡ every_look t types class b (Some m)
unfolding every_look
looks_taken t types class None m kinds fits = refl
looks_taken t types class (Some b) m kinds fits = rw fits refl

-- ── verdicts ──

same_way : (c k : ℕ) (log : List Entry) (a b : By) → IsWay c [] k log a → IsWay c [] k log b → a ≡ b
same_way c k log by.Own by.Own x y = refl
same_way c k log by.Own by.Fresh x y = absurd (y x)
same_way c k log by.Own by.Shared x y = absurd y
same_way c k log by.Fresh by.Own x y = absurd (x y)
same_way c k log by.Fresh by.Fresh x y = refl
same_way c k log by.Fresh by.Shared x y = absurd y
same_way c k log by.Shared b x y = absurd x

-- a verdict that does not enter is that of a fresh check
same_refusal : (v w : Verdict) → as_fresh v ≡ v → as_fresh v ≡ as_fresh w → ((way : By) → w ≡ verdict.Enter way → ⊥) → v ≡ w
same_refusal v (verdict.Enter way) f e not = absurd (not way refl)
same_refusal _ _ f e _ = sym f ∙ e

enters_one : (v : Verdict) (way : By) → as_fresh v ≡ verdict.Enter by.Fresh → (w : By) × (v ≡ verdict.Enter w)
enters_one (verdict.Enter w) way e = (w, refl)
enters_one _ _ e = absurd (cc e)

refuses : (v w : Verdict) (way : By) → as_fresh v ≡ as_fresh w → as_fresh v ≡ v → ((x : By) → v ≡ verdict.Enter x → ⊥) → w ≡ verdict.Enter way → ⊥
refuses v w way e f not is = (let h = enters_one v way (e ∙ ap as_fresh is) in not h.0 h.1)

same_verdict : (c k : ℕ) (log : List Entry) (v w : Verdict) → as_fresh v ≡ as_fresh w → IsRightWay c [] k log v → IsRightWay c [] k log w → v ≡ w
same_verdict c k log (verdict.Enter a) w e x y = go w (enters_one w a (sym e)) y
  where
    go : (w : Verdict) → ((b : By) × (w ≡ verdict.Enter b)) → IsRightWay c [] k log w → verdict.Enter a ≡ w
    go w h y = ap (λ b. verdict.Enter b) (same_way c k log a h.0 x (subst (IsRightWay c [] k log) h.1 y)) ∙ sym h.1
same_verdict c k log verdict.NoBody w e x y = same_refusal verdict.NoBody w refl e (λ way. refuses verdict.NoBody w way e refl (λ b is. cc is))
same_verdict c k log verdict.NoType w e x y = same_refusal verdict.NoType w refl e (λ way. refuses verdict.NoType w way e refl (λ b is. cc is))
same_verdict c k log verdict.BadArgs w e x y = same_refusal verdict.BadArgs w refl e (λ way. refuses verdict.BadArgs w way e refl (λ b is. cc is))
same_verdict c k log (verdict.IllTyped g) w e x y = same_refusal (verdict.IllTyped g) w refl e (λ way. refuses (verdict.IllTyped g) w way e refl (λ b is. cc is))

-- ── what follows in a call ──

some_run : (q : CallNo) (key : KeyId) (going : Bool) (l : List Act) → 1 ≤ runs q.0 going (l ++ Free key q ∷ []) + cond going 1 0
some_run q key going [] = let same = eq-eqb q.0 q.0 refl in rw same (go going)
  where
    go : (going : Bool) → 1 ≤ (cond going 0 1 + 0) + cond going 1 0
    go true = omega arith
    go false = omega arith
some_run q key going (Hold j p ty n ∷ l) = go (eqb q.0 p.0) (some_run q key false l) (some_run q key going l)
  where
    go : (b : Bool) → 1 ≤ runs q.0 false (l ++ Free key q ∷ []) + 0 → 1 ≤ runs q.0 going (l ++ Free key q ∷ []) + cond going 1 0
        → 1 ≤ cond b (runs q.0 false (l ++ Free key q ∷ [])) (runs q.0 going (l ++ Free key q ∷ [])) + cond going 1 0
    go true r x = omega (arith, r)
    go false r x = x
some_run q key going (Free j p ∷ l) = go (eqb q.0 p.0) going (some_run q key going l)
  where
    go : (b : Bool) (g : Bool) → 1 ≤ runs q.0 g (l ++ Free key q ∷ []) + cond g 1 0 → 1 ≤ cond b (cond g 0 1 + runs q.0 true (l ++ Free key q ∷ [])) (runs q.0 g (l ++ Free key q ∷ [])) + cond g 1 0
    go true true x = omega arith
    go true false x = omega arith
    go false g x = x
some_run q key going (Retype j site ∷ l) = some_run q key going l
some_run q key going (Busy j pins ∷ l) = some_run q key going l
some_run q key going (WornType j ∷ l) = some_run q key going l
some_run q key going (Define j site ∷ l) = some_run q key going l
some_run q key going (WornDef j ∷ l) = some_run q key going l
some_run q key going (Call j p site args v ∷ l) = some_run q key going l

module _ (t : Table) (limit : ℕ) (names : List Name) (c : ℕ) (log : List Entry) (q : CallNo) (mine : KeyId) (start : List Entry) (began : Began c q mine start log)
    (same : (spot mine.0 log).redefs ≡ (spot mine.0 start).redefs) where
  -- a look of the call, behind those before it, which it holds
  record Near (look : Key) : Type 0 where
    pub name : Name
    pub named : place names name ≡ Some mine.0
    pub held : List Key
    pub others : List Key
    pub looks : every_look t (types_in t names log) name.0 (body_at t (spot mine.0 log).body) (type_of_key t log mine.0) ≡ held ++ look ∷ others
    pub holds : (p : Name) → Contains (map (name_of t) held) p → HoldsName names log (c, q.0) p

  near : (look : Key) → IsNextLook t names c q log look → Near look
  near look n =
      let one = one_began c q n.key mine n.start start log n.began began in
      let from : IsPrefix start n.had.at = subst (λ (l : List Entry). IsPrefix l n.had.at) one.1 n.had.from in
      let low = redefs_grow mine.0 start n.had.at from in
      let high = redefs_grow mine.0 n.had.at log n.had.to in
      let body : (spot mine.0 log).body ≡ (spot mine.0 n.had.at).body = redefs_same mine.0 n.had.at log n.had.to (omega (arith, low, high, same)) in
      let site : n.site ≡ (spot mine.0 log).body = n.had.is ∙ ap (λ (k : KeyId). (spot k.0 n.had.at).body) one.0 ∙ sym body in
      record {
        name = n.name;
        named = n.named ∙ ap (λ (k : KeyId). Some k.0) one.0;
        held = n.held;
        others = n.others;
        looks = ap (λ (o : Option BodySite). every_look t (types_in t names log) n.name.0 (body_at t o) (type_of_key t log mine.0)) (sym site)
            ∙ ap (λ (k : KeyId). every_look t (types_in t names log) n.name.0 (body_at t n.site) (type_of_key t log k.0)) (sym one.0)
            ∙ looks_defined t (types_in t names log) n.name.0 (body_at t n.site) (type_of_key t log n.key.0) n.body n.declared n.defined n.typed ∙ n.order;
        holds = n.holds;
      }

  -- two next looks are one, or one of them is held
  meets : (a b : Key) → Near a → Near b → (a ≡ b) ⊎ (HoldsName names log (c, q.0) (name_of t a) ⊎ HoldsName names log (c, q.0) (name_of t b))
  meets a b x y =
      let name : x.name ≡ y.name = place-apart names x.name y.name mine.0 x.named y.named in
      let lists : x.held ++ a ∷ x.others ≡ y.held ++ b ∷ y.others =
      sym x.looks ∙ ap (λ (n : Name). every_look t (types_in t names log) n.0 (body_at t (spot mine.0 log).body) (type_of_key t log mine.0)) name ∙ y.looks in
      elim (places (name_of t) a b x.held x.others y.held y.others lists) [
        | inl is ↦ inl is
        | inr (inl h) ↦ inr (inl (y.holds (name_of t a) h))
        | inr (inr h) ↦ inr (inr (x.holds (name_of t b) h))
      ]

  -- a call that is decided holds each of its looks
  decided_holds : (a : Key) (site : Option BodySite) (kinds : List Ty) (v : Verdict) → Near a → TakesAt t log mine.0 kinds → IsDecided t names log (c, q.0) mine.0 site kinds v
      → HoldsName names log (c, q.0) (name_of t a)
  decided_holds a site kinds v x taken d =
      let name : d.name ≡ x.name = place-apart names d.name x.name mine.0 d.is x.named in
      let T = types_in t names log in
      let all : looks_of t T d.name.0 (body_at t site) (type_of_key t log mine.0) kinds ≡ x.held ++ a ∷ x.others =
      ap (λ (o : Option BodySite). looks_of t T d.name.0 (body_at t o) (type_of_key t log mine.0) kinds) d.defined
      ∙ ap (λ (n : Name). looks_of t T n.0 (body_at t (spot mine.0 log).body) (type_of_key t log mine.0) kinds) name
      ∙ ap (λ (m : Option MethodTy). looks_of t T x.name.0 (body_at t (spot mine.0 log).body) m kinds) taken.1
      ∙ looks_taken t T x.name.0 (body_at t (spot mine.0 log).body) taken.0 kinds taken.2
      ∙ ap (λ (m : Option MethodTy). every_look t T x.name.0 (body_at t (spot mine.0 log).body) m) (sym taken.1)
      ∙ x.looks in
      d.held (name_of t a) (later_in d.name (name_of t a) (map (name_of t) (looks_of t T d.name.0 (body_at t site) (type_of_key t log mine.0) kinds))
      (subst (λ (l : List Key). Contains (map (name_of t) l) (name_of t a)) (sym all) (in_second (name_of t) a x.held x.others)))

  -- what is taken next is not held yet
  not_held : (key : KeyId) (ty : Option TypeSite) (n : ℕ) (look : Key) → place names (name_of t look) ≡ Some key.0 → FitsAct limit c (spot key.0 log) (Hold key q ty n) → HoldsName names log
      (c, q.0) (name_of t look) → ⊥
  not_held key ty n look is fits h =
      let at : h.0 ≡ key.0 = same_Some h.0 key.0 (sym h.1 ∙ is) in
      let one : times (c, q.0) (spot key.0 log).calls ≡ 1 = subst (λ (j : ℕ). times (c, q.0) (spot j log).calls ≡ 1) at h.2 in
      let none = fits.2 in
      omega (arith, one, none)

  -- a Hold of a call that has begun is that of its next look
  looks_next : (key : KeyId) (ty : Option TypeSite) (n : ℕ) → FitsHold t names c log (Hold key q ty n) → HoldsNext t names c q key log
  looks_next key ty n (inl none) = absurd (let held = began_holds c q mine start log began in
      let zero_held : times (c, q.0) (spot mine.0 log).calls ≡ 0 = held_stands c q.0 mine.0 log ∙ ap (count_of mine.0) none in omega (arith, held, zero_held))
  looks_next key ty n (inr h) = h

  -- a call that is not decided gives a key back where the list of names is full
  full_next : (key : KeyId) → (HasCall c q.0 log → ⊥) → (GivesUp c q log → ⊥) → FitsFree t names c log (Free key q) → IsFullRightly t names c q key log
  full_next key undecided goes_on (inl h) = absurd (undecided h)
  full_next key undecided goes_on (inr (inl r)) =
      let one = one_began c q r.first mine r.start start log r.began began in
      let some = some_run q key false (acts c r.began.since) in
      let few = r.few in
      let old : (spot r.first.0 r.start).redefs ≡ (spot mine.0 start).redefs = ap (λ (k : KeyId). (spot k.0 r.start).redefs) one.0 ∙ ap (λ (l : List Entry). (spot mine.0 l).redefs) one.1 in
      let new : (spot r.first.0 log).redefs ≡ (spot mine.0 log).redefs = ap (λ (k : KeyId). (spot k.0 log).redefs) one.0 in
      absurd (omega (arith, some, few, old, new, same))
  full_next key undecided goes_on (inr (inr (inl f))) = f
  full_next key undecided goes_on (inr (inr (inr g))) = absurd (goes_on g)

  no_place : (p : Name) → place names p ≡ None → HoldsName names log (c, q.0) p → ⊥
  no_place p none h = none-some h.0 (sym none ∙ h.1)

  call_call : (site site' : Option BodySite) (args : ArgKinds) (v w : Verdict) → IsDecided t names log (c, q.0) mine.0 site (kinds_of args) v
      → IsDecided t names log (c, q.0) mine.0 site' (kinds_of args) w → IsRightWay c [] mine.0 log v → IsRightWay c [] mine.0 log w
      → Call mine q site args v ≡ Call mine q site' args w
  call_call site site' args v w a b x y =
      let sites : site ≡ site' = a.defined ∙ sym b.defined in
      let name : a.name ≡ b.name = place-apart names a.name b.name mine.0 a.is b.is in
      let rules : as_fresh v ≡ as_fresh w =
      a.rules ∙ ap (λ (n : Name). verdict_in t names log n mine.0 site (kinds_of args)) name ∙ ap (λ (o : Option BodySite). verdict_in t names log b.name mine.0 o (kinds_of args)) sites
      ∙ sym b.rules in
      ap (λ (o : Option BodySite). Call mine q o args v) sites ∙ ap (λ (u : Verdict). Call mine q site' args u) (same_verdict c mine.0 log v w rules x y)

opened : (c : ℕ) (q : CallNo) (k : ℕ) (log : List Entry) (o : IsOpen c q.0 k log) → Began c q (record { 0 = k }) o.start log
opened c q k log o =
    let call : o.call ≡ q = (let e = o.number in λ i. record { 0 = e i }) in
    let key : o.key ≡ record { 0 = k } = (let e = o.key_is in λ i. record { 0 = e i }) in
    subst (λ (p : CallNo). Began c p (record { 0 = k }) o.start log) call (subst (λ (j : KeyId). Began c o.call j o.start log) key o.began)

-- ── two lists of names ──

pub shared_back : (names others : List Name) (a : Act) → IsShared names others a → IsShared others names a
shared_back names others (Free key q) h = tt
shared_back names others (Call key q site args v) h = tt
shared_back _ _ _ h = sym h

pub all_back : (names others : List Name) (l : List Act) → AreShared names others l → AreShared others names l
all_back names others [] h = tt
all_back names others (a ∷ l) h = (shared_back names others a h.0, all_back names others l h.1)

-- a name that both lists have at one place has this key in both
pub moves : (names others : List Name) (p : Name) (j : ℕ) → Differ others → slice_get names j ≡ slice_get others j → place names p ≡ Some j → place others p ≡ Some j
moves names others p j differ same e = place-one others p j differ (sym same ∙ place-at names p j e)

-- nobody holds the key, and it has no type
abbrev IsIdle : Spot → Type 0
IsIdle s = (s.calls ≡ []) × (s.ty ≡ None)

idle_or : (names others : List Name) (j : ℕ) (s : Spot) (log : List Entry) → IsIdle s → AreShared names others (map (λ e. e.act) log) → (slice_get names j ≡ slice_get others j) ⊎ IsIdle
    (spot_from j s log)
idle_or names others j s [] i h = inr i
idle_or names others j s (e ∷ log) i h = one e.act h.0 i (λ s i. idle_or names others j s log i h.1)
  where
    at : (k : ℕ) (x : Spot) → slice_get names k ≡ slice_get others k → ((s : Spot) → IsIdle s → (slice_get names j ≡ slice_get others j) ⊎ IsIdle (spot_from j s log)) → IsIdle s
        → (slice_get names j ≡ slice_get others j) ⊎ IsIdle (spot_from j (cond (eqb j k) x s) log)
    at k x same more i = elim (eqb_tells j k) as (λ z. (slice_get names j ≡ slice_get others j) ⊎ IsIdle (spot_from j (cond (eqb j k) x s) log)) [
      | inl is ↦ inl (subst (λ n. slice_get names n ≡ slice_get others n) (sym is.1) same)
      | inr not ↦ subst (λ b. (slice_get names j ≡ slice_get others j) ⊎ IsIdle (spot_from j (cond b x s) log)) (sym not.0) (more s i)
    ]

    still : (b : Bool) (x : Spot) → IsIdle x → ((s : Spot) → IsIdle s → (slice_get names j ≡ slice_get others j) ⊎ IsIdle (spot_from j s log)) → IsIdle s
        → (slice_get names j ≡ slice_get others j) ⊎ IsIdle (spot_from j (cond b x s) log)
    still true x idle more i = more x idle
    still false x idle more i = more s i

    one : (a : Act) → IsShared names others a → IsIdle s → ((s : Spot) → IsIdle s → (slice_get names j ≡ slice_get others j) ⊎ IsIdle (spot_from j s log))
        → (slice_get names j ≡ slice_get others j) ⊎ IsIdle (spot_from j (cond (eqb j (key_of a)) (done e.caller.0 s a) s) log)
    one (Hold key q ty n) same i more = at key.0 _ same more i
    one (Free key q) same i more = still (eqb j key.0) _ (ap (without (e.caller.0, q.0)) i.0, i.1) more i
    one (Retype key site) same i more = at key.0 _ same more i
    one (Busy key pins) same i more = at key.0 _ same more i
    one (WornType key) same i more = at key.0 _ same more i
    one (Define key site) same i more = at key.0 _ same more i
    one (WornDef key) same i more = at key.0 _ same more i
    one (Call key q site args v) same i more = still (eqb j key.0) s i more i

module _ (t : Table) (names others : List Name) (differ : Differ names) (differ' : Differ others) (log : List Entry) (shared : AreShared names others (map (λ e. e.act) log)) where
  pub held_shared : (x : ℕ × ℕ) (j : ℕ) → 1 ≤ times x (spot j log).calls → slice_get names j ≡ slice_get others j
  held_shared x j held = elim (idle_or names others j blank log (refl, refl) shared) [
    | inl same ↦ same
    | inr idle ↦ absurd (let none = ap (times x) idle.0 in omega (arith, held, none))
  ]

  sites : (p : Name) (o u : Option ℕ) → place names p ≡ o → place others p ≡ u → site_in log o ≡ site_in log u
  sites p None None e f = refl
  sites p None (Some j) e f = elim (idle_or names others j blank log (refl, refl) shared) [
    | inl same ↦ absurd (none-some j (sym e ∙ moves others names p j differ (sym same) f))
    | inr idle ↦ sym (ap (option_map (λ (s : TypeSite). s.0)) idle.1)
  ]
  sites p (Some k) None e f = elim (idle_or names others k blank log (refl, refl) shared) [
    | inl same ↦ absurd (none-some k (sym f ∙ moves names others p k differ' same e))
    | inr idle ↦ ap (option_map (λ (s : TypeSite). s.0)) idle.1
  ]
  sites p (Some k) (Some j) e f = elim (idle_or names others k blank log (refl, refl) shared) [
    | inl same ↦ ap (site_in log) (sym (moves names others p k differ' same e) ∙ f)
    | inr idle ↦ elim (idle_or names others j blank log (refl, refl) shared) [
      | inl same ↦ ap (site_in log) (sym e ∙ moves others names p j differ (sym same) f)
      | inr other ↦ ap (option_map (λ (s : TypeSite). s.0)) idle.1 ∙ sym (ap (option_map (λ (s : TypeSite). s.0)) other.1)
    ]
  ]

  -- methods have the same types by both lists
  types_one : types_in t names log ≡ types_in t others log
  types_one i key = type_at (sites_of t) (sites (name_of t key) (place names (name_of t key)) (place others (name_of t key)) refl refl i)

  pub holds_moved : (x : ℕ × ℕ) (p : Name) → HoldsName names log x p → HoldsName others log x p
  holds_moved x p h = (let one = h.2 in (h.0, moves names others p h.0 differ' (held_shared x h.0 (omega (arith, one))) h.1, h.2))

  next_moved : (c : ℕ) (q : CallNo) (look : Key) → IsNextLook t names c q log look → IsNextLook t others c q log look
  next_moved c q look n = record {
    key = n.key;
    start = n.start;
    began = n.began;
    name = n.name;
    named = moves names others n.name n.key.0 differ' (held_shared (c, q.0) n.key.0 (began_holds c q n.key n.start log n.began)) n.named;
    site = n.site;
    had = n.had;
    body = n.body;
    defined = n.defined;
    declared = n.declared;
    typed = n.typed;
    held = n.held;
    others = n.others;
    order = ap (λ (T : Types). looks T (subject t n.name.0 n.body n.declared)) (sym types_one) ∙ n.order;
    holds = λ p i. holds_moved (c, q.0) p (n.holds p i);
  }

  decided_moved : (c : ℕ) (q : CallNo) (key : ℕ) (site : Option BodySite) (kinds : List Ty) (v : Verdict) → 1 ≤ times (c, q.0) (spot key log).calls → IsDecided t names log (c, q.0) key site kinds v
      → IsDecided t others log (c, q.0) key site kinds v
  decided_moved c q key site kinds v held d =
      let needs : needs_in t names log d.name key site kinds ≡ needs_in t others log d.name key site kinds =
      ap (λ (T : Types). d.name ∷ map (name_of t) (looks_of t T d.name.0 (body_at t site) (type_of_key t log key) kinds)) types_one in
      record {
        name = d.name;
        is = moves names others d.name key differ' (held_shared (c, q.0) key held) d.is;
        defined = d.defined;
        rules = d.rules ∙ ap (λ (T : Types). verdict_of t T d.name.0 (body_at t site) (type_of_key t log key) kinds) types_one;
        held = λ p i. holds_moved (c, q.0) p (d.held p (subst (λ (l : List Name). Contains l p) (sym needs) i));
        only = λ j one. let o = d.only j one in (o.0, subst (λ (l : List Name). Contains l o.0) needs o.1, moves names others o.0 j differ' (held_shared (c, q.0) j (omega (arith, one))) o.2);
      }

module _ (t : Table) (limit : ℕ) (names others : List Name) (differ : Differ names) (differ' : Differ others) (c : ℕ) (log : List Entry) (shared : AreShared names others (map (λ e. e.act) log))
    (q : CallNo) (mine : KeyId) (start : List Entry) (began : Began c q mine start log) (same : (spot mine.0 log).redefs ≡ (spot mine.0 start).redefs) where
  held_here : 1 ≤ times (c, q.0) (spot mine.0 log).calls
  held_here = began_holds c q mine start log began

  back : AreShared others names (map (λ e. e.act) log)
  back = all_back names others (map (λ e. e.act) log) shared

  -- next looks by the two lists are one, or one of them is held
  meet_looks : (a b : Key) → IsNextLook t names c q log a → IsNextLook t others c q log b → (a ≡ b) ⊎ (HoldsName names log (c, q.0) (name_of t a) ⊎ HoldsName others log (c, q.0) (name_of t b))
  meet_looks a b x y = elim (meets t limit names c log q mine start began same a b (near t limit names c log q mine start began same a x)
      (near t limit names c log q mine start began same b (next_moved t others names differ' differ log back c q b y))) [
        | inl is ↦ inl is
        | inr (inl h) ↦ inr (inl h)
        | inr (inr h) ↦ inr (inr (holds_moved t names others differ differ' log shared (c, q.0) (name_of t b) h))
      ]

  pub hold_hold : (key other : KeyId) (ty ty' : Option TypeSite) (n n' : ℕ) → Meet names others (Hold key q ty n) (Hold other q ty' n') → HoldsNext t names c q key log
      → HoldsNext t others c q other log
      → FitsAct limit c (spot key.0 log) (Hold key q ty n) → FitsAct limit c (spot other.0 log) (Hold other q ty' n')
      → (Hold key q ty n ≡ Hold other q ty' n') × (slice_get names key.0 ≡ slice_get others key.0)
  hold_hold key other ty ty' n n' meet a b x y = elim (meet_looks a.look b.look a.next b.next) [
    | inl is ↦ (
        let there : place others (name_of t a.look) ≡ Some other.0 = ap (λ (l : Key). place others (name_of t l)) is ∙ b.is in
        let e : key.0 ≡ other.0 = meet (name_of t a.look) key.0 other.0 a.is there refl refl in (
          hold_one limit c log q key other ty ty' n n' (λ i. record { 0 = e i }) x y,
          place-at names (name_of t a.look) key.0 a.is ∙ sym (place-at others (name_of t a.look) key.0 (there ∙ ap Some (sym e))),
        ))
    | inr (inl h) ↦ absurd (not_held t limit names c log q mine start began same key ty n a.look a.is x h)
    | inr (inr h) ↦ absurd (not_held t limit others c log q mine start began same other ty' n' b.look b.is y h)
  ]

  -- the key that is given back is the call's own
  pub own_free : (key : KeyId) → IsFullRightly t names c q key log → key ≡ mine
  own_free key f = sym f.own ∙ (one_began c q f.next.key mine f.next.start start log f.next.began began).0

  pub free_hold : (key other : KeyId) (ty : Option TypeSite) (n : ℕ) → length names ≤ NAMES_MAX → ((p : Name) → IsFull names p → place others p ≡ Some other.0 → ⊥) → IsFullRightly t names c q key log
      → HoldsNext t others c q other log → FitsAct limit c (spot other.0 log) (Hold other q ty n) → ⊥
  free_hold key other ty n few never f b x = elim (meet_looks f.look b.look f.next b.next) [
    | inl is ↦ never (name_of t f.look) (f.full few) (ap (λ (l : Key). place others (name_of t l)) is ∙ b.is)
    | inr (inl h) ↦ no_place t limit names c log q mine start began same (name_of t f.look) (f.full few).1 h
    | inr (inr h) ↦ not_held t limit others c log q mine start began same other ty n b.look b.is x h
  ]

  decided_here : (site : Option BodySite) (kinds : List Ty) (v : Verdict) → IsDecided t others log (c, q.0) mine.0 site kinds v → IsDecided t names log (c, q.0) mine.0 site kinds v
  decided_here site kinds v d = decided_moved t others names differ' differ log back c q mine.0 site kinds v held_here d

  pub hold_call : (key : KeyId) (ty : Option TypeSite) (n : ℕ) (site : Option BodySite) (kinds : List Ty) (v : Verdict) → HoldsNext t names c q key log → TakesAt t log mine.0 kinds
      → FitsAct limit c (spot key.0 log) (Hold key q ty n) → IsDecided t others log (c, q.0) mine.0 site kinds v → ⊥
  hold_call key ty n site kinds v a taken x d = not_held t limit names c log q mine start began same key ty n a.look a.is x
      (decided_holds t limit names c log q mine start began same a.look site kinds v (near t limit names c log q mine start began same a.look a.next) taken (decided_here site kinds v d))

  pub free_call : (key : KeyId) (site : Option BodySite) (kinds : List Ty) (v : Verdict) → length names ≤ NAMES_MAX → IsFullRightly t names c q key log → TakesAt t log mine.0 kinds
      → IsDecided t others log (c, q.0) mine.0 site kinds v → ⊥
  free_call key site kinds v few f taken d = no_place t limit names c log q mine start began same (name_of t f.look) (f.full few).1
      (decided_holds t limit names c log q mine start began same f.look site kinds v (near t limit names c log q mine start began same f.look f.next) taken (decided_here site kinds v d))

  pub two_calls_one : (site site' : Option BodySite) (args : ArgKinds) (v w : Verdict) → IsDecided t names log (c, q.0) mine.0 site (kinds_of args) v
      → IsDecided t others log (c, q.0) mine.0 site' (kinds_of args) w → IsRightWay c [] mine.0 log v → IsRightWay c [] mine.0 log w
      → Call mine q site args v ≡ Call mine q site' args w
  two_calls_one site site' args v w a b x y = call_call t limit names c log q mine start began same site site' args v w a (decided_here site' (kinds_of args) w b) x y

pub defines_key : (k s : ℕ) (a : Act) → Answers (Defines k s) a → HasKey k a
defines_key _ _ _ (Defined key site) = refl
defines_key _ _ _ (Undefined s key) = refl

pub declares_key : (k s : ℕ) (a : Act) → Answers (Declares k s) a → HasKey k a
declares_key _ _ _ (Retyped key site) = refl
declares_key _ _ _ (Held s key pins) = refl
declares_key _ _ _ (Worn s key) = refl

starts_key : (q k : ℕ) (a : Act) → Answers (Starts q k) a → HasKey k a
starts_key _ _ _ (Started q key ty n) = refl

-- an act by a key that is one name's in both lists
shared_key : (names others : List Name) (p : Name) (k : ℕ) (a : Act) → place names p ≡ Some k → place others p ≡ Some k → HasKey k a → IsShared names others a
shared_key names others p k a e f has = go a (place-at names p k e ∙ sym (place-at others p k f)) has
  where
    one : (j : ℕ) → slice_get names k ≡ slice_get others k → j ≡ k → slice_get names j ≡ slice_get others j
    one j same is = subst (λ n. slice_get names n ≡ slice_get others n) (sym is) same

    go : (a : Act) → slice_get names k ≡ slice_get others k → HasKey k a → IsShared names others a
    go (Hold key q ty n) same is = one key.0 same is
    go (Free key q) same is = tt
    go (Retype key site) same is = one key.0 same is
    go (Busy key pins) same is = one key.0 same is
    go (WornType key) same is = one key.0 same is
    go (Define key site) same is = one key.0 same is
    go (WornDef key) same is = one key.0 same is
    go (Call key q site args v) same is = tt

module _ (t : Table) (limit : ℕ) (names others : List Name) (differ : Differ names) (differ' : Differ others) (c : ℕ) (log : List Entry) (shared : AreShared names others (map (λ e. e.act) log)) where
  goes_one : (q k : ℕ) (kinds : List Ty) (a b : Act) → Answers (Goes q k kinds) a → Answers (Goes q k kinds) b → IsOpen c q k log → length names ≤ NAMES_MAX → length others ≤ NAMES_MAX
      → Meet names others a b → NotFull names others (Goes q k kinds) a b → NotFull others names (Goes q k kinds) b a
      → FitsAct limit c (spot (key_of a) log) a → FitsAct limit c (spot (key_of b) log) b → FitsRules t names c log a → FitsRules t others c log b → EntersBy c [] log a → EntersBy c [] log b
      → FitsArguments t log (Goes q k kinds) a → FitsArguments t log (Goes q k kinds) b → (a ≡ b) × IsShared names others a
  goes_one _ _ _ _ _ (Looked k kinds q key ty n) (Looked _ _ _ other ty' n') o few few' meet stays stays' f g r s va vb x y =
      let mine : KeyId = record { 0 = k } in let b = opened c q k log o in
      hold_hold t limit names others differ differ' c log shared q mine o.start b o.same key other ty ty' n n' meet (looks_next t limit names c log q mine o.start b o.same key ty n r.hold)
      (looks_next t limit others c log q mine o.start b o.same other ty' n' s.hold) f g
  goes_one _ _ _ _ _ (Looked k kinds q key ty n) (GaveBack _ _ _ other) o few few' meet stays stays' f g r s va vb x y =
      let mine : KeyId = record { 0 = k } in let b = opened c q k log o in
      let full = full_next t limit others c log q mine o.start b o.same other o.undecided (o.goes_on q refl) s.free in
      let own = ap (λ (j : KeyId). j.0) (own_free t limit others names differ' differ c log (all_back names others (map (λ e. e.act) log) shared) q mine o.start b o.same other full) in
      absurd (free_hold t limit others names differ' differ c log (all_back names others (map (λ e. e.act) log) shared) q mine o.start b o.same other key ty n few' (stays' own) full
      (looks_next t limit names c log q mine o.start b o.same key ty n r.hold) f)
  goes_one _ _ _ _ _ (Looked k kinds q key ty n) (Decided _ args _ mine site v e) o few few' meet stays stays' f g r s va vb x y =
      let b = opened c q mine.0 log o in
      absurd (hold_call t limit names others differ differ' c log shared q mine o.start b o.same key ty n site kinds v (looks_next t limit names c log q mine o.start b o.same key ty n r.hold) x f
      (subst (λ (ks : List Ty). IsDecided t others log (c, q.0) mine.0 site ks v) e s.row.0))
  goes_one _ _ _ _ _ (GaveBack k kinds q key) (Looked _ _ _ other ty n) o few few' meet stays stays' f g r s va vb x y =
      let mine : KeyId = record { 0 = k } in let b = opened c q k log o in
      let full = full_next t limit names c log q mine o.start b o.same key o.undecided (o.goes_on q refl) r.free in
      let own = ap (λ (j : KeyId). j.0) (own_free t limit names others differ differ' c log shared q mine o.start b o.same key full) in
      absurd (free_hold t limit names others differ differ' c log shared q mine o.start b o.same key other ty n few (stays own) full
      (looks_next t limit others c log q mine o.start b o.same other ty n s.hold) g)
  goes_one _ _ _ _ _ (GaveBack k kinds q key) (GaveBack _ _ _ other) o few few' meet stays stays' f g r s va vb x y =
      let mine : KeyId = record { 0 = k } in let b = opened c q k log o in
      let one = own_free t limit names others differ differ' c log shared q mine o.start b o.same key
      (full_next t limit names c log q mine o.start b o.same key o.undecided (o.goes_on q refl) r.free) in
      let two = own_free t limit others names differ' differ c log (all_back names others (map (λ e. e.act) log) shared) q mine o.start b o.same other
      (full_next t limit others c log q mine o.start b o.same other o.undecided (o.goes_on q refl) s.free) in
      (ap (λ (j : KeyId). Free j q) (one ∙ sym two), tt)
  goes_one _ _ _ _ _ (GaveBack k kinds q key) (Decided _ args _ mine site v e) o few few' meet stays stays' f g r s va vb x y =
      let b = opened c q mine.0 log o in
      absurd (free_call t limit names others differ differ' c log shared q mine o.start b o.same key site kinds v few
      (full_next t limit names c log q mine o.start b o.same key o.undecided (o.goes_on q refl) r.free) x
      (subst (λ (ks : List Ty). IsDecided t others log (c, q.0) mine.0 site ks v) e s.row.0))
  goes_one _ _ _ _ _ (Decided kinds args q mine site v e) (Looked _ _ _ key ty n) o few few' meet stays stays' f g r s va vb x y =
      let b = opened c q mine.0 log o in
      absurd (hold_call t limit others names differ' differ c log (all_back names others (map (λ e. e.act) log) shared) q mine o.start b o.same key ty n site kinds v
      (looks_next t limit others c log q mine o.start b o.same key ty n s.hold) y g
      (subst (λ (ks : List Ty). IsDecided t names log (c, q.0) mine.0 site ks v) e r.row.0))
  goes_one _ _ _ _ _ (Decided kinds args q mine site v e) (GaveBack _ _ _ key) o few few' meet stays stays' f g r s va vb x y =
      let b = opened c q mine.0 log o in
      absurd (free_call t limit others names differ' differ c log (all_back names others (map (λ e. e.act) log) shared) q mine o.start b o.same key site kinds v few'
      (full_next t limit others c log q mine o.start b o.same key o.undecided (o.goes_on q refl) s.free) y
      (subst (λ (ks : List Ty). IsDecided t names log (c, q.0) mine.0 site ks v) e r.row.0))
  goes_one _ _ _ _ _ (Decided kinds args q mine site v e) (Decided _ other _ _ site' w e') o few few' meet stays stays' f g r s va vb x y =
      let args_are : args ≡ other = r.row.1 ∙ ap fill (e ∙ sym e') ∙ sym s.row.1 in (
        ap (λ (a : ArgKinds). Call mine q site a v) args_are
            ∙ two_calls_one t limit names others differ differ' c log shared q mine o.start (opened c q mine.0 log o) o.same site site' other v w
            (subst (λ (a : ArgKinds). IsDecided t names log (c, q.0) mine.0 site (kinds_of a) v) args_are r.row.0) s.row.0 va vb,
        tt,
      )

  ends_shared : (q k : ℕ) (a : Act) → Answers (Ends q k) a → IsShared names others a
  ends_shared _ _ _ (Ended q key) = tt

  pub one_answer : (u v : Question) (a b : Act) → AsksOne names others u v → IsAsked c log u → Meet names others a b → NotFull names others u a b → NotFull others names v b a
      → IsAnswer t limit names c log u a → IsAnswer t limit others c log v b → FitsArguments t log u a → FitsArguments t log v b → (a ≡ b) × IsShared names others a
  one_answer _ _ a b (DefineOne p k j s e f) asked meet stays stays' x y fa fb =
      let has = defines_key k s a x.answers in
      let one : k ≡ j = meet p k j e f has (defines_key j s b y.answers) in
      (define_one limit c log k s a b x.answers (subst (λ n. Answers (Defines n s) b) (sym one) y.answers) x.fits y.fits, shared_key names others p k a e (f ∙ ap Some (sym one)) has)
  one_answer _ _ a b (DeclareOne p k j s e f) asked meet stays stays' x y fa fb =
      let has = declares_key k s a x.answers in
      let one : k ≡ j = meet p k j e f has (declares_key j s b y.answers) in
      (declare_one limit c log k s a b x.answers (subst (λ n. Answers (Declares n s) b) (sym one) y.answers) x.fits y.fits, shared_key names others p k a e (f ∙ ap Some (sym one)) has)
  one_answer _ _ a b (StartOne p k j q e f) asked meet stays stays' x y fa fb =
      let has = starts_key q k a x.answers in
      let one : k ≡ j = meet p k j e f has (starts_key q j b y.answers) in
      (start_one limit c log q k a b x.answers (subst (λ n. Answers (Starts q n) b) (sym one) y.answers) x.fits y.fits, shared_key names others p k a e (f ∙ ap Some (sym one)) has)
  one_answer _ _ a b (GoOne q k kinds) asked meet stays stays' x y fa fb =
      goes_one q k kinds a b x.answers y.answers asked x.few y.few meet stays stays' x.fits y.fits x.rules y.rules x.way y.way fa fb
  one_answer _ _ a b (EndOne q k) asked meet stays stays' x y fa fb = (end_one q k a b x.answers y.answers, ends_shared q k a x.answers)
