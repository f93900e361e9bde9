-- Two readings of a call's acts, which are the same up to a place.
use Rattle.std.proofs.Common.{◌≡◌, ◌⊎◌, inl, inr, ℕ, suc, ◌+◌, ◌<◌, ◌≤◌, Bool, true, false, List, [], ◌∷◌, ◌++◌, Option, Some, None, refl}
use Rattle.std.proofs.Common.{sym, ap, ◌∙◌, subst, arith, append_assoc, nat_eq, cond, eqb, eq-eqb}
use Rattle.std.specs.Prelude.{if◌then◌else◌, ◌&&◌}
use Rattle.std.specs.List.{AllByRecursion}
use Rattle.std.proofs.lemmas.Bool.{eqb-true}
use Rattle.std.proofs.lemmas.List.{append-nil}
use Rattle.hb_types.specs.declared.ids.CallNo.{CallNo}
use Rattle.hb_types.specs.declared.ids.KeyId.{KeyId}
use Rattle.hb_types.specs.declared.ids.BodySite.{BodySite}
use Rattle.hb_types.specs.declared.ids.TypeSite.{TypeSite}
use Rattle.hb_types.specs.declared.types.Ty.{Ty}
use Rattle.hb_deriv.proofs.JudgementLemmas.{and_both}
use Rattle.hb_tree.specs.Table.{Table}
use Rattle.hb_tables.specs.declared.entry.Act.{Act}
use Rattle.hb_tables.specs.declared.entry.Act.TheVariants.{Hold, Free, Retype, Busy, WornType, Define, WornDef, Call}
use Rattle.hb_tables.specs.declared.entry.ArgKinds.{ArgKinds}
use Rattle.hb_tables.specs.declared.entry.Verdict.{Verdict}
use Rattle.hb_tables.specs.declared.entry.Verdict.TheVariants as verdict
use Rattle.hb_tables.specs.Standing.{Stand, all_but, count_of}
use Rattle.hb_tables.specs.Rows.{kinds_of}
use Rattle.hb_tables.proofs.StandingLemmas.{count_but, count_last}
use Rattle.hb_call.specs.Reading.{takes_at, Read, Called, FullAt, Lost as NoCall, freed, refused_at, full_at, called, same_kinds, decision, call_of}
use Rattle.hb_sound.proofs.ReadLemmas.{kinds_same}
use Rattle.hb_ordered.specs.Asking.{Question, Starts, Goes, Ends, Answers, Started, Looked, GaveBack, Decided, Ended}
use Rattle.hb_ordered.specs.Parting.{AreFrees, GoesPast, IsPast, first_takes, IsBelow, IsWithin, IsSoFar}
use Rattle.hb_ordered.specs.Sharing.{IsOwnFree}

-- the answer to a question, by the numbers of its act
pub starts : (q k : ℕ) (p : CallNo) (key : KeyId) (ty : Option TypeSite) (n : ℕ) → p.0 ≡ q → key.0 ≡ k → Answers (Starts q k) (Hold key p ty n)
starts q k p key ty n e f = subst (λ x. Answers (Starts x k) (Hold key p ty n)) e (subst (λ x. Answers (Starts p.0 x) (Hold key p ty n)) f (Started p key ty n))

pub looked : (q k : ℕ) (kinds : List Ty) (p : CallNo) (key : KeyId) (ty : Option TypeSite) (n : ℕ) → p.0 ≡ q → Answers (Goes q k kinds) (Hold key p ty n)
looked q k kinds p key ty n e = subst (λ x. Answers (Goes x k kinds) (Hold key p ty n)) e (Looked k kinds p key ty n)

pub gave_back : (q k : ℕ) (kinds : List Ty) (p : CallNo) (key : KeyId) → p.0 ≡ q → Answers (Goes q k kinds) (Free key p)
gave_back q k kinds p key e = subst (λ x. Answers (Goes x k kinds) (Free key p)) e (GaveBack k kinds p key)

pub decided_by : (q k : ℕ) (kinds : List Ty) (p : CallNo) (key : KeyId) (site : Option BodySite) (args : ArgKinds) (v : Verdict) → p.0 ≡ q → key.0 ≡ k → kinds_of args ≡ kinds
    → Answers (Goes q k kinds) (Call key p site args v)
decided_by q k kinds p key site args v e f g = subst (λ x. Answers (Goes x k kinds) (Call key p site args v)) e
    (subst (λ x. Answers (Goes p.0 x kinds) (Call key p site args v)) f (Decided kinds args p key site v g))

pub ended : (q k : ℕ) (p : CallNo) (key : KeyId) → p.0 ≡ q → key.0 ≡ k → Answers (Ends q k) (Free key p)
ended q k p key e f = subst (λ x. Answers (Ends x k) (Free key p)) e (subst (λ x. Answers (Ends p.0 x) (Free key p)) f (Ended p key))

-- ── acts of calls below a number ──

pub all_both : (P : Act → Type 0) (l m : List Act) → AllByRecursion P l → AllByRecursion P m → AllByRecursion P (l ++ m)
all_both P [] m h k = k
all_both P (a ∷ l) m h k = (h.0, all_both P l m h.1 k)

pub below_more : (n m : ℕ) (l : List Act) → n ≤ m → AllByRecursion (IsBelow n) l → AllByRecursion (IsBelow m) l
below_more n m [] le h = tt
below_more n m (Hold j p ty k ∷ l) le h = (let a = h.0 in omega (arith, le, a), below_more n m l le h.1)
below_more n m (Free j p ∷ l) le h = (let a = h.0 in omega (arith, le, a), below_more n m l le h.1)
below_more n m (Call j p site args v ∷ l) le h = (let a = h.0 in omega (arith, le, a), below_more n m l le h.1)
below_more n m (Retype j site ∷ l) le h = (tt, below_more n m l le h.1)
below_more n m (Busy j pins ∷ l) le h = (tt, below_more n m l le h.1)
below_more n m (WornType j ∷ l) le h = (tt, below_more n m l le h.1)
below_more n m (Define j site ∷ l) le h = (tt, below_more n m l le h.1)
below_more n m (WornDef j ∷ l) le h = (tt, below_more n m l le h.1)

-- ── one reading ──

-- the rest of what is read stands behind this
unfoldable pub Behind : List Act → Option (List Act) → Type 0
Behind m None = Unit {0}
Behind m (Some rest) = (x : List Act) × (m ≡ x ++ rest)

unfoldable pub Leaves : List Act → Read → Type 0
Leaves m NoCall = Unit {0}
Leaves m (FullAt rest) = (x : List Act) × (m ≡ x ++ rest)
Leaves m (Called site v held rest) = (x : List Act) × (m ≡ x ++ rest)

behind_more : (a : Act) (m : List Act) (o : Option (List Act)) → Behind m o → Behind (a ∷ m) o
unfolding Behind
behind_more a m None h = tt
behind_more a m (Some rest) h = (a ∷ h.0, ap (λ l. a ∷ l) h.1)

leaves_more : (a : Act) (m : List Act) (r : Read) → Leaves m r → Leaves (a ∷ m) r
unfolding Leaves
leaves_more a m NoCall h = tt
leaves_more a m (FullAt rest) h = (a ∷ h.0, ap (λ l. a ∷ l) h.1)
leaves_more a m (Called site v held rest) h = (a ∷ h.0, ap (λ l. a ∷ l) h.1)

leaves_if : (m : List Act) (b : Bool) (x y : Read) → Leaves m x → Leaves m y → Leaves m (if b then x else y)
leaves_if m true x y h k = h
leaves_if m false x y h k = k

pub freed_behind : (q : ℕ) (hs : List Stand) (l : List Act) → Behind l (freed q hs l)
unfolding Behind
freed_behind q [] l = ([], refl)
freed_behind q (h ∷ hs) [] = tt
freed_behind q (h ∷ hs) (Free key p ∷ l) = go (nat_eq p.0 q && nat_eq key.0 h.key) (freed_behind q hs l)
  where
    go : (b : Bool) → Behind l (freed q hs l) → Behind (Free key p ∷ l) (if b then freed q hs l else None)
    go true r = behind_more (Free key p) l (freed q hs l) r
    go false r = tt
freed_behind q (h ∷ hs) (Hold key p ty n ∷ l) = tt
freed_behind q (h ∷ hs) (Call key p site args v ∷ l) = tt
freed_behind q (h ∷ hs) (Retype key site ∷ l) = tt
freed_behind q (h ∷ hs) (Busy key pins ∷ l) = tt
freed_behind q (h ∷ hs) (WornType key ∷ l) = tt
freed_behind q (h ∷ hs) (Define key site ∷ l) = tt
freed_behind q (h ∷ hs) (WornDef key ∷ l) = tt

full_leaves : (m : List Act) (o : Option (List Act)) → Behind m o → Leaves m (full_at o)
unfolding Behind Leaves
full_leaves m None h = tt
full_leaves m (Some rest) h = h

refused_leaves : (m : List Act) (site : Option BodySite) (v : Verdict) (o : Option (List Act)) → Behind m o → Leaves m (refused_at site v o)
unfolding Behind Leaves
refused_leaves m site v None h = tt
refused_leaves m site v (Some rest) h = h

called_leaves : (q : ℕ) (site : Option BodySite) (v : Verdict) (held : List Stand) (m : List Act) → Leaves m (called q site v held m)
unfolding Leaves
called_leaves q site (verdict.Enter way) held m = ([], refl)
called_leaves q site verdict.NoBody held m = refused_leaves m site verdict.NoBody (freed q held m) (freed_behind q held m)
called_leaves q site verdict.NoType held m = refused_leaves m site verdict.NoType (freed q held m) (freed_behind q held m)
called_leaves q site verdict.BadArgs held m = refused_leaves m site verdict.BadArgs (freed q held m) (freed_behind q held m)
called_leaves q site (verdict.IllTyped f) held m = refused_leaves m site (verdict.IllTyped f) (freed q held m) (freed_behind q held m)

decision_leaves : (fits : Bool) (q k : ℕ) (kinds : List Ty) (held : List Stand) (l : List Act) → Leaves l (decision fits q k kinds held l)
unfolding Leaves
decision_leaves fits q k kinds held [] = tt
decision_leaves fits q k kinds held (Hold j p ty n ∷ l) = leaves_if (Hold j p ty n ∷ l) (fits && nat_eq p.0 q) _ NoCall
    (leaves_more (Hold j p ty n) l _ (decision_leaves fits q k kinds (held ++ record { key = j.0; ty = ty; changes = n } ∷ []) l)) tt
decision_leaves fits q k kinds held (Free j p ∷ l) = leaves_if (Free j p ∷ l) (fits && nat_eq p.0 q) _ NoCall
    (leaves_if (Free j p ∷ l) (nat_eq j.0 k) _ _ (full_leaves (Free j p ∷ l) (freed q held (Free j p ∷ l)) (freed_behind q held (Free j p ∷ l)))
    (leaves_more (Free j p) l _ (decision_leaves fits q k kinds (all_but j.0 held) l))) tt
decision_leaves fits q k kinds held (Call j p site args v ∷ l) = leaves_if (Call j p site args v ∷ l) (nat_eq p.0 q && nat_eq j.0 k && same_kinds kinds (kinds_of args))
    (called q site v held l) NoCall (leaves_more (Call j p site args v) l _ (called_leaves q site v held l)) tt
decision_leaves fits q k kinds held (Retype j site ∷ l) = tt
decision_leaves fits q k kinds held (Busy j pins ∷ l) = tt
decision_leaves fits q k kinds held (WornType j ∷ l) = tt
decision_leaves fits q k kinds held (Define j site ∷ l) = tt
decision_leaves fits q k kinds held (WornDef j ∷ l) = tt

-- ── a call that finds the list of names full ──

-- Frees are read, up to the rest
unfoldable pub FreesTo : List Act → Option (List Act) → Type 0
FreesTo l None = Unit {0}
FreesTo l (Some rest) = (fs : List Act) × AreFrees fs × (l ≡ fs ++ rest)

pub freed_frees : (q : ℕ) (hs : List Stand) (l : List Act) → FreesTo l (freed q hs l)
unfolding FreesTo
freed_frees q [] l = ([], tt, refl)
freed_frees q (h ∷ hs) [] = tt
freed_frees q (h ∷ hs) (Free key p ∷ l) = go (nat_eq p.0 q && nat_eq key.0 h.key) (freed q hs l) (freed_frees q hs l)
  where
    go : (b : Bool) (o : Option (List Act)) → FreesTo l o → FreesTo (Free key p ∷ l) (if b then o else None)
    go true None r = tt
    go true (Some rest) r = (Free key p ∷ r.0, r.1, ap (λ m. Free key p ∷ m) r.2)
    go false o r = tt
freed_frees q (h ∷ hs) (Hold key p ty n ∷ l) = tt
freed_frees q (h ∷ hs) (Call key p site args v ∷ l) = tt
freed_frees q (h ∷ hs) (Retype key site ∷ l) = tt
freed_frees q (h ∷ hs) (Busy key pins ∷ l) = tt
freed_frees q (h ∷ hs) (WornType key ∷ l) = tt
freed_frees q (h ∷ hs) (Define key site ∷ l) = tt
freed_frees q (h ∷ hs) (WornDef key ∷ l) = tt

-- there is no call, or it is Full behind Frees
unfoldable pub FullRead : List Act → Read → Type 0
FullRead l NoCall = Unit {0}
FullRead l (FullAt rest) = (fs : List Act) × AreFrees fs × (l ≡ fs ++ rest)
FullRead l (Called site v held rest) = ⊥

full_frees : (l : List Act) (o : Option (List Act)) → FreesTo l o → FullRead l (full_at o)
unfolding FreesTo FullRead
full_frees l None h = tt
full_frees l (Some rest) h = h

-- a Free of the call's own key is the first of such Frees
own_full : (fits : Bool) (q k : ℕ) (kinds : List Ty) (held : List Stand) (a : Act) (l : List Act) → IsOwnFree (Goes q k kinds) a → FullRead (a ∷ l) (decision fits q k kinds held (a ∷ l))
unfolding FullRead
own_full fits q k kinds held (Free j p) l own = go (fits && nat_eq p.0 q) (nat_eq j.0 k) (eq-eqb j.0 k own)
  where
    go : (b c : Bool) → c ≡ true → FullRead (Free j p ∷ l) (if b then (if c then full_at (freed q held (Free j p ∷ l)) else decision fits q k kinds (all_but j.0 held) l) else NoCall)
    go true true e = full_frees (Free j p ∷ l) (freed q held (Free j p ∷ l)) (freed_frees q held (Free j p ∷ l))
    go true false e = absurd (cc e)
    go false c e = tt
own_full fits q k kinds held (Hold j p ty n) l own = absurd own
own_full fits q k kinds held (Call j p site args v) l own = absurd own
own_full fits q k kinds held (Retype j site) l own = absurd own
own_full fits q k kinds held (Busy j pins) l own = absurd own
own_full fits q k kinds held (WornType j) l own = absurd own
own_full fits q k kinds held (Define j site) l own = absurd own
own_full fits q k kinds held (WornDef j) l own = absurd own

-- ── the first act of a reading ──

-- there is no reading, or the first act answers the question and was read
pub data Head (u : Question) (l : List Act) (Rest : Act → List Act → Type 0) : Type 0 where
  First : (a : Act) (m : List Act) → l ≡ a ∷ m → Answers u a → Rest a m → Head u l Rest

freed_head : (q : ℕ) (h : Stand) (hs : List Stand) (l : List Act) → (freed q (h ∷ hs) l ≡ None) ⊎ Head (Ends q h.key) l (λ a m. Behind m (freed q (h ∷ hs) l))
freed_head q h hs [] = inl refl
freed_head q h hs (Free key p ∷ l) = go (nat_eq p.0 q && nat_eq key.0 h.key) refl (freed_behind q hs l)
  where
    go : (b : Bool) → (nat_eq p.0 q && nat_eq key.0 h.key) ≡ b → Behind l (freed q hs l)
        → ((if b then freed q hs l else None) ≡ None) ⊎ Head (Ends q h.key) (Free key p ∷ l) (λ a m. Behind m (if b then freed q hs l else None))
    go true e r = let both = and_both _ _ e in inr (First (Free key p) l refl (ended q h.key p key (eqb-true p.0 q both.0) (eqb-true key.0 h.key both.1)) r)
    go false e r = inl refl
freed_head q h hs (Hold key p ty n ∷ l) = inl refl
freed_head q h hs (Call key p site args v ∷ l) = inl refl
freed_head q h hs (Retype key site ∷ l) = inl refl
freed_head q h hs (Busy key pins ∷ l) = inl refl
freed_head q h hs (WornType key ∷ l) = inl refl
freed_head q h hs (Define key site ∷ l) = inl refl
freed_head q h hs (WornDef key ∷ l) = inl refl

-- a Free of a held key is read
full_behind : (q k : ℕ) (hs : List Stand) (p : CallNo) (key : KeyId) (l : List Act) → 1 ≤ count_of k hs → Behind l (freed q hs (Free key p ∷ l))
unfolding Behind
full_behind q k [] p key l held = absurd (omega (arith, held))
full_behind q k (h ∷ hs) p key l held = go (nat_eq p.0 q && nat_eq key.0 h.key)
  where
    go : (b : Bool) → Behind l (if b then freed q hs l else None)
    go true = freed_behind q hs l
    go false = tt

decision_head : (fits : Bool) (q k : ℕ) (kinds : List Ty) (held : List Stand) (l : List Act) → 1 ≤ count_of k held
    → (decision fits q k kinds held l ≡ NoCall) ⊎ Head (Goes q k kinds) l (λ a m. IsPast fits a × Leaves m (decision fits q k kinds held l))
decision_head fits q k kinds held [] has = inl refl
decision_head fits q k kinds held (Hold j p ty n ∷ l) has = go (fits && nat_eq p.0 q) refl
  where
    go : (b : Bool) → (fits && nat_eq p.0 q) ≡ b → ((if b then (decision fits q k kinds (held ++ record { key = j.0; ty = ty; changes = n } ∷ []) l) else NoCall) ≡ NoCall)
        ⊎ Head (Goes q k kinds) (Hold j p ty n ∷ l) (λ a m. IsPast fits a × Leaves m (if b then (decision fits q k kinds (held ++ record { key = j.0; ty = ty; changes = n } ∷ []) l) else NoCall))
    go true e = inr (First (Hold j p ty n) l refl (looked q k kinds p j ty n (eqb-true p.0 q (and_both _ _ e).1))
        ((and_both _ _ e).0, decision_leaves fits q k kinds (held ++ record { key = j.0; ty = ty; changes = n } ∷ []) l))
    go false e = inl refl
decision_head fits q k kinds held (Free j p ∷ l) has = go (fits && nat_eq p.0 q) refl
  where
    go : (b : Bool) → (fits && nat_eq p.0 q) ≡ b → ((if b then (if nat_eq j.0 k then full_at (freed q held (Free j p ∷ l)) else decision fits q k kinds (all_but j.0 held) l) else NoCall) ≡
        NoCall) ⊎ Head (Goes q k kinds) (Free j p ∷ l) (λ a m. IsPast fits a
        × Leaves m (if b then (if nat_eq j.0 k then full_at (freed q held (Free j p ∷ l)) else decision fits q k kinds (all_but j.0 held) l) else NoCall))
    go true e = inr (First (Free j p) l refl (gave_back q k kinds p j (eqb-true p.0 q (and_both _ _ e).1))
        ((and_both _ _ e).0, leaves_if l (nat_eq j.0 k) _ _ (full_leaves l (freed q held (Free j p ∷ l)) (full_behind q k held p j l has)) (decision_leaves fits q k kinds (all_but j.0 held) l)))
    go false e = inl refl
decision_head fits q k kinds held (Call j p site args v ∷ l) has = go (nat_eq p.0 q && nat_eq j.0 k && same_kinds kinds (kinds_of args)) refl
  where
    go : (b : Bool) → (nat_eq p.0 q && nat_eq j.0 k && same_kinds kinds (kinds_of args)) ≡ b
        → ((if b then called q site v held l else NoCall) ≡ NoCall)
        ⊎ Head (Goes q k kinds) (Call j p site args v ∷ l) (λ a m. IsPast fits a × Leaves m (if b then called q site v held l else NoCall))
    go true e =
        let x = and_both _ _ e in let y = and_both _ _ x.0 in
        inr (First (Call j p site args v) l refl (decided_by q k kinds p j site args v (eqb-true p.0 q y.0) (eqb-true j.0 k y.1) (kinds_same kinds (kinds_of args) x.1))
        (tt, called_leaves q site v held l))
    go false e = inl refl
decision_head fits q k kinds held (Retype j site ∷ l) has = inl refl
decision_head fits q k kinds held (Busy j pins ∷ l) has = inl refl
decision_head fits q k kinds held (WornType j ∷ l) has = inl refl
decision_head fits q k kinds held (Define j site ∷ l) has = inl refl
decision_head fits q k kinds held (WornDef j ∷ l) has = inl refl

-- ── two readings ──

own_low : (p : CallNo) (q : ℕ) → nat_eq p.0 q ≡ true → p.0 < suc q
own_low p q e = let same = eqb-true p.0 q e in omega (arith, same)

module _ (t : Table) (first second : List Act) where
  -- Two readings of Frees, where common acts come and then others: one of them fails, both read the same, or they part behind all common acts.
  pub data TwoFrees (q : ℕ) (pre : List Act) : Option (List Act) → Option (List Act) → Type 0 where
    NoFirst : (o : Option (List Act)) → TwoFrees q pre None o
    NoSecond : (o : Option (List Act)) → TwoFrees q pre o None
    Alike : (used left : List Act) → AllByRecursion (IsBelow (suc q)) used → pre ≡ used ++ left → TwoFrees q pre (Some (left ++ first)) (Some (left ++ second))
    PartAt : (k : ℕ) (a b : Act) (m n : List Act) (x y : Option (List Act)) → first ≡ a ∷ m → second ≡ b ∷ n → Answers (Ends q k) a → Answers (Ends q k) b → Behind m x → Behind n y
        → TwoFrees q pre x y

  frees_more : (q : ℕ) (c : Act) (pre : List Act) (x y : Option (List Act)) → IsBelow (suc q) c → TwoFrees q pre x y → TwoFrees q (c ∷ pre) x y
  frees_more q c pre _ _ low (NoFirst o) = NoFirst o
  frees_more q c pre _ _ low (NoSecond o) = NoSecond o
  frees_more q c pre _ _ low (Alike used left b e) = Alike (c ∷ used) left (low, b) (ap (λ l. c ∷ l) e)
  frees_more q c pre _ _ low (PartAt k a b m n x y e f g h u v) = PartAt k a b m n x y e f g h u v

  pub two_frees : (q : ℕ) (hs : List Stand) (pre : List Act) → TwoFrees q pre (freed q hs (pre ++ first)) (freed q hs (pre ++ second))
  two_frees q [] pre = Alike [] pre tt refl
  two_frees q (h ∷ hs) [] = go (freed q (h ∷ hs) first) (freed q (h ∷ hs) second) (freed_head q h hs first) (freed_head q h hs second)
    where
      go : (x y : Option (List Act)) → (x ≡ None) ⊎ Head (Ends q h.key) first (λ a m. Behind m x) → (y ≡ None) ⊎ Head (Ends q h.key) second (λ a m. Behind m y) → TwoFrees q [] x y
      go x y (inl e) r = subst (λ o. TwoFrees q [] o y) (sym e) (NoFirst y)
      go x y (inr f) (inl e) = subst (λ o. TwoFrees q [] x o) (sym e) (NoSecond x)
      go x y (inr (First a m e f u)) (inr (First b n g k v)) = PartAt h.key a b m n x y e g f k u v
  two_frees q (h ∷ hs) (Free key p ∷ pre) = go (nat_eq p.0 q && nat_eq key.0 h.key) refl (two_frees q hs pre)
    where
      go : (b : Bool) → (nat_eq p.0 q && nat_eq key.0 h.key) ≡ b → TwoFrees q pre (freed q hs (pre ++ first)) (freed q hs (pre ++ second))
          → TwoFrees q (Free key p ∷ pre) (if b then freed q hs (pre ++ first) else None) (if b then freed q hs (pre ++ second) else None)
      go true e r = frees_more q (Free key p) pre _ _ (own_low p q (and_both _ _ e).0) r
      go false e r = NoFirst None
  two_frees q (h ∷ hs) (Hold key p ty n ∷ pre) = NoFirst None
  two_frees q (h ∷ hs) (Call key p site args v ∷ pre) = NoFirst None
  two_frees q (h ∷ hs) (Retype key site ∷ pre) = NoFirst None
  two_frees q (h ∷ hs) (Busy key pins ∷ pre) = NoFirst None
  two_frees q (h ∷ hs) (WornType key ∷ pre) = NoFirst None
  two_frees q (h ∷ hs) (Define key site ∷ pre) = NoFirst None
  two_frees q (h ∷ hs) (WornDef key ∷ pre) = NoFirst None

  -- the question where two readings of a call part, behind these acts of it
  unfoldable pub Asks : (q k : ℕ) (kinds : List Ty) → List Act → Question → Type 0
  Asks q k kinds l u = ((u ≡ Starts q k) × (l ≡ [])) ⊎ (((u ≡ Goes q k kinds) × IsSoFar q k l) ⊎ ((j : ℕ) × (u ≡ Ends q j)))

  -- Two readings of a call, behind these acts of it: one of them is none, both are the same, or they part behind all common acts.
  pub data TwoReads (q k : ℕ) (kinds : List Ty) (so_far pre : List Act) : Read → Read → Type 0 where
    NoCallFirst : (r : Read) → TwoReads q k kinds so_far pre NoCall r
    NoCallSecond : (r : Read) → TwoReads q k kinds so_far pre r NoCall
    BothCalled : (site : Option BodySite) (v : Verdict) (held : List Stand) (used left : List Act) → AllByRecursion (IsBelow (suc q)) used → pre ≡ used ++ left
        → TwoReads q k kinds so_far pre (Called site v held (left ++ first)) (Called site v held (left ++ second))
    BothFull : (used left : List Act) → AllByRecursion (IsBelow (suc q)) used → pre ≡ used ++ left → TwoReads q k kinds so_far pre (FullAt (left ++ first)) (FullAt (left ++ second))
    PartIn : (u : Question) (a b : Act) (m n : List Act) (x y : Read) → Asks q k kinds (so_far ++ pre) u → first ≡ a ∷ m → second ≡ b ∷ n → Answers u a → Answers u b → Leaves m x → Leaves n y
        → GoesPast t u (so_far ++ pre) a → GoesPast t u (so_far ++ pre) b → (IsOwnFree u a → FullRead first x) → (IsOwnFree u b → FullRead second y) → TwoReads q k kinds so_far pre x y

  module _ (q k : ℕ) (kinds : List Ty) where
    reads_more : (so_far pre : List Act) (c : Act) (x y : Read) → IsBelow (suc q) c → TwoReads q k kinds (so_far ++ c ∷ []) pre x y → TwoReads q k kinds so_far (c ∷ pre) x y
    reads_more so_far pre c _ _ low (NoCallFirst r) = NoCallFirst r
    reads_more so_far pre c _ _ low (NoCallSecond r) = NoCallSecond r
    reads_more so_far pre c _ _ low (BothCalled site v held used left b e) = BothCalled site v held (c ∷ used) left (low, b) (ap (λ l. c ∷ l) e)
    reads_more so_far pre c _ _ low (BothFull used left b e) = BothFull (c ∷ used) left (low, b) (ap (λ l. c ∷ l) e)
    reads_more so_far pre c _ _ low (PartIn u a b m n x y s e f g h i j v w oa ob) =
        let along = append_assoc so_far (c ∷ []) pre in
        PartIn u a b m n x y (subst (λ l. Asks q k kinds l u) along s) e f g h i j (subst (λ l. GoesPast t u l a) along v) (subst (λ l. GoesPast t u l b) along w) oa ob

    full_reads : (so_far pre : List Act) (x y : Option (List Act)) → TwoFrees q pre x y → TwoReads q k kinds so_far pre (full_at x) (full_at y)
    unfolding Asks
    full_reads so_far pre _ _ (NoFirst o) = NoCallFirst (full_at o)
    full_reads so_far pre _ _ (NoSecond o) = NoCallSecond (full_at o)
    full_reads so_far pre _ _ (Alike used left b e) = BothFull used left b e
    full_reads so_far pre _ _ (PartAt j a b m n x y e f g h u v) = PartIn (Ends q j) a b m n (full_at x) (full_at y) (inr (inr (j, refl))) e f g h (full_leaves m x u) (full_leaves n y v) tt tt
        (λ own. absurd own) (λ own. absurd own)

    refused_reads : (so_far pre : List Act) (site : Option BodySite) (w : Verdict) (x y : Option (List Act)) → TwoFrees q pre x y → TwoReads q k kinds so_far pre (refused_at site w x)
        (refused_at site w y)
    unfolding Asks
    refused_reads so_far pre site w _ _ (NoFirst o) = NoCallFirst (refused_at site w o)
    refused_reads so_far pre site w _ _ (NoSecond o) = NoCallSecond (refused_at site w o)
    refused_reads so_far pre site w _ _ (Alike used left b e) = BothCalled site w [] used left b e
    refused_reads so_far pre site w _ _ (PartAt j a b m n x y e f g h u v) = PartIn (Ends q j) a b m n (refused_at site w x) (refused_at site w y) (inr (inr (j, refl))) e f g h
        (refused_leaves m site w x u) (refused_leaves n site w y v) tt tt (λ own. absurd own) (λ own. absurd own)

    called_reads : (so_far pre : List Act) (site : Option BodySite) (w : Verdict) (held : List Stand) → TwoReads q k kinds so_far pre (called q site w held (pre ++ first))
        (called q site w held (pre ++ second))
    called_reads so_far pre site (verdict.Enter way) held = BothCalled site (verdict.Enter way) held [] pre tt refl
    called_reads so_far pre site verdict.NoBody held = refused_reads so_far pre site verdict.NoBody _ _ (two_frees q held pre)
    called_reads so_far pre site verdict.NoType held = refused_reads so_far pre site verdict.NoType _ _ (two_frees q held pre)
    called_reads so_far pre site verdict.BadArgs held = refused_reads so_far pre site verdict.BadArgs _ _ (two_frees q held pre)
    called_reads so_far pre site (verdict.IllTyped f) held = refused_reads so_far pre site (verdict.IllTyped f) _ _ (two_frees q held pre)

    so_far_more : (l : List Act) (c : Act) → IsSoFar q k l → IsWithin q k c → IsSoFar q k (l ++ c ∷ [])
    so_far_more [] c h w = absurd h
    so_far_more (a ∷ l) c h w = (h.0, go l h.1)
      where
        go : (l : List Act) → AllByRecursion (IsWithin q k) l → AllByRecursion (IsWithin q k) (l ++ c ∷ [])
        go [] r = (w, tt)
        go (x ∷ l) r = (r.0, go l r.1)

    reads_if : (so_far pre : List Act) (b : Bool) (x y : Read) → (b ≡ true → TwoReads q k kinds so_far pre x y) → TwoReads q k kinds so_far pre (if b then x else NoCall) (if b then y else NoCall)
    reads_if so_far pre true x y h = h refl
    reads_if so_far pre false x y h = NoCallFirst NoCall

    -- a key is still held behind one more Hold, and behind a Free of another key
    has_last : (held : List Stand) (h : Stand) → 1 ≤ count_of k held → 1 ≤ count_of k (held ++ h ∷ [])
    has_last held h has = let n = count_last k held h in omega (arith, n, has)

    has_but : (j : ℕ) (held : List Stand) → nat_eq j k ≡ false → 1 ≤ count_of k held → 1 ≤ count_of k (all_but j held)
    has_but j held apart has = go (eqb k j) refl
      where
        go : (b : Bool) → eqb k j ≡ b → 1 ≤ count_of k (all_but j held)
        go true e = absurd (let same = eqb-true k j e in let other = eq-eqb j k (sym same) in cc (other, apart))
        go false e = (let n = count_but k j held in rw (n, e) has)

    -- the first Hold stays the first
    still : (so_far : List Act) (c : Act) → IsSoFar q k so_far → first_takes t kinds so_far ≡ first_takes t kinds (so_far ++ c ∷ [])
    still [] c so = absurd so
    still (Hold j p ty n ∷ l) c so = refl
    still (Free j p ∷ l) c so = refl
    still (Call j p site args v ∷ l) c so = refl
    still (Retype j site ∷ l) c so = refl
    still (Busy j pins ∷ l) c so = refl
    still (WornType j ∷ l) c so = refl
    still (Define j site ∷ l) c so = refl
    still (WornDef j ∷ l) c so = refl

    two_decisions : (fits : Bool) (held : List Stand) (so_far pre : List Act) → 1 ≤ count_of k held → IsSoFar q k so_far → fits ≡ first_takes t kinds so_far
        → TwoReads q k kinds so_far pre (decision fits q k kinds held (pre ++ first)) (decision fits q k kinds held (pre ++ second))
    unfolding Asks
    two_decisions fits held so_far [] has so ok = go (decision fits q k kinds held first) (decision fits q k kinds held second) (decision_head fits q k kinds held first has)
        (decision_head fits q k kinds held second has)
        (λ a m e own. subst (λ l. FullRead l (decision fits q k kinds held l)) (sym e) (own_full fits q k kinds held a m own))
        (λ a m e own. subst (λ l. FullRead l (decision fits q k kinds held l)) (sym e) (own_full fits q k kinds held a m own))
      where
        known : fits ≡ first_takes t kinds (so_far ++ [])
        known = ok ∙ ap (first_takes t kinds) (sym (append-nil so_far))

        go : (x y : Read) → (x ≡ NoCall) ⊎ Head (Goes q k kinds) first (λ a m. IsPast fits a × Leaves m x) → (y ≡ NoCall) ⊎ Head (Goes q k kinds) second (λ a m. IsPast fits a × Leaves m y)
            → ((a : Act) (m : List Act) → first ≡ a ∷ m → IsOwnFree (Goes q k kinds) a → FullRead first x) →
            ((a : Act) (m : List Act) → second ≡ a ∷ m → IsOwnFree (Goes q k kinds) a → FullRead second y)
            → TwoReads q k kinds so_far [] x y
        go x y (inl e) r oa ob = subst (λ o. TwoReads q k kinds so_far [] o y) (sym e) (NoCallFirst y)
        go x y (inr f) (inl e) oa ob = subst (λ o. TwoReads q k kinds so_far [] x o) (sym e) (NoCallSecond x)
        go x y (inr (First a m e f u)) (inr (First b n g h v)) oa ob = PartIn (Goes q k kinds) a b m n x y (inr (inl (refl, subst (IsSoFar q k) (sym (append-nil so_far)) so))) e g f h u.1 v.1
            (subst (λ (d : Bool). IsPast d a) known u.0) (subst (λ (d : Bool). IsPast d b) known v.0) (oa a m e) (ob b n g)
    two_decisions fits held so_far (Hold j p ty n ∷ pre) has so ok = reads_if so_far (Hold j p ty n ∷ pre) (fits && nat_eq p.0 q) _ _ (λ both. let e = (and_both _ _ both).1 in
        reads_more so_far pre (Hold j p ty n) _ _ (own_low p q e)
        (two_decisions fits (held ++ record { key = j.0; ty = ty; changes = n } ∷ []) (so_far ++ Hold j p ty n ∷ []) pre (has_last held (record { key = j.0; ty = ty; changes = n }) has)
        (so_far_more so_far (Hold j p ty n) so (eqb-true p.0 q e)) (ok ∙ still so_far (Hold j p ty n) so)))
    two_decisions fits held so_far (Free j p ∷ pre) has so ok = reads_if so_far (Free j p ∷ pre) (fits && nat_eq p.0 q) _ _
        (λ both. let e = (and_both _ _ both).1 in go (own_low p q e) (nat_eq j.0 k) refl
        (two_frees q held (Free j p ∷ pre)) (λ apart. two_decisions fits (all_but j.0 held) (so_far ++ Free j p ∷ []) pre (has_but j.0 held apart has)
        (so_far_more so_far (Free j p) so (eqb-true p.0 q e, apart)) (ok ∙ still so_far (Free j p) so)))
      where
        go : p.0 < suc q → (b : Bool) → nat_eq j.0 k ≡ b → TwoFrees q (Free j p ∷ pre) (freed q held (Free j p ∷ (pre ++ first))) (freed q held (Free j p ∷ (pre ++ second)))
            → (nat_eq j.0 k ≡ false → TwoReads q k kinds (so_far ++ Free j p ∷ []) pre (decision fits q k kinds (all_but j.0 held) (pre ++ first))
            (decision fits q k kinds (all_but j.0 held) (pre ++ second)))
            → TwoReads q k kinds so_far (Free j p ∷ pre) (if b then full_at (freed q held (Free j p ∷ (pre ++ first))) else decision fits q k kinds (all_but j.0 held) (pre ++ first))
            (if b then full_at (freed q held (Free j p ∷ (pre ++ second))) else decision fits q k kinds (all_but j.0 held) (pre ++ second))
        go low true e r more = full_reads so_far (Free j p ∷ pre) _ _ r
        go low false e r more = reads_more so_far pre (Free j p) _ _ low (more e)
    two_decisions fits held so_far (Call j p site args v ∷ pre) has so ok = reads_if so_far (Call j p site args v ∷ pre) (nat_eq p.0 q && nat_eq j.0 k && same_kinds kinds (kinds_of args)) _ _
        (λ e. reads_more so_far pre (Call j p site args v) _ _ (own_low p q (and_both _ _ (and_both _ _ e).0).0) (called_reads (so_far ++ Call j p site args v ∷ []) pre site v held))
    two_decisions fits held so_far (Retype j site ∷ pre) has so ok = NoCallFirst NoCall
    two_decisions fits held so_far (Busy j pins ∷ pre) has so ok = NoCallFirst NoCall
    two_decisions fits held so_far (WornType j ∷ pre) has so ok = NoCallFirst NoCall
    two_decisions fits held so_far (Define j site ∷ pre) has so ok = NoCallFirst NoCall
    two_decisions fits held so_far (WornDef j ∷ pre) has so ok = NoCallFirst NoCall

    -- the first act of a call is the Hold of its key
    pub start_head : (l : List Act) → (call_of t q k kinds l ≡ NoCall) ⊎ Head (Starts q k) l (λ a m. Leaves m (call_of t q k kinds l))
    start_head [] = inl refl
    start_head (Hold j p ty n ∷ l) = go (nat_eq p.0 q && nat_eq j.0 k) refl
      where
        go : (b : Bool) → (nat_eq p.0 q && nat_eq j.0 k) ≡ b → ((if b then decision (takes_at t ty kinds) q k kinds (record { key = j.0; ty = ty; changes = n } ∷ []) l else NoCall) ≡ NoCall)
            ⊎ Head (Starts q k) (Hold j p ty n ∷ l) (λ a m. Leaves m (if b then decision (takes_at t ty kinds) q k kinds (record { key = j.0; ty = ty; changes = n } ∷ []) l else NoCall))
        go true e = inr (First (Hold j p ty n) l refl (starts q k p j ty n (eqb-true p.0 q (and_both _ _ e).0) (eqb-true j.0 k (and_both _ _ e).1))
            (decision_leaves (takes_at t ty kinds) q k kinds (record { key = j.0; ty = ty; changes = n } ∷ []) l))
        go false e = inl refl
    start_head (Free j p ∷ l) = inl refl
    start_head (Call j p site args v ∷ l) = inl refl
    start_head (Retype j site ∷ l) = inl refl
    start_head (Busy j pins ∷ l) = inl refl
    start_head (WornType j ∷ l) = inl refl
    start_head (Define j site ∷ l) = inl refl
    start_head (WornDef j ∷ l) = inl refl

    pub two_calls : (pre : List Act) → TwoReads q k kinds [] pre (call_of t q k kinds (pre ++ first)) (call_of t q k kinds (pre ++ second))
    unfolding Asks
    two_calls [] = go (call_of t q k kinds first) (call_of t q k kinds second) (start_head first) (start_head second)
      where
        go : (x y : Read) → (x ≡ NoCall) ⊎ Head (Starts q k) first (λ a m. Leaves m x) → (y ≡ NoCall) ⊎ Head (Starts q k) second (λ a m. Leaves m y) → TwoReads q k kinds [] [] x y
        go x y (inl e) r = subst (λ o. TwoReads q k kinds [] [] o y) (sym e) (NoCallFirst y)
        go x y (inr f) (inl e) = subst (λ o. TwoReads q k kinds [] [] x o) (sym e) (NoCallSecond x)
        go x y (inr (First a m e f u)) (inr (First b n g h v)) = PartIn (Starts q k) a b m n x y (inl (refl, refl)) e g f h u v tt tt (λ own. absurd own) (λ own. absurd own)
    two_calls (Hold j p ty n ∷ pre) = reads_if [] (Hold j p ty n ∷ pre) (nat_eq p.0 q && nat_eq j.0 k) _ _ (λ both. let f = (and_both _ _ both).0 in let e = (and_both _ _ both).1 in
        reads_more [] pre (Hold j p ty n) _ _ (own_low p q f)
        (two_decisions (takes_at t ty kinds) (record { key = j.0; ty = ty; changes = n } ∷ []) (Hold j p ty n ∷ []) pre (here j.0 (sym (eqb-true j.0 k e)))
        (starts q k p j ty n (eqb-true p.0 q f) (eqb-true j.0 k e), tt) refl))
      where
        here : (i : ℕ) → k ≡ i → 1 ≤ cond (eqb k i) 1 0 + 0
        here i e = let same = eq-eqb k i e in rw same (omega arith)
    two_calls (Free j p ∷ pre) = NoCallFirst NoCall
    two_calls (Call j p site args v ∷ pre) = NoCallFirst NoCall
    two_calls (Retype j site ∷ pre) = NoCallFirst NoCall
    two_calls (Busy j pins ∷ pre) = NoCallFirst NoCall
    two_calls (WornType j ∷ pre) = NoCallFirst NoCall
    two_calls (Define j site ∷ pre) = NoCallFirst NoCall
    two_calls (WornDef j ∷ pre) = NoCallFirst NoCall
