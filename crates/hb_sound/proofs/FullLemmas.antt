-- Where a call ends since the list of names is full, the list is.
use Rattle.std.proofs.Common.{◌≡◌, inl, inr, ℕ, zero, suc, ◌+◌, ◌<◌, ◌≤◌, Bool, true, false, cond, eqb, List, [], ◌∷◌, ◌++◌, length, Option, Some, None}
use Rattle.std.proofs.Common.{sym, refl, ap, ◌∙◌, subst, arith, nat_eq, ne_eqb, eq-eqb, append_assoc}
use Rattle.std.specs.Prelude.{◌&&◌, if◌then◌else◌}
use Rattle.std.specs.List.{AllByRecursion}
use Rattle.std.proofs.lemmas.Bool.{eqb-true}
use Rattle.std.proofs.lemmas.List.{length-append}
use Rattle.hb_types.specs.declared.ids.CallNo.{CallNo}
use Rattle.hb_types.specs.declared.ids.KeyId.{KeyId}
use Rattle.hb_types.specs.declared.ids.BodySite.{BodySite}
use Rattle.hb_types.specs.declared.ids.TypeSite.{TypeSite}
use Rattle.hb_types.specs.declared.types.Ty.{Ty}
use Rattle.hb_tree.specs.Table.{Table}
use Rattle.hb_tree.proofs.Lists.{each_append}
use Rattle.hb_deriv.proofs.JudgementLemmas.{and_both}
use Rattle.hb_names.specs.declared.names.TheConstants.{NAMES_MAX}
use Rattle.hb_names.specs.Names.{Name}
use Rattle.hb_tables.specs.declared.entry.ArgKinds.{ArgKinds}
use Rattle.hb_tables.specs.declared.entry.Verdict.{Verdict}
use Rattle.hb_tables.specs.declared.entry.Verdict.TheVariants as verdict
use Rattle.hb_tables.specs.declared.entry.Act.{Act}
use Rattle.hb_tables.specs.declared.entry.Act.TheVariants.{Hold, Free, Retype, Busy, WornType, Define, WornDef, Call}
use Rattle.hb_tables.specs.declared.entry.Entry.{Entry}
use Rattle.hb_tables.specs.History.{Every, IsLegal, entry, spot, times}
use Rattle.hb_tables.specs.Frames.{acts, KeepsHold}
use Rattle.hb_tables.specs.Rows.{kinds_of}
use Rattle.hb_tables.specs.Standing.{Stand, all_but, count_of, standing, standing_from}
use Rattle.hb_tables.proofs.FrameLemmas.{acts_append, acts_cut}
use Rattle.hb_tables.proofs.StandingLemmas.{held_stands, standing_append}
use Rattle.hb_call.specs.GrowthLaws.{has_call_on}
use Rattle.hb_call.specs.Held.{HasCall, stands}
use Rattle.hb_call.specs.Reading.{Read, Called, FullAt, Lost, freed, refused_at, full_at, called, same_kinds, decision, call_of, takes_at}
use Rattle.hb_call.specs.Rules.{Began, FitsFree, FitsRules, Retreats}
use Rattle.hb_call.proofs.HeldLemmas.{count_head}

-- ── what a call reads ──

-- a Hold or a Call has a number below this
abbrev pub IsBefore : ℕ → Act → Type 0
IsBefore n (Hold key p ty changes) = p.0 < n
IsBefore n (Call key p site args v) = p.0 < n
IsBefore n _ = Unit {0}

-- a Hold of the call q, or a Free of another key than k
abbrev pub IsOnWay : (q k : ℕ) → Act → Type 0
IsOnWay q k (Hold key p ty changes) = p.0 ≡ q
IsOnWay q k (Free key p) = nat_eq key.0 k ≡ false
IsOnWay q k _ = ⊥

before_of : (q k : ℕ) (a : Act) → IsOnWay q k a → IsBefore (q + 1) a
before_of q k (Hold key p ty changes) h = omega (arith, h)
before_of q k (Free key p) h = tt
before_of _ _ _ h = absurd h

-- Behind acts on its way the call q gives the key k back.
pub record GaveBack (q k : ℕ) (l : List Act) : Type 0 where
  pub on : List Act
  pub number : CallNo
  pub key : KeyId
  pub behind : List Act
  pub is : l ≡ on ++ Free key number ∷ behind
  pub of_call : number.0 ≡ q
  pub of_key : key.0 ≡ k
  pub way : AllByRecursion (IsOnWay q k) on

-- These acts were read, of the call q or older ones.
abbrev pub WasRead : ℕ → (l rest : List Act) → Type 0
WasRead q l rest = (front : List Act) × (l ≡ front ++ rest) × AllByRecursion (IsBefore (q + 1)) front

unfoldable pub HasTaken : (q k : ℕ) → List Act → Read → Type 0
HasTaken q k l Lost = Unit {0}
HasTaken q k l (Called site v held rest) = WasRead q l rest
HasTaken q k l (FullAt rest) = GaveBack q k l

taken_behind : (q k : ℕ) (a : Act) (l : List Act) (r : Read) → IsOnWay q k a → HasTaken q k l r → HasTaken q k (a ∷ l) r
unfolding HasTaken
taken_behind q k a l Lost w h = tt
taken_behind q k a l (Called site v held rest) w h = (a ∷ h.0, ap (λ x. a ∷ x) h.1, (before_of q k a w, h.2))
taken_behind q k a l (FullAt rest) w h =
    record { on = a ∷ h.on; number = h.number; key = h.key; behind = h.behind; is = ap (λ x. a ∷ x) h.is; of_call = h.of_call; of_key = h.of_key; way = (w, h.way) }

taken_if : (q k : ℕ) (l : List Act) (b : Bool) (x y : Read) → (b ≡ true → HasTaken q k l x) → (b ≡ false → HasTaken q k l y) → HasTaken q k l (if b then x else y)
taken_if q k l true x y h g = h refl
taken_if q k l false x y h g = g refl

-- Frees are before each call
pub freed_taken : (q n : ℕ) (held : List Stand) (l rest : List Act) → freed q held l ≡ Some rest → (front : List Act) × (l ≡ front ++ rest) × AllByRecursion (IsBefore n) front
freed_taken q n [] l rest e = ([], cc, tt)
freed_taken q n (h ∷ hs) (Free j p ∷ l) rest e = go (nat_eq p.0 q && nat_eq j.0 h.key) e (freed_taken q n hs l rest)
  where
    go : (b : Bool) → (if b then freed q hs l else None) ≡ Some rest → (freed q hs l ≡ Some rest → (front : List Act) × (l ≡ front ++ rest) × AllByRecursion (IsBefore n) front)
        → (front : List Act) × (Free j p ∷ l ≡ front ++ rest) × AllByRecursion (IsBefore n) front
    go true e r = let s = r e in (Free j p ∷ s.0, ap (λ x. Free j p ∷ x) s.1, (tt, s.2))
    go false e r = absurd (cc)
freed_taken q n _ _ rest e = absurd (cc)

full_taken : (q k : ℕ) (p : CallNo) (j : KeyId) (l : List Act) (o : Option (List Act)) → p.0 ≡ q → j.0 ≡ k → HasTaken q k (Free j p ∷ l) (full_at o)
unfolding HasTaken
full_taken q k p j l None mine same = tt
full_taken q k p j l (Some rest) mine same = record { on = []; number = p; key = j; behind = l; is = refl; of_call = mine; of_key = same; way = tt }

call_taken : (q k : ℕ) (p : CallNo) (j : KeyId) (site : Option BodySite) (args : ArgKinds) (v : Verdict) (held : List Stand) (l : List Act) → p.0 ≡ q
    → HasTaken q k (Call j p site args v ∷ l) (called q site v held l)
unfolding HasTaken
call_taken q k p j site args v held l mine = by v
  where
    low : p.0 < q + 1
    low = omega (arith, mine)

    refused : (v w : Verdict) (o : Option (List Act)) → freed q held l ≡ o → HasTaken q k (Call j p site args w ∷ l) (refused_at site v o)
    refused v w None e = tt
    refused v w (Some rest) e = let f = freed_taken q (q + 1) held l rest e in (Call j p site args w ∷ f.0, ap (λ x. Call j p site args w ∷ x) f.1, (low, f.2))

    by : (v : Verdict) → HasTaken q k (Call j p site args v ∷ l) (called q site v held l)
    by (verdict.Enter way) = (Call j p site args (verdict.Enter way) ∷ [], refl, (low, tt))
    by verdict.NoBody = refused verdict.NoBody verdict.NoBody (freed q held l) refl
    by verdict.NoType = refused verdict.NoType verdict.NoType (freed q held l) refl
    by verdict.BadArgs = refused verdict.BadArgs verdict.BadArgs (freed q held l) refl
    by (verdict.IllTyped f) = refused (verdict.IllTyped f) (verdict.IllTyped f) (freed q held l) refl

decision_taken : (fits : Bool) (q k : ℕ) (kinds : List Ty) (held : List Stand) (l : List Act) → HasTaken q k l (decision fits q k kinds held l)
unfolding HasTaken
decision_taken fits q k kinds held (Hold j p ty n ∷ l) = taken_if q k (Hold j p ty n ∷ l) (fits && nat_eq p.0 q) _ Lost
    (λ e. taken_behind q k (Hold j p ty n) l _ (eqb-true p.0 q (and_both _ _ e).1) (decision_taken fits q k kinds (held ++ record { key = j.0; ty = ty; changes = n } ∷ []) l)) (λ e. tt)
decision_taken fits q k kinds held (Free j p ∷ l) = taken_if q k (Free j p ∷ l) (fits && nat_eq p.0 q) _ Lost
    (λ e. taken_if q k (Free j p ∷ l) (nat_eq j.0 k) _ _ (λ is. full_taken q k p j l (freed q held (Free j p ∷ l)) (eqb-true p.0 q (and_both _ _ e).1) (eqb-true j.0 k is))
    (λ apart. taken_behind q k (Free j p) l _ apart (decision_taken fits q k kinds (all_but j.0 held) l))) (λ e. tt)
decision_taken fits q k kinds held (Call j p site args v ∷ l) = taken_if q k (Call j p site args v ∷ l)
    (nat_eq p.0 q && nat_eq j.0 k && same_kinds kinds (kinds_of args)) (called q site v held l) Lost
    (λ e. call_taken q k p j site args v held l (eqb-true p.0 q (and_both _ _ (and_both _ _ e).0).0)) (λ e. tt)
decision_taken _ _ _ _ _ _ = tt

-- The call q began with a Hold of the key k, and gave it back.
pub record BeganAndGaveBack (q k : ℕ) (l : List Act) : Type 0 where
  pub number : CallNo
  pub key : KeyId
  pub ty : Option TypeSite
  pub changes : ℕ
  pub behind : List Act
  pub is : l ≡ Hold key number ty changes ∷ behind
  pub of_call : number.0 ≡ q
  pub of_key : key.0 ≡ k
  pub back : GaveBack q k behind

unfoldable pub HasGone : (q k : ℕ) → List Act → Read → Type 0
HasGone q k l Lost = Unit {0}
HasGone q k l (Called site v held rest) = WasRead q l rest
HasGone q k l (FullAt rest) = BeganAndGaveBack q k l

gone_of : (q k : ℕ) (p : CallNo) (j : KeyId) (ty : Option TypeSite) (n : ℕ) (l : List Act) (r : Read) → p.0 ≡ q → j.0 ≡ k → HasTaken q k l r → HasGone q k (Hold j p ty n ∷ l) r
unfolding HasTaken HasGone
gone_of q k p j ty n l Lost mine same h = tt
gone_of q k p j ty n l (Called site v held rest) mine same h = (Hold j p ty n ∷ h.0, ap (λ x. Hold j p ty n ∷ x) h.1, (omega (arith, mine), h.2))
gone_of q k p j ty n l (FullAt rest) mine same h = record { number = p; key = j; ty = ty; changes = n; behind = l; is = refl; of_call = mine; of_key = same; back = h }

pub call_gone : (t : Table) (q k : ℕ) (kinds : List Ty) (l : List Act) → HasGone q k l (call_of t q k kinds l)
unfolding HasGone
call_gone t q k kinds (Hold j p ty n ∷ l) = go (nat_eq p.0 q && nat_eq j.0 k) refl
  where
    go : (b : Bool) → (nat_eq p.0 q && nat_eq j.0 k) ≡ b
        → HasGone q k (Hold j p ty n ∷ l) (if b then decision (takes_at t ty kinds) q k kinds (record { key = j.0; ty = ty; changes = n } ∷ []) l else Lost)
    go true e = let both = and_both _ _ e in gone_of q k p j ty n l _ (eqb-true p.0 q both.0) (eqb-true j.0 k both.1)
        (decision_taken (takes_at t ty kinds) q k kinds (record { key = j.0; ty = ty; changes = n } ∷ []) l)
    go false e = tt
call_gone _ _ _ _ _ = tt

-- ── what stands ──

way_keeps : (q k : ℕ) (l : List Act) → AllByRecursion (IsOnWay q k) l → KeepsHold q k l
way_keeps q k [] h = tt
way_keeps q k (Hold j p ty n ∷ l) h = (refl, way_keeps q k l h.1)
way_keeps q k (Free j p ∷ l) h = (go (eqb q p.0) (eqb k j.0) refl h.0, way_keeps q k l h.1)
  where
    go : (a b : Bool) → eqb k j.0 ≡ b → nat_eq j.0 k ≡ false → (a && b) ≡ false
    go true true e f = absurd (let same = eq-eqb j.0 k (sym (eqb-true k j.0 e)) in cc (same, f))
    go _ _ _ _ = refl
way_keeps q k (Retype j site ∷ l) h = absurd h.0
way_keeps q k (Busy j pins ∷ l) h = absurd h.0
way_keeps q k (WornType j ∷ l) h = absurd h.0
way_keeps q k (Define j site ∷ l) h = absurd h.0
way_keeps q k (WornDef j ∷ l) h = absurd h.0
way_keeps q k (Call j p site args v ∷ l) h = absurd h.0

-- a call of this number holds nothing behind older ones
none_stand : (q : ℕ) (l : List Act) → AllByRecursion (IsBefore q) l → standing_from q [] l ≡ []
none_stand q [] h = refl
none_stand q (Hold j p ty n ∷ l) h = (let low = h.0 in let e = ne_eqb q p.0 (λ is. omega (arith, low, is)) in rw e (none_stand q l h.1))
none_stand q (Free j p ∷ l) h = go (eqb q p.0) (none_stand q l h.1)
  where
    go : (b : Bool) → standing_from q [] l ≡ [] → standing_from q (cond b [] []) l ≡ []
    go true e = e
    go false e = e
none_stand q (Retype j site ∷ l) h = none_stand q l h.1
none_stand q (Busy j pins ∷ l) h = none_stand q l h.1
none_stand q (WornType j ∷ l) h = none_stand q l h.1
none_stand q (Define j site ∷ l) h = none_stand q l h.1
none_stand q (WornDef j ∷ l) h = none_stand q l h.1
none_stand q (Call j p site args v ∷ l) h = none_stand q l h.1

-- the first Hold stays the first
first_stays : (q k : ℕ) (h : Stand) (hs : List Stand) (l : List Act) → h.key ≡ k → KeepsHold q k l → (rest : List Stand) × (standing_from q (h ∷ hs) l ≡ h ∷ rest)
first_stays q k h hs [] is keeps = (hs, refl)
first_stays q k h hs (Hold j p ty n ∷ l) is keeps = go (eqb q p.0) (first_stays q k h (hs ++ record { key = j.0; ty = ty; changes = n } ∷ []) l is keeps.1) (first_stays q k h hs l is keeps.1)
  where
    go : (b : Bool) → (rest : List Stand) × (standing_from q (h ∷ (hs ++ record { key = j.0; ty = ty; changes = n } ∷ [])) l ≡ h ∷ rest)
        → (rest : List Stand) × (standing_from q (h ∷ hs) l ≡ h ∷ rest)
        → (rest : List Stand) × (standing_from q (cond b (h ∷ (hs ++ record { key = j.0; ty = ty; changes = n } ∷ [])) (h ∷ hs)) l ≡ h ∷ rest)
    go true x y = x
    go false x y = y
first_stays q k h hs (Free j p ∷ l) is keeps = go (eqb q p.0) keeps.0 (first_stays q k h (all_but j.0 hs) l is keeps.1) (first_stays q k h hs l is keeps.1)
  where
    other : eqb k j.0 ≡ false → eqb j.0 h.key ≡ false
    other apart = ne_eqb j.0 h.key (λ same. let e = eq-eqb k j.0 (sym is ∙ sym same) in cc (e, apart))

    go : (b : Bool) → (b && eqb k j.0) ≡ false → (rest : List Stand) × (standing_from q (h ∷ all_but j.0 hs) l ≡ h ∷ rest) → (rest : List Stand) × (standing_from q (h ∷ hs) l ≡ h ∷ rest)
        → (rest : List Stand) × (standing_from q (cond b (all_but j.0 (h ∷ hs)) (h ∷ hs)) l ≡ h ∷ rest)
    go true apart x y = (let e = other apart in rw e x)
    go false apart x y = y
first_stays q k h hs (Retype j site ∷ l) is keeps = first_stays q k h hs l is keeps.1
first_stays q k h hs (Busy j pins ∷ l) is keeps = first_stays q k h hs l is keeps.1
first_stays q k h hs (WornType j ∷ l) is keeps = first_stays q k h hs l is keeps.1
first_stays q k h hs (Define j site ∷ l) is keeps = first_stays q k h hs l is keeps.1
first_stays q k h hs (WornDef j ∷ l) is keeps = first_stays q k h hs l is keeps.1
first_stays q k h hs (Call j p site args v ∷ l) is keeps = first_stays q k h hs l is keeps.1

acts_at : (c : ℕ) (b a : List Entry) (x : Act) → acts c (b ++ entry c x ∷ a) ≡ acts c b ++ x ∷ acts c a
acts_at c b a x = acts_append c b (entry c x ∷ a) ∙ ap (λ l. acts c b ++ l) (let own = eq-eqb c c refl in rw own refl)

-- the first of what a call holds is the key with which it began
began_first : (c : ℕ) (q : CallNo) (key : KeyId) (start mid : List Entry) → Began c q key start mid → (h : Stand) × (h.key ≡ key.0) × (rest : List Stand) × (stands c q.0 mid ≡ h ∷ rest)
began_first c q key start mid b = (h, refl, stays.0, whole ∙ stays.1)
  where
    h : Stand
    h = record { key = key.0; ty = b.ty; changes = b.changes }

    stays : (rest : List Stand) × (standing_from q.0 (h ∷ []) (acts c b.since) ≡ h ∷ rest)
    stays = first_stays q.0 key.0 h [] (acts c b.since) refl b.keeps

    first : standing q.0 (acts c start) ≡ h ∷ []
    first =
        ap (λ l. standing q.0 (acts c l)) b.is
        ∙ ap (standing q.0) (acts_at c b.before [] (Hold key q b.ty b.changes))
        ∙ standing_append q.0 [] (acts c b.before) (Hold key q b.ty b.changes ∷ [])
        ∙ ap (λ (x : Bool). cond x (standing q.0 (acts c b.before) ++ h ∷ []) (standing q.0 (acts c b.before))) (eq-eqb q.0 q.0 refl)
        ∙ ap (λ (l : List Stand). l ++ h ∷ []) b.none

    whole : stands c q.0 mid ≡ standing_from q.0 (h ∷ []) (acts c b.since)
    whole =
        ap (λ l. standing q.0 (acts c l)) (sym b.goes)
        ∙ ap (standing q.0) (acts_append c start b.since)
        ∙ standing_append q.0 [] (acts c start) (acts c b.since)
        ∙ ap (λ (l : List Stand). standing_from q.0 l (acts c b.since)) first

-- ── the rules ──

-- an act at a place of the list
at_place : (P : Act → Type 0) (xs ys : List Act) (x : Act) → AllByRecursion P (xs ++ x ∷ ys) → P x
at_place P [] ys x h = h.0
at_place P (y ∷ xs) ys x h = at_place P xs ys x h.1

-- the act is no Call of this number
abbrev IsNoCall : ℕ → Act → Type 0
IsNoCall q (Call key p site args v) = p.0 ≡ q → ⊥
IsNoCall q _ = Unit {0}

no_call_before : (q : ℕ) (l : List Act) → AllByRecursion (IsBefore q) l → AllByRecursion (IsNoCall q) l
no_call_before q [] h = tt
no_call_before q (Call key p site args v ∷ l) h = ((λ is. let low = h.0 in omega (arith, is, low)), no_call_before q l h.1)
no_call_before q (Hold key p ty changes ∷ l) h = (tt, no_call_before q l h.1)
no_call_before q (Free key p ∷ l) h = (tt, no_call_before q l h.1)
no_call_before q (Retype key site ∷ l) h = (tt, no_call_before q l h.1)
no_call_before q (Busy key pins ∷ l) h = (tt, no_call_before q l h.1)
no_call_before q (WornType key ∷ l) h = (tt, no_call_before q l h.1)
no_call_before q (Define key site ∷ l) h = (tt, no_call_before q l h.1)
no_call_before q (WornDef key ∷ l) h = (tt, no_call_before q l h.1)

no_call_on : (q k : ℕ) (l : List Act) → AllByRecursion (IsOnWay q k) l → AllByRecursion (IsNoCall q) l
no_call_on q k [] h = tt
no_call_on q k (Hold key p ty changes ∷ l) h = (tt, no_call_on q k l h.1)
no_call_on q k (Free key p ∷ l) h = (tt, no_call_on q k l h.1)
no_call_on _ _ _ h = absurd h.0

module _ (t : Table) (names : List Name) (limit : ℕ) (log : List Entry) (c : ℕ) (legal : IsLegal limit log)
    (rules : Every (λ before e. FitsRules t names e.caller.0 before e.act) log) (few : length names ≤ NAMES_MAX) where
  -- a retreat gives back another key than the first
  no_retreat : (q : CallNo) (key : KeyId) (start mid after : List Entry) → log ≡ mid ++ entry c (Free key q) ∷ after → Began c q key start mid → Retreats c q key mid → ⊥
  no_retreat q key start mid after is b r =
      let first = began_first c q key start mid b in
      let own : r.own ≡ first.0 = (let same : r.own ∷ r.next ∷ r.others ≡ first.0 ∷ first.2 = sym r.held ∙ first.3 in cc same) in
      let one : times (c, q.0) (spot key.0 mid).calls ≡ 1 = legal mid after (entry c (Free key q)) is in
      let count : count_of key.0 (r.own ∷ r.next ∷ r.others) ≡ 1 = ap (count_of key.0) (sym r.held) ∙ sym (held_stands c q.0 key.0 mid) ∙ one in
      let here = count_head key.0 (r.next ∷ r.others) r.own (sym first.1 ∙ ap (λ (h : Stand). h.key) (sym own)) in
      let there = count_head key.0 r.others r.next r.is in
      omega (arith, count, here, there)

  -- A call gave its first key back before it was decided: there, or where it had done so before, the list of names was full.
  gave_full : (n : ℕ) (q : CallNo) (key : KeyId) (start mid after : List Entry) → length mid < n → log ≡ mid ++ entry c (Free key q) ∷ after → Began c q key start mid → (HasCall c q.0 mid → ⊥)
      → length names ≡ NAMES_MAX
  gave_full zero q key start mid after low is b none = absurd (omega (arith, low))
  gave_full (suc n) q key start mid after low is b none = go (rules mid after (entry c (Free key q)) is).free (λ k s m a. gave_full n q k s m a)
    where
      go : FitsFree t names c mid (Free key q)
          → ((k : KeyId) (s m a : List Entry) → length m < n → log ≡ m ++ entry c (Free k q) ∷ a → Began c q k s m → (HasCall c q.0 m → ⊥) → length names ≡ NAMES_MAX)
          → length names ≡ NAMES_MAX
      go (inl h) rec = absurd (none h)
      go (inr (inl r)) rec = absurd (no_retreat q key start mid after is b r)
      go (inr (inr (inl f))) rec = (f.full few).0
      go (inr (inr (inr g))) rec =
          let whole = length-append g.at (entry c (Free g.key q) ∷ g.since) in
          let long = ap length g.is in
          rec g.key g.start g.at (g.since ++ entry c (Free key q) ∷ after) (omega (arith, low, whole, long))
          (is ∙ ap (λ l. l ++ entry c (Free key q) ∷ after) g.is ∙ append_assoc g.at (entry c (Free g.key q) ∷ g.since) (entry c (Free key q) ∷ after)) g.began
          (λ h. none (has_call_on c q.0 g.at mid h (entry c (Free g.key q) ∷ g.since, sym g.is)))

  -- a call that was read to its end with Full
  pub full_here : (q k : ℕ) (front l : List Act) → acts c log ≡ front ++ l → AllByRecursion (IsBefore q) front → BeganAndGaveBack q k l → length names ≡ NAMES_MAX
  full_here q k front l is low b =
      let p = b.number in
      let key = b.key in
      let back = b.back in
      let hold : Act = Hold key p b.ty b.changes in
      let one = acts_cut c log front hold b.behind (is ∙ ap (λ x. front ++ x) b.is) in
      let two = acts_cut c one.after back.on (Free back.key back.number) back.behind (one.last ∙ back.is) in
      let mid : List Entry = one.before ++ entry c hold ∷ two.before in
      let start : List Entry = one.before ++ entry c hold ∷ [] in
      let whole : log ≡ mid ++ entry c (Free back.key back.number) ∷ two.after =
      one.is ∙ ap (λ x. one.before ++ entry c hold ∷ x) two.is ∙ sym (append_assoc one.before (entry c hold ∷ two.before) (entry c (Free back.key back.number) ∷ two.after)) in
      let number : back.number ≡ p = (let e : back.number.0 ≡ p.0 = back.of_call ∙ sym b.of_call in λ i. record { 0 = e i }) in
      let same : back.key ≡ key = (let e : back.key.0 ≡ key.0 = back.of_key ∙ sym b.of_key in λ i. record { 0 = e i }) in
      let own : acts c mid ≡ front ++ hold ∷ back.on = acts_at c one.before two.before hold ∙ ap (λ x. x ++ hold ∷ acts c two.before) one.first ∙ ap (λ x. front ++ hold ∷ x) two.first in
      let began : Began c p key start mid = record {
        before = one.before;
        ty = b.ty;
        changes = b.changes;
        is = refl;
        none = ap (λ i. stands c i one.before) b.of_call ∙ ap (standing q) one.first ∙ none_stand q front low;
        since = two.before;
        goes = append_assoc one.before (entry c hold ∷ []) two.before;
        keeps = subst (λ i. KeepsHold i key.0 (acts c two.before)) (sym b.of_call) (subst (λ i. KeepsHold q i (acts c two.before)) (sym b.of_key)
            (subst (KeepsHold q k) (sym two.first) (way_keeps q k back.on back.way)));
      } in
      let calls : AllByRecursion (IsNoCall q) (acts c mid) =
      subst (AllByRecursion (IsNoCall q)) (sym own) (each_append (IsNoCall q) front (hold ∷ back.on) (no_call_before q front low) (tt, no_call_on q k back.on back.way)) in
      gave_full (suc (length mid)) p key start mid two.after (omega arith)
      (whole ∙ ap (λ (r : CallNo). mid ++ entry c (Free back.key r) ∷ two.after) number ∙ ap (λ (j : KeyId). mid ++ entry c (Free j p) ∷ two.after) same) began
      (λ h. at_place (IsNoCall q) (acts c h.before) (acts c h.after) (Call h.key h.call h.site h.args h.verdict)
      (subst (AllByRecursion (IsNoCall q)) (ap (acts c) h.is ∙ acts_at c h.before h.after (Call h.key h.call h.site h.args h.verdict)) calls) (h.number ∙ b.of_call))
