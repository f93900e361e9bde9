-- What is collected of the checks that a script makes.
use Rattle.std.proofs.Common.{◌≡◌, ℕ, ◌+◌, List, [], ◌∷◌, ◌++◌, Option, Some, None, Bool, true, false, cond, refl, sym, ap, ◌∙◌, subst, arith, append_assoc, append-nil}
use Rattle.std.specs.Prelude.{count_by}
use Rattle.std.proofs.lemmas.List.Sums.{sum_by-cons, sum_by-append}
use mathlib.Core.List.{IsPrefix}
use Rattle.hb_types.specs.declared.ids.BodySite.{BodySite}
use Rattle.hb_types.specs.declared.ids.CallNo.{CallNo}
use Rattle.hb_types.specs.declared.ids.KeyId.{KeyId}
use Rattle.hb_tree.specs.Table.{Table}
use Rattle.hb_deriv.specs.declared.raw.Derivation.{Derivation}
use Rattle.hb_deriv.specs.declared.raw.Used.{Used}
use Rattle.hb_deriv.specs.Derivation.{Content, key_of}
use Rattle.hb_deriv.specs.Programs.{IsFor}
use Rattle.hb_names.specs.Names.{Name, place}
use Rattle.hb_names.proofs.NameLemmas.{place-longer}
use Rattle.hb_tables.specs.declared.entry.Entry.{Entry}
use Rattle.hb_tables.specs.declared.entry.Act.{Act}
use Rattle.hb_tables.specs.declared.entry.Act.TheVariants.{Call}
use Rattle.hb_tables.specs.declared.entry.ArgKinds.{ArgKinds}
use Rattle.hb_tables.specs.declared.entry.Verdict.{Verdict}
use Rattle.hb_tables.specs.declared.entry.Verdict.TheVariants as verdict
use Rattle.hb_tables.specs.declared.entry.By.TheVariants as by
use Rattle.hb_tables.specs.Standing.{Stand, standing}
use Rattle.hb_tables.specs.Frames.{acts}
use Rattle.hb_tables.specs.Names.{name_of}
use Rattle.hb_tables.proofs.StandingLemmas.{standing_stays}
use Rattle.std.specs.Prelude.{Result, Ok, IfOk, OnOk}
use Rattle.std.proofs.lemmas.Result.{IfOk-weaker}
use Rattle.std.specs.declared.alloc.AllocError.{AllocError}
use Rattle.hb_eval.specs.declared.state.Hand.{Hand}
use Rattle.hb_eval.specs.declared.cont.Cont.{Cont}
use Rattle.hb_eval.specs.declared.framed.Framed.{Framed}
use Rattle.hb_tables.specs.declared.entry.By.{By}
use Rattle.hb_tables.specs.Answers.{Fixed}
use Rattle.hb_tables.specs.History.{entry}
use Rattle.hb_tables.specs.Rows.{kinds_of}
use Rattle.hb_tables.proofs.FrameLemmas.{acts_append}
use Rattle.hb_cache.specs.declared.kept.Kept.{Kept}
use Rattle.hb_call.specs.declared.frame.Frame.{Frame}
use Rattle.hb_call.specs.declared.frame.Entered.TheVariants as entered
use Rattle.hb_call.specs.Entering.{Asks, IsDecidedOf}
use Rattle.hb_call.specs.Held.{stands}
use Rattle.hb_call.specs.OwnCache.{IsTrueCache}
use Rattle.hb_call.specs.Reading.{call_of}
use Rattle.hb_eval.proofs.CallLemmas.{decision_of}
use Rattle.hb_eval.proofs.CountLemmas.{call_counts}
use Rattle.hb_eval.proofs.TableLemmas.{own_act}
use Rattle.hb_call.specs.declared.share.Share.{Share}
use Rattle.hb_call.specs.Sharing.{Collects, CollectsFew, CollectsOne, Found, FoundUses, collected}
use Rattle.hb_eval.specs.declared.state.State.{State}
use Rattle.hb_eval.specs.Runs.{is_entered}
use Rattle.hb_eval.specs.Turns.{Reads, Telling, after, Turned}
use Rattle.hb_eval.specs.Gathering.{Gathers, GathersCall, GathersOne, Shares, TakesLast, TakesOne}

abbrev site_numbered : ℕ → BodySite
site_numbered n = record { 0 = n }

-- ── with more names ──

module _ (t : Table) (names known : List Name) (longer : IsPrefix names known) where
  uses_longer : (hs : List Stand) (us : List Used) → FoundUses t names hs us → FoundUses t known hs us
  uses_longer hs [] h = tt
  uses_longer hs (u ∷ us) h = ((h.0.0, place-longer names known (name_of t (key_of u)) h.0.0 longer h.0.1, h.0.2), uses_longer hs us h.1)

  takes_longer : (hs : List Stand) (k : ℕ) (site : BodySite) (old new : Option (List Derivation)) → TakesOne t names hs k site old new → TakesOne t known hs k site old new
  takes_longer hs k site None new h = h
  takes_longer hs k site (Some old) new h =
      (λ few. takes_last_longer (h.0 few), h.1)
    where
      takes_last_longer : TakesLast t names hs k site old new → TakesLast t known hs k site old new
      takes_last_longer one =
          let m = one.made in
          record {
            derivation = one.derivation;
            made = record {
              good = m.good;
              name = m.name;
              named = place-longer names known m.name k longer m.named;
              class = m.class;
              body = m.body;
              declared = m.declared;
              uses = uses_longer hs one.derivation.uses.items m.uses;
            };
            last = one.last;
          }

  call_longer : (hs : List Stand) (k : ℕ) (v : Verdict) (site : Option BodySite) (old new : Option (List Derivation)) → GathersCall t names hs k v site old new → GathersCall t known hs k v site old new
  call_longer hs k (verdict.Enter by.Fresh) (Some site) old new h = takes_longer hs k site old new h
  call_longer _ _ _ _ _ _ h = h

  pub one_longer : (before : List Act) (a : Act) (old new : Option (List Derivation)) → GathersOne t names before a old new → GathersOne t known before a old new
  one_longer before (Call key q site args v) old new h = call_longer (standing q.0 before) key.0 v site old new h
  one_longer _ _ _ _ h = h

  gathers_longer : (before l : List Act) (old new : Option (List Derivation)) → Gathers t names before l old new → Gathers t known before l old new
  gathers_longer before [] old new h = h
  gathers_longer before (a ∷ l) old new h = (h.0, one_longer before a old h.0 h.1, gathers_longer (before ++ a ∷ []) l h.0 new h.2)

-- ── one part behind another ──

gathers_on : (t : Table) (names : List Name) (before l m : List Act) (old mid new : Option (List Derivation)) → Gathers t names before l old mid → Gathers t names (before ++ l) m mid new → Gathers t names before (l ++ m) old new
gathers_on t names before [] m old mid new p q = subst (λ (o : Option (List Derivation)). Gathers t names before m o new) p (subst (λ (b : List Act). Gathers t names b m mid new) (append-nil before) q)
gathers_on t names before (a ∷ l) m old mid new p q =
    (p.0, p.1, gathers_on t names (before ++ a ∷ []) l m p.0 mid new p.2 (subst (λ (b : List Act). Gathers t names b m mid new) (sym (append_assoc before (a ∷ []) l)) q))

pub shares_itself : (t : Table) (names : List Name) (c : ℕ) (log : List Entry) (s : Share) → Shares t names c log log s s
shares_itself t names c log s = record { made = []; grows = sym (append-nil (acts c log)); gathers = refl }

pub shares_on : (t : Table) (names known : List Name) (c : ℕ) (past half now : List Entry) (old mid new : Share) → IsPrefix names known → Shares t names c past half old mid → Shares t known c half now mid new → Shares t known c past now old new
shares_on t names known c past half now old mid new longer p q = record {
  made = p.made ++ q.made;
  grows = q.grows ∙ ap (λ l. l ++ q.made) p.grows ∙ append_assoc (acts c past) p.made q.made;
  gathers = gathers_on t known (acts c past) p.made q.made (collected old) (collected mid) (collected new) (gathers_longer t names known longer (acts c past) p.made (collected old) (collected mid) p.gathers)
      (subst (λ (b : List Act). Gathers t known b q.made (collected mid) (collected new)) p.grows q.gathers);
}

-- ── acts that add nothing ──

none_here : (b : Bool) (n : ℕ) → cond b 1 0 + n ≡ 0 → (b ≡ false) × (n ≡ 0)
none_here true n e = absurd (omega (arith, e))
none_here false n e = (refl, omega (arith, e))

adds_none : (t : Table) (names : List Name) (before : List Act) (a : Act) (o : Option (List Derivation)) → is_entered by.Fresh a ≡ false → GathersOne t names before a o o
adds_none t names before (Call key q site args (verdict.Enter by.Fresh)) o h = absurd (cc h)
adds_none _ _ _ _ _ _ = refl

gathers_none : (t : Table) (names : List Name) (before l : List Act) (o : Option (List Derivation)) → count_by (is_entered by.Fresh) l ≡ 0 → Gathers t names before l o o
gathers_none t names before [] o h = refl
gathers_none t names before (a ∷ l) o h =
    let none = none_here (is_entered by.Fresh a) (count_by (is_entered by.Fresh) l) (sym (sum_by-cons (λ x. cond (is_entered by.Fresh x) 1 0) a l) ∙ h) in
    (o, adds_none t names before a o none.0, gathers_none t names (before ++ a ∷ []) l o none.1)

-- where no call entered on a fresh check, nothing was added
pub shares_quiet : (t : Table) (names known : List Name) (c : ℕ) (past now : List Entry) (x y : State) (told telling : Telling) (old new : Share) → Reads known c past now x y told telling → y.fresh ≡ x.fresh → collected new ≡ collected old → Shares t names c past now old new
shares_quiet t names known c past now x y told telling old new r same left = record {
  made = r.more;
  grows = r.grows;
  gathers = subst (λ (o : Option (List Derivation)). Gathers t names (acts c past) r.more (collected old) o) (sym left)
      (gathers_none t names (acts c past) r.more (collected old) (let e = r.tallies.fresh in omega (arith, e, same)));
}

-- the same of a turn that went well
pub shares_turned : (t : Table) (known : List Name) (c : ℕ) (past now : List Entry) (taken ended pending weight : ℕ) (fx : List Framed) (x : State) (fy : List Framed) (y : State) (told : Telling) (was conts : List Cont) (r : Result Hand AllocError) (s : Share)
    → y.fresh ≡ x.fresh → IfOk r (Turned t known c past now taken ended pending weight fx x fy y told was conts) → OnOk r (Shares t known c past now s s)
shares_turned t known c past now taken ended pending weight fx x fy y told was conts r s same turned =
    IfOk-weaker r _ _ (λ h a. shares_quiet t known known c past now x y told (after t a.move fy y) s s a.reads same refl) turned

-- ── a call that enters on a fresh check ──

snoc_split : {A : Type 0} (a x b : List A) (y : A) → a ++ x ≡ b ++ y ∷ [] → (x ≡ [] → ⊥) → (m : List A) × (x ≡ m ++ y ∷ []) × (b ≡ a ++ m)
snoc_split [] x b y e some = (b, e, refl)
snoc_split (h ∷ a) x [] y e some = absurd (some (none a x (let f : a ++ x ≡ [] = cc e in f)))
  where
    none : {A : Type 0} (a x : List A) → a ++ x ≡ [] → x ≡ []
    none [] x e = e
    none (h ∷ a) x e = absurd (cc e)
snoc_split (h ∷ a) x (k ∷ b) y e some =
    let r = snoc_split a x b y (cc e) some in
    let same : h ≡ k = cc e in
    (r.0, r.1, ap (λ q. q ∷ b) (sym same) ∙ ap (λ l. h ∷ l) r.2)

-- the last act of a decided call is its Call
last_call : (a : Asks) (names : List Name) (old mid : List Entry) (key : KeyId) (v : Verdict) (site : Option BodySite) (held : List KeyId) → IsDecidedOf a names old mid key v site held
    → (before : List Entry) × (acts a.door.caller mid ≡ acts a.door.caller before ++ Call key a.q site a.args v ∷ [])
last_call a names old mid key v site held d =
    let P : Fixed → CallNo → KeyId → ArgKinds → Type 0 = λ door q key args. (before : List Entry) × (mid ≡ before ++ entry door.caller (Call key q site args v) ∷ []) in
    let x : P a.door a.q key a.args =
    subst (λ (y : Fixed). P y a.q key a.args) d.door
    (subst (λ (y : CallNo). P d.given.door y key a.args) d.q
    (subst (λ (y : KeyId). P d.given.door d.given.q y a.args) d.called
    (subst (λ (y : ArgKinds). P d.given.door d.given.q d.given.key y) d.args (d.decided.before, d.decided.is)))) in
    (x.0, ap (acts a.door.caller) x.1 ∙ acts_append a.door.caller x.0 (entry a.door.caller (Call key a.q site a.args v) ∷ []) ∙ ap (λ l. acts a.door.caller x.0 ++ l) (own_act a.door.caller (Call key a.q site a.args v)))

-- what it collects is the derivation of its Call
takes_last : (t : Table) (names asked : List Name) (c : ℕ) (before now : List Entry) (cache : List (Option Kept)) (q : CallNo) (key : KeyId) (site : BodySite) (args : ArgKinds) (old new : Option (List Derivation))
    → IsTrueCache t names asked c now cache → acts c now ≡ acts c before ++ Call key q (Some site) args (verdict.Enter by.Fresh) ∷ [] → CollectsFew t names (stands c q.0 now) cache key.0 site old new → TakesOne t names (standing q.0 (acts c before)) key.0 site old new
takes_last t names asked c before now cache q key site args None new own is h = h
takes_last t names asked c before now cache q key site args (Some old) new own is h = (λ few. one (h.0 few), h.1)
  where
    one : CollectsOne t names (stands c q.0 now) cache key.0 site old new → TakesLast t names (standing q.0 (acts c before)) key.0 site old new
    one x =
        let held : stands c q.0 now ≡ standing q.0 (acts c before) = ap (standing q.0) is ∙ standing_stays q.0 (acts c before) (Call key q (Some site) args (verdict.Enter by.Fresh)) refl in
        let kept = own.each key.0 x.kept x.at in
        record {
          derivation = x.copy;
          made = record {
            good = subst (IsFor t) (sym x.same) kept.good;
            name = kept.name;
            named = subst (λ (k : ℕ). place names kept.name ≡ Some k) x.key kept.named;
            class = kept.class ∙ sym (ap (λ (d : Content). d.class) x.same);
            body = ap (λ (d : Content). site_numbered d.body) x.same ∙ x.body;
            declared = subst (λ (hs : List Stand). Found hs key.0 x.copy.declared) held x.declared;
            uses = subst (λ (hs : List Stand). FoundUses t names hs x.copy.uses.items) held x.uses;
          };
          last = x.last;
        }

-- what a call that entered added
pub shares_entered : (a : Asks) (names asked : List Name) (past now : List Entry) (cache : List (Option Kept)) (f : Frame) (way : By) (old new : Share)
    → IsDecidedOf a names past now f.key (verdict.Enter way) (Some f.body) f.held.items → IsTrueCache a.t names asked a.door.caller now cache → Collects a.t names (stands a.door.caller a.q.0 now) cache old new (Ok (entered.Frame f way)) → Shares a.t names a.door.caller past now old new
shares_entered a names asked past now cache f way old new d own h = each way d h
  where
    c : ℕ
    c = a.door.caller

    -- a call that entered on no fresh check
    other : (way : By) → is_entered by.Fresh (Call f.key a.q (Some f.body) a.args (verdict.Enter way)) ≡ false → ((r : CallNo) (key : KeyId) (args : ArgKinds) → is_entered by.Fresh (Call key r (Some f.body) args (verdict.Enter way)) ≡ false)
        → IsDecidedOf a names past now f.key (verdict.Enter way) (Some f.body) f.held.items → collected new ≡ collected old → Shares a.t names a.door.caller past now old new
    other way no_more each d left =
        let dec = decision_of a names past now f.key (verdict.Enter way) (Some f.body) f.held.items d in
        let none = call_counts (is_entered by.Fresh) (λ _ _ _ _. refl) (λ _ _. refl) a.t a.q.0 f.key.0 (kinds_of a.args) (Some f.body) (verdict.Enter way) (stands a.door.caller a.q.0 now) false each dec.made (ap (call_of a.t a.q.0 f.key.0 (kinds_of a.args)) (sym (append-nil dec.made)) ∙ dec.reads []) in
        record { made = dec.made; grows = dec.grows; gathers = subst (λ (o : Option (List Derivation)). Gathers a.t names (acts a.door.caller past) dec.made (collected old) o) (sym left) (gathers_none a.t names (acts a.door.caller past) dec.made (collected old) none) }

    each : (way : By) → IsDecidedOf a names past now f.key (verdict.Enter way) (Some f.body) f.held.items → Collects a.t names (stands a.door.caller a.q.0 now) cache old new (Ok (entered.Frame f way)) → Shares a.t names a.door.caller past now old new
    each by.Own d h = other by.Own refl (λ _ _ _. refl) d h
    each by.Shared d h = other by.Shared refl (λ _ _ _. refl) d h
    each by.Fresh d h =
        let dec = decision_of a names past now f.key (verdict.Enter by.Fresh) (Some f.body) f.held.items d in
        let call : Act = Call f.key a.q (Some f.body) a.args (verdict.Enter by.Fresh) in
        let one = call_counts (is_entered by.Fresh) (λ _ _ _ _. refl) (λ _ _. refl) a.t a.q.0 f.key.0 (kinds_of a.args) (Some f.body) (verdict.Enter by.Fresh) (stands a.door.caller a.q.0 now) true (λ _ _ _. refl) dec.made (ap (call_of a.t a.q.0 f.key.0 (kinds_of a.args)) (sym (append-nil dec.made)) ∙ dec.reads []) in
        let last = last_call a names past now f.key (verdict.Enter by.Fresh) (Some f.body) f.held.items d in
        let some : dec.made ≡ [] → ⊥ = λ e. let n = ap (count_by (is_entered by.Fresh)) e in absurd (omega (arith, n, one)) in
        let s = snoc_split (acts a.door.caller past) dec.made (acts a.door.caller last.0) call (sym dec.grows ∙ last.1) some in
        let total = sum_by-append (λ x. cond (is_entered by.Fresh x) 1 0) s.0 (call ∷ []) in
        let m = s.0 in
        let sum : count_by (is_entered by.Fresh) dec.made ≡ count_by (is_entered by.Fresh) m + 1 = ap (count_by (is_entered by.Fresh)) s.1 ∙ total in
        let none : count_by (is_entered by.Fresh) m ≡ 0 = omega (arith, one, sum) in
        record {
          made = dec.made;
          grows = dec.grows;
          gathers = subst (λ (l : List Act). Gathers a.t names (acts a.door.caller past) l (collected old) (collected new)) (sym s.1)
              (gathers_on a.t names (acts a.door.caller past) m (call ∷ []) (collected old) (collected old) (collected new) (gathers_none a.t names (acts a.door.caller past) m (collected old) none)
              (collected new, subst (λ (l : List Act). TakesOne a.t names (standing a.q.0 l) f.key.0 f.body (collected old) (collected new)) s.2 (takes_last a.t names asked a.door.caller last.0 now cache a.q f.key f.body a.args (collected old) (collected new) own last.1 h), refl));
        }
