-- A fresh check whose call was decided: what is kept of it is true, and the caller's own.
use Rattle.std.proofs.Common.{◌≡◌, ◌⊎◌, inl, inr, ℕ, suc, ◌+◌, ◌≤◌, eqb, Bool, true, false, cond, List, [], ◌∷◌, ◌++◌, map, Some, None, refl, sym, ap, ◌∙◌, subst, arith, append_assoc, eq-eqb}
use Rattle.std.proofs.lemmas.List.{append-nil}
use Rattle.std.proofs.lemmas.Bool.{eqb-true}
use Rattle.std.proofs.lemmas.Option.{none-some, same_Some}
use Rattle.std.specs.Prelude.{Contains, Option, is_some, if◌then◌else◌}
use Rattle.std.specs.Option.{option_map}
use Rattle.std.specs.List.{AllByRecursion}
use mathlib.Core.List.{IsPrefix}
use Rattle.hb_types.specs.declared.ids.BodySite.{BodySite}
use Rattle.hb_types.specs.declared.ids.CallNo.{CallNo}
use Rattle.hb_types.specs.declared.ids.KeyId.{KeyId}
use Rattle.hb_types.specs.declared.ids.TypeSite.{TypeSite}
use Rattle.hb_tree.specs.Table.{Table}
use Rattle.hb_deriv.specs.declared.raw.Used.{Used}
use Rattle.hb_deriv.specs.declared.raw.Derivation.{Derivation}
use Rattle.hb_deriv.specs.Derivation.{Content, IsCopy, content_of, key_of, type_at}
use Rattle.hb_deriv.specs.Judge.{Key}
use Rattle.hb_deriv.specs.Programs.{IsFor, sites_of}
use Rattle.hb_cache.specs.declared.kept.Kept.{Kept}
use Rattle.hb_cache.specs.declared.kept.Seen.{Seen}
use Rattle.hb_cache.specs.Cache.{SaysSame}
use Rattle.hb_cache.specs.Kept.{count_in, item_of, kept_at}
use Rattle.hb_check.specs.Asked.{Asked, answer_of, asked}
use Rattle.hb_names.specs.Names.{Name, place}
use Rattle.hb_tables.specs.declared.entry.Entry.{Entry}
use Rattle.hb_tables.specs.declared.entry.Act.{Act}
use Rattle.hb_tables.specs.declared.entry.Act.TheVariants.{Call, Hold}
use Rattle.hb_tables.specs.declared.entry.Verdict.TheVariants as verdict
use Rattle.hb_tables.specs.declared.entry.By.TheVariants as by
use Rattle.hb_tables.specs.Frames.{acts}
use Rattle.hb_tables.specs.declared.desk.Held.{Held}
use Rattle.hb_tables.specs.History.{Adds, entry, spot, times, IsLegal}
use Rattle.hb_tables.specs.Names.{name_of}
use Rattle.hb_tables.specs.Standing.{Stand, count_of, standing}
use Rattle.hb_tables.proofs.FrameLemmas.{acts_append}
use Rattle.hb_tables.proofs.AddingLemmas.{held_after}
use Rattle.hb_tables.proofs.HistoryLemmas.{legal_prefix}
use Rattle.hb_tables.proofs.HoldingLemmas.{holds_since}
use Rattle.hb_tables.proofs.StandingLemmas.{held_stands, standing_append}
use Rattle.hb_call.specs.declared.answers.Answer.{Answer}
use Rattle.hb_call.specs.Calling.{AreTrue, Given, HasType, IsAmong, IsAskedFor, answers_of}
use Rattle.hb_call.specs.Deciding.{IsResting}
use Rattle.hb_call.specs.GrowthLaws.{prefix_itself}
use Rattle.hb_call.specs.Held.{stands}
use Rattle.hb_call.specs.Own.{WasSeen, item_by}
use Rattle.hb_call.specs.OwnCache.{AreUses, HoldsCheck, IsFound, IsOwnCache, IsTrueCheck}
use Rattle.hb_call.specs.OwnLaws.{check_on, own_put}
use Rattle.hb_call.specs.Sharing.{Found, FoundUses}
use Rattle.hb_call.proofs.StayLemmas.{hold_finds, type_stays}
use Rattle.hb_call.proofs.OwnLemmas.{IsStill, once_held, says_held, stands_still}

-- what is kept of an answer
abbrev pub seen_of : Answer → Seen
seen_of a = record { key = a.key; site = a.held.ty; changes = a.held.changes }

-- ── a key that a call holds has a Hold that stands ──

among_stands : (log : List Entry) (hs : List Stand) (k : ℕ) → AllByRecursion (IsStill log) hs → 1 ≤ count_of k hs → (h : Stand) × Contains hs h × (h.key ≡ k) × IsStill log h
among_stands log [] k all some = absurd (omega (arith, some))
among_stands log (x ∷ hs) k all some = by (eqb k x.key) refl (among_stands log hs k all.1) some
  where
    by : (b : Bool) → eqb k x.key ≡ b → (1 ≤ count_of k hs → (h : Stand) × Contains hs h × (h.key ≡ k) × IsStill log h) → 1 ≤ cond b 1 0 + count_of k hs → (h : Stand) × Contains (x ∷ hs) h × (h.key ≡ k) × IsStill log h
    by true is later some = (x, (0, omega arith, refl), sym (eqb-true k x.key is), all.0)
    by false is later some = let r = later (omega (arith, some)) in let at = r.1 in (r.0, (suc at.0, (let low = at.1 in omega (arith, low)), at.2), r.2, r.3)

pub stand_found : (limit c q : ℕ) (log : List Entry) (k : ℕ) → IsLegal limit log → times (c, q) (spot k log).calls ≡ 1 → (h : Stand) × Contains (stands c q log) h × (h.key ≡ k) × IsStill log h
stand_found limit c q log k legal one = among_stands log (stands c q log) k (stands_still limit c q log legal) (let s = held_stands c q k log in omega (arith, s, one))

-- and it found the type that the key has
pub found_here : (limit c q : ℕ) (log : List Entry) (k : ℕ) (site : TypeSite) → IsLegal limit log → times (c, q) (spot k log).calls ≡ 1 → (spot k log).ty ≡ Some site → Found (stands c q log) k site
found_here limit c q log k site legal one ty =
    let r = stand_found limit c q log k legal one in
    record { stand = r.0; among = r.1; key = r.2; ty = r.3.0 ∙ ap (λ j. (spot j log).ty) r.2 ∙ ty }

-- ── answers and the uses that are their own ──

site_of : (o : Option TypeSite) (site : TypeSite) → option_map (λ (s : TypeSite). s.0) o ≡ Some site.0 → o ≡ Some site
site_of None site e = absurd (none-some site.0 e)
site_of (Some s) site e = let p : s.0 ≡ site.0 = same_Some s.0 site.0 e in ap Some (λ i. record { 0 = p i })

-- a call that holds a key has a Hold of it in the list, which found what the key has
seen_here : (limit c : ℕ) (q : CallNo) (key : KeyId) (site : Option TypeSite) (n : ℕ) (log : List Entry) → IsLegal limit log → times (c, q.0) (spot key.0 log).calls ≡ 1 → site ≡ (spot key.0 log).ty → n ≡ (spot key.0 log).changes → WasSeen key n site log
seen_here limit c q key site n log legal one ty changes =
    let h = holds_since c q key log one in
    let e : Entry = entry c (Hold key q h.ty h.changes) in
    let start : List Entry = h.before ++ e ∷ [] in
    let goes : start ++ h.after ≡ log = append_assoc h.before (e ∷ []) h.after ∙ sym h.is in
    let adds : Adds c h.before start (Hold key q h.ty h.changes) = ([], ap (λ w. w ++ e ∷ []) (sym (append-nil h.before)), refl) in
    let finds = hold_finds limit c q key h.ty h.changes h.before start adds (legal_prefix limit start log (h.after, goes) legal) in
    let found : Held = record { ty = h.ty; changes = h.changes } in
    let typed : HasType start (c, q.0) key.0 found = (held_after c h.before start q key h.ty h.changes adds (legal h.before h.after e h.is).2, finds.0, finds.1) in
    let stays = subst (λ l. HasType l (c, q.0) key.0 found) goes (type_stays limit c q.0 start h.after (subst (IsLegal limit) (sym goes) legal) key.0 h.keeps found typed) in
    record {
      before = h.before;
      caller = c;
      call = q;
      after = h.after;
      is = h.is ∙ ap (λ (o : Option TypeSite). h.before ++ entry c (Hold key q o h.changes) ∷ h.after) (stays.1 ∙ sym ty) ∙ ap (λ m. h.before ++ entry c (Hold key q site m) ∷ h.after) (stays.2 ∙ sym changes);
    }

module _ (t : Table) (names asked_names : List Name) (log : List Entry) (x : ℕ × ℕ) where
  found_all : (answers : List Answer) → AreTrue t names log x answers → AllByRecursion (IsFound log x) (map seen_of answers)
  found_all [] h = tt
  found_all (a ∷ answers) h = (h.1, found_all answers h.2)

  -- the name of a use is that of its answer
  use_named : (a : Answer) (u : Used) (k : ℕ) → asked a.class a.name a.held.ty ≡ answer_of u → place names (name_of t (a.class.0, a.name.0)) ≡ Some k → place names (name_of t (key_of u)) ≡ Some k
  use_named a u k e named =
      let class : u.class.0 ≡ a.class.0 = ap (λ (y : Asked). y.class) (sym e) in let name : u.name.0 ≡ a.name.0 = ap (λ (y : Asked). y.name) (sym e) in
      ap (λ (key : Key). place names (name_of t key)) (λ i. (class i, name i)) ∙ named

  uses_true : (limit : ℕ) → IsLegal limit log → (answers : List Answer) (us : List Used) → answers_of answers ≡ map answer_of us → AreTrue t names log x answers → ((k : ℕ) → times x (spot k log).calls ≡ 1 → IsAskedFor names asked_names k) → AreUses t names asked_names log us (map seen_of answers)
  uses_true limit legal [] [] e h all = tt
  uses_true limit legal [] (u ∷ us) e h all = absurd (cc e)
  uses_true limit legal (a ∷ answers) [] e h all = absurd (cc e)
  uses_true limit legal (a ∷ answers) (u ∷ us) e h all =
      let head : asked a.class a.name a.held.ty ≡ answer_of u = cc e in (
        record {
          named = use_named a u a.key.0 head h.0;
          was = seen_here limit x.0 (record { 0 = x.1 }) a.key a.held.ty a.held.changes log legal h.1.0 h.1.1 h.1.2;
          typed = ap (type_at (sites_of t)) (ap (λ (y : Asked). y.site) head);
          asked_for = all a.key.0 h.1.0;
        },
        uses_true limit legal answers us (cc e) h.2 all,
      )

  among_uses : (answers : List Answer) (k : ℕ) → IsAmong k answers → is_some (count_in (map seen_of answers) k) ≡ true
  among_uses [] k i = absurd i
  among_uses (a ∷ answers) k i = by (eqb a.key.0 k) refl (among_uses answers k) i
    where
      by : (b : Bool) → eqb a.key.0 k ≡ b → (IsAmong k answers → is_some (count_in (map seen_of answers) k) ≡ true) → (k ≡ a.key.0) ⊎ IsAmong k answers → is_some (if b then Some a.held.changes else count_in (map seen_of answers) k) ≡ true
      by true is later i = refl
      by false is later (inl e) = absurd (let f = eq-eqb a.key.0 k (sym e) in cc (f, is))
      by false is later (inr i) = later i

pub found_uses : (t : Table) (names : List Name) (limit c q : ℕ) (log : List Entry) (answers : List Answer) (us : List Used) → IsLegal limit log → answers_of answers ≡ map answer_of us → AreTrue t names log (c, q) answers → FoundUses t names (stands c q log) us
found_uses t names limit c q log [] [] legal e h = tt
found_uses t names limit c q log [] (u ∷ us) legal e h = absurd (cc e)
found_uses t names limit c q log (a ∷ answers) [] legal e h = absurd (cc e)
found_uses t names limit c q log (a ∷ answers) (u ∷ us) legal e h =
    let head : asked a.class a.name a.held.ty ≡ answer_of u = cc e in (
      (a.key.0, use_named t names [] log (c, q) a u a.key.0 head h.0, found_here limit c q log a.key.0 u.site legal h.1.0 (sym h.1.1 ∙ site_of a.held.ty u.site (ap (λ (y : Asked). y.site) head))),
      found_uses t names limit c q log answers us legal (cc e) h.2,
    )

-- ── what is kept of a fresh check ──

module _ (g : Given) (past : Option (List Act)) (known asked_names : List Name) (new : List Entry) (held : List KeyId) (answers : List Answer) (d : Derivation) (r : IsResting g past known asked_names new held answers d)
    (kept : Kept) (keyed : kept.key ≡ g.key) (count : kept.changes ≡ g.own.changes) (counts : kept.counts.items ≡ map seen_of answers) (derived : kept.derivation ≡ d) where
  abbrev c : ℕ
  c = g.door.caller

  abbrev x : ℕ × ℕ
  x = (g.door.caller, g.q.0)

  abbrev log : List Entry
  log = r.before

  -- the call holds its keys, which have the counts that are kept
  pub resting_holds : HoldsCheck r.before (g.door.caller, g.q.0) kept
  resting_holds = record {
    own = ap (λ (k : KeyId). times x (spot k.0 log).calls) keyed ∙ r.calling.own_is.0;
    changes = count ∙ r.calling.own_is.2 ∙ ap (λ (k : KeyId). (spot k.0 log).changes) (sym keyed);
    found = subst (λ (l : List Seen). AllByRecursion (IsFound log x) l) (sym counts) (found_all g.t known asked_names log x answers r.calling.answered);
    only = λ k one. by k (eqb kept.key.0 k) refl (r.calling.only k one);
  }
    where
      by : (k : ℕ) (b : Bool) → eqb kept.key.0 k ≡ b → (k ≡ g.key.0) ⊎ IsAmong k answers → is_some (if b then Some kept.changes else count_in kept.counts.items k) ≡ true
      by k true is i = refl
      by k false is (inl e) = absurd (let f = eq-eqb kept.key.0 k (ap (λ (j : KeyId). j.0) keyed ∙ sym e) in cc (f, is))
      by k false is (inr i) = ap (λ (l : List Seen). is_some (count_in l k)) counts ∙ among_uses g.t known asked_names r.before (g.door.caller, g.q.0) answers k i

  true_uses : AreUses g.t known asked_names log kept.derivation.uses.items kept.counts.items
  true_uses = subst (λ (z : Derivation). AreUses g.t known asked_names log z.uses.items kept.counts.items) (sym derived)
      (subst (λ (l : List Seen). AreUses g.t known asked_names log d.uses.items l) (sym counts) (uses_true g.t known asked_names log x g.door.limit r.calling.legal answers d.uses.items r.shown.shown.uses r.calling.answered r.calling.asked_for))

  -- what is kept is true
  pub resting_true : IsTrueCheck g.t known asked_names r.before kept
  resting_true = record {
    good = subst (λ (z : Derivation). IsFor g.t (content_of z)) (sym derived) r.shown.shown.good;
    name = (g.class.0, r.named.0);
    named = r.named.1 ∙ ap (λ (k : KeyId). Some k.0) (sym keyed);
    class = sym r.shown.shown.class_is ∙ ap (λ (z : Derivation). z.class.0) (sym derived);
    site = r.shown.declared;
    was = seen_here g.door.limit g.door.caller g.q kept.key (Some r.shown.declared) kept.changes log r.calling.legal resting_holds.own (sym r.shown.typed ∙ r.calling.own_is.1 ∙ ap (λ (k : KeyId). (spot k.0 log).ty) (sym keyed)) resting_holds.changes;
    typed = ap (sites_of g.t) (sym r.shown.shown.declared_is ∙ ap (λ (z : Derivation). z.declared.0) (sym derived));
    asked_for = r.calling.asked_for kept.key.0 resting_holds.own;
    uses = true_uses;
    once = once_held log x kept resting_holds;
  }

  acts_new : acts c new ≡ acts c log ++ Call g.key g.q (Some d.body) g.args (verdict.Enter by.Fresh) ∷ []
  acts_new =
      let e = eq-eqb c c refl in
      let one : acts c (entry c (Call g.key g.q (Some d.body) g.args (verdict.Enter by.Fresh)) ∷ []) ≡ Call g.key g.q (Some d.body) g.args (verdict.Enter by.Fresh) ∷ [] = rw e refl in
      ap (acts c) r.is ∙ acts_append c log (entry c (Call g.key g.q (Some d.body) g.args (verdict.Enter by.Fresh)) ∷ []) ∙ ap (λ w. acts c log ++ w) one

  stands_new : stands c g.q.0 new ≡ stands c g.q.0 log
  stands_new = ap (standing g.q.0) acts_new ∙ standing_append g.q.0 [] (acts c log) (Call g.key g.q (Some d.body) g.args (verdict.Enter by.Fresh) ∷ [])

  -- behind the Call what is kept with it is the caller's own
  pub resting_own : (left : List (Option Kept)) → ((k : ℕ) → kept_at left k ≡ (if eqb kept.key.0 k then Some kept else kept_at g.cache k)) → IsOwnCache g.t known asked_names g.door.caller past new left
  resting_own left puts =
      let goes : IsPrefix log new = (entry c (Call g.key g.q (Some d.body) g.args (verdict.Enter by.Fresh)) ∷ [], sym r.is) in
      own_put g.t known known asked_names asked_names c past log new g.cache (prefix_itself known) (prefix_itself asked_names) r.kept g.q g.key d.body g.args (verdict.Enter by.Fresh) kept left goes acts_new refl keyed
      (subst (λ (s : BodySite). SaysSame (item_of kept) (item_by (stands c g.q.0 log) s)) (ap (λ (z : Derivation). z.body) derived) (says_held g.door.limit c g.q.0 log kept r.calling.legal resting_holds))
      (check_on g.t known known asked_names asked_names log new (prefix_itself known) (prefix_itself asked_names) goes kept resting_true) puts

  -- the sites of a copy of its derivation are those that the Holds that stand found
  pub resting_found : (copy : Derivation) → IsCopy kept.derivation copy → Found (stands g.door.caller g.q.0 new) g.key.0 copy.declared × FoundUses g.t known (stands g.door.caller g.q.0 new) copy.uses.items
  resting_found copy same =
      let declared : r.shown.declared ≡ copy.declared = let p : r.shown.declared.0 ≡ copy.declared.0 = sym r.shown.shown.declared_is ∙ ap (λ (z : Derivation). z.declared.0) (sym derived) ∙ ap (λ (y : Content). y.declared) (sym same) in λ i. record { 0 = p i } in
      let us : answers_of answers ≡ map answer_of copy.uses.items = r.shown.shown.uses ∙ ap (λ (z : Derivation). map answer_of z.uses.items) (sym derived) ∙ ap (λ (y : Content). map answer_of y.uses) (sym same) in (
        subst (λ (hs : List Stand). Found hs g.key.0 copy.declared) (sym stands_new)
            (found_here g.door.limit c g.q.0 log g.key.0 copy.declared r.calling.legal r.calling.own_is.0 (sym r.calling.own_is.1 ∙ r.shown.typed ∙ ap Some declared)),
        subst (λ (hs : List Stand). FoundUses g.t known hs copy.uses.items) (sym stands_new) (found_uses g.t known g.door.limit c g.q.0 log answers copy.uses.items r.calling.legal us r.calling.answered),
      )
