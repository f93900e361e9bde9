-- Why a check that is kept may be taken again.
use Rattle.std.proofs.Common.{◌≡◌, ℕ, zero, suc, ◌⊎◌, inl, inr, Bool, true, false, List, [], ◌∷◌, ◌++◌, map, take, drop, Some, Ok, refl, sym, ap, ◌∙◌, subst, eq-eqb}
use Rattle.std.proofs.lemmas.List.{append-nil}
use Rattle.std.specs.Prelude.{Option, Err, slice_get, if◌then◌else◌, ◌||◌}
use Rattle.std.specs.Option.{option_map}
use Rattle.hb_types.specs.declared.{ids.TypeSite.TypeSite, types.Ty.Ty, types.MethodTy.MethodTy}
use Rattle.hb_types.specs.Types.{is_below}
use Rattle.hb_tree.specs.declared.parts.Body.{Body}
use Rattle.hb_tree.specs.Table.{Table}
use Rattle.hb_deriv.specs.declared.{raw.Used.Used, raw.Step.Step}
use Rattle.hb_deriv.specs.Judge.{Key, Types, Typed, Subject, Verdict as Judged, judge, variables_of, has_count}
use Rattle.hb_deriv.specs.Judgement.{IsJudged}
use Rattle.hb_deriv.specs.Events.{Events, SameAt, events, events_body, fresh, looks, same_key, has}
use Rattle.hb_deriv.specs.Derivation.{AgreesWith, Content, Sites, content_of, key_of, table, type_at, type_of}
use Rattle.hb_deriv.specs.Programs.{IsFor, sites_of, subject_from}
use Rattle.hb_deriv.specs.Walk.{State, AtStep, ◌>>>◌, walk, no_use, at_end, start, IsGood}
use Rattle.hb_deriv.proofs.{AlongLemmas.answer, AlongLemmas.along, GoodLemmas.good_derives, KeyLemmas.key_same, LookLemmas.looks_onward}
use Rattle.hb_deriv.proofs.WalkLemmas.{replay, then_ok, walked_same, Passed, passed_by}
use Rattle.hb_cache.specs.declared.{kept.Kept.Kept, kept.Seen.Seen}
use Rattle.hb_check.specs.Asked.{Agrees, Declared, asked, key_asked, types_in}
use Rattle.hb_names.specs.Names.{Name, place}
use Rattle.hb_names.proofs.NameLemmas.{place-at}
use Rattle.hb_tables.specs.declared.{desk.Held.Held, entry.Entry.Entry}
use Rattle.hb_tables.specs.declared.entry.Verdict.TheVariants as verdict
use Rattle.hb_tables.specs.declared.entry.By.TheVariants as by
use Rattle.hb_tables.specs.{History.IsLegal, History.spot, Rows.body_at, Rows.kinds_of, Verdicts.looks_of, Verdicts.subject}
use Rattle.hb_tables.proofs.VerdictLemmas.{enters_of}
use Rattle.hb_call.specs.declared.answers.Answer.{Answer}
use Rattle.hb_call.specs.Calling.{Given, HasType, answers_of}
use Rattle.hb_call.specs.{Comparing.TakesArgs, Comparing.answers_in, OwnCache.AreUses, OwnCache.IsTrueCheck, OwnLaws.seen_now}
use Rattle.hb_call.specs.Deciding.{AreNext, IsVerdictBy, type_declared}
use Rattle.hb_call.proofs.DecidingLemmas.{fits_type, parts}

-- ── the uses of a good derivation are the looks in their own table ──

stood : (s : State) (v : Judged Typed) (r : State × Typed) → answer v s ≡ Ok r → s ≡ r.0
stood s (Ok y) r h = let e = walked_same (s, y) r h in ap (λ (p : State × Typed). p.0) e
stood s (Err f) r h = absurd (cc)

none_left : (s z : State) (l : List Used) → no_use s l ≡ Ok z → l ≡ []
none_left s z [] h = refl
none_left s z (u ∷ us) h = absurd (cc)

ends_so : (limit : Ty) (s : State) (t : Ty) (l : List Step) (z : State) → at_end limit s t l ≡ Ok z → s.left ≡ []
ends_so limit s t (p ∷ ps) z h = absurd (cc)
ends_so limit s t [] z h = go (is_below t limit) h
  where
    go : (b : Bool) → (if b then no_use s s.left else Err (AtStep s.passed)) ≡ Ok z → s.left ≡ []
    go true h = none_left s z s.left h
    go false h = absurd (cc)

good_looks : (sites : Sites) (s : Subject) (d : Content) → IsGood sites s d → map key_of d.uses ≡ looks (table sites d.uses) s
good_looks sites s d g = counted (has_count s) refl g.ends
  where
    T : Types
    T = table sites d.uses

    es : Events
    es = events T s.self s.block (variables_of s)

    finish : (z : State) → Passed (start d) es z → z.left ≡ [] → has_count s ≡ true → map key_of d.uses ≡ looks T s
    finish z p l n =
        let all_used : d.uses ≡ p.used = p.left ∙ ap (λ (us : List Used). p.used ++ us) l ∙ append-nil p.used in
        let body : events_body T s ≡ es = rw n refl in
        ap (map key_of) all_used ∙ p.keys ∙ ap (λ (x : Events). fresh [] x) (sym body)

    counted : (b : Bool) → has_count s ≡ b → (if b then walk sites s.self s.block (variables_of s) (start d) >>> (λ p. at_end s.declared.result p.0 p.1.1 p.0.steps) else Err (AtStep 0)) ≡ Ok
        g.last → map key_of d.uses ≡ looks T s
    counted false n ends = absurd (cc)
    counted true n ends =
        let a = then_ok (walk sites s.self s.block (variables_of s) (start d)) _ g.last ends in
        let b = then_ok (replay (start d) es) _ a.0 (sym ((along sites d.uses s.self s.block (variables_of s)).by (start d) refl) ∙ a.1) in
        let y = stood b.0 (judge T s.self s.block (variables_of s)) a.0 b.2 in
        let z = ends_so s.declared.result a.0.0 a.0.1.1 a.0.0.steps g.last a.2 in
        finish b.0 (passed_by (start d) es b.0 b.1) (ap (λ (x : State). x.left) y ∙ z) n

-- ── where tables agree with the first uses ──

agrees_more : (sites : Sites) (u : Used) (us : List Used) (T : Types) → AgreesWith sites (u ∷ us) T → AgreesWith sites us T
agrees_more sites u us T h = h.1

-- at the key of one of the first uses the table of the uses has what tables have that agree with these
table_front : (sites : Sites) (ms ns : List Used) (U : Types) (k : Key) → AgreesWith sites ms U → has k (map key_of ms) ≡ true → table sites (ms ++ ns) k ≡ U k
table_front sites [] ns U k h i = absurd (cc)
table_front sites (m ∷ ms) ns U k h i = go (same_key (key_of m) k) refl i (table_front sites ms ns U k h.1)
  where
    go : (b : Bool) → same_key (key_of m) k ≡ b → (b || has k (map key_of ms)) ≡ true → (has k (map key_of ms) ≡ true → table sites (ms ++ ns) k ≡ U k) → (if b then type_of sites m else table sites (ms ++ ns) k) ≡ U k
    go true e i rest = sym (subst (λ (j : Key). U j ≡ type_of sites m) (key_same (key_of m) k e) h.0)
    go false e i rest = rest i

same_front : (T U : Types) (ks : List Key) → ((k : Key) → has k ks ≡ true → T k ≡ U k) → SameAt T U ks
same_front T U [] h = tt
same_front T U (k ∷ ks) h = (h k (rw (key_itself k) refl), same_front T U ks (λ j i. h j (or_true (same_key k j) (has j ks) i)))
  where
    or_true : (a b : Bool) → b ≡ true → (a || b) ≡ true
    or_true true b e = refl
    or_true false b e = e

    key_itself : (k : Key) → same_key k k ≡ true
    key_itself k = rw (eq-eqb k.0 k.0 refl, eq-eqb k.1 k.1 refl) refl

-- these answers follow the uses: each is of its use's method, and each but the last has its type
abbrev pub Follows : Table → List Used → List Answer → Type 0
Follows t us [] = Unit {0}
Follows t [] (a ∷ answers) = ⊥
Follows t (u ∷ us) (a ∷ answers) = (key_of u ≡ (a.class.0, a.name.0)) × ((answers ≡ []) ⊎ (type_at (sites_of t) (option_map (λ (s : TypeSite). s.0) a.held.ty) ≡ type_of (sites_of t) u)) × Follows t us answers

record Cut (t : Table) (us : List Used) (first : List Answer) (a : Answer) (U : Types) : Type 0 where
  ms : List Used
  u : Used
  ns : List Used
  is : us ≡ ms ++ u ∷ ns
  key : key_of u ≡ (a.class.0, a.name.0)
  keys : map key_of ms ≡ map key_asked (answers_of first)
  agrees : AgreesWith (sites_of t) ms U

not_nil : (first rest : List Answer) (a : Answer) → first ++ a ∷ rest ≡ [] → ⊥
not_nil [] rest a e = cc e
not_nil (b ∷ first) rest a e = cc e

cut : (t : Table) (us : List Used) (first rest : List Answer) (a : Answer) (D : Declared) → Follows t us (first ++ a ∷ rest) → Agrees (answers_of first) D → Cut t us first a (types_in (sites_of t) D)
cut t [] [] rest a D f h = absurd f
cut t [] (b ∷ first) rest a D f h = absurd f
cut t (u ∷ us) [] rest a D f h = record { ms = []; u = u; ns = us; is = refl; key = f.0; keys = refl; agrees = tt }
cut t (u ∷ us) (b ∷ first) rest a D f h =
    let c = cut t us first rest a D f.2 h.1 in
    let typed : type_at (sites_of t) (option_map (λ (s : TypeSite). s.0) b.held.ty) ≡ type_of (sites_of t) u = elim f.1 [ inl e ↦ absurd (not_nil first rest a e) | inr e ↦ e ] in
    record {
      ms = u ∷ c.ms;
      u = c.u;
      ns = c.ns;
      is = ap (λ (l : List Used). u ∷ l) c.is;
      key = c.key;
      keys = ap (λ (k : Key). k ∷ map key_of c.ms) f.0 ∙ ap (λ (l : List Key). (b.class.0, b.name.0) ∷ l) c.keys;
      agrees = (ap (types_in (sites_of t) D) f.0 ∙ ap (type_at (sites_of t)) h.0 ∙ typed, c.agrees);
    }

map_parts : (ms ns : List Used) (u : Used) → map key_of (ms ++ u ∷ ns) ≡ map key_of ms ++ key_of u ∷ map key_of ns
map_parts [] ns u = refl
map_parts (m ∷ ms) ns u = ap (λ (l : List Key). key_of m ∷ l) (map_parts ms ns u)

-- ── a kept check of the called method ──

-- the derivation is for the program, of the call's class, at the type that the own key has
pub record IsUsable (g : Given) (kept : Kept) : Type 0 where
  pub good : IsFor g.t (content_of kept.derivation)
  pub class : kept.derivation.class.0 ≡ g.class.0
  pub declared : type_declared g.t g.own.ty ≡ sites_of g.t kept.derivation.declared.0

pub usable : (g : Given) (names asked : List Name) (log : List Entry) → IsLegal g.door.limit log → (kept : Kept) (bytes : List ℕ) → IsTrueCheck g.t names asked log kept → place names (g.class.0, bytes) ≡ Some g.key.0
    → kept.key.0 ≡ g.key.0 → kept.changes ≡ g.own.changes → HasType log (g.door.caller, g.q.0) g.key.0 g.own → IsUsable g kept
usable g names asked log legal kept bytes h named key changes own =
    let one : slice_get names g.key.0 ≡ Some h.name = ap (slice_get names) (sym key) ∙ place-at names h.name kept.key.0 h.named in
    let two : slice_get names g.key.0 ≡ Some (g.class.0, bytes) = place-at names (g.class.0, bytes) g.key.0 named in
    let same : h.name ≡ (g.class.0, bytes) = let e : Some h.name ≡ Some (g.class.0, bytes) = sym one ∙ two in cc e in
    let now : (spot kept.key.0 log).changes ≡ kept.changes = ap (λ k. (spot k log).changes) key ∙ sym own.2 ∙ sym changes in
    let ty : g.own.ty ≡ Some h.site = own.1 ∙ ap (λ k. (spot k log).ty) (sym key) ∙ seen_now g.door.limit kept.key kept.changes (Some h.site) log legal h.was now in
    record {
      good = h.good;
      class = sym h.class ∙ ap (λ (n : Name). n.0) same;
      declared = ap (type_declared g.t) ty ∙ h.typed;
    }

module _ (g : Given) (kept : Kept) (h : IsUsable g kept) (args : TakesArgs g) where
  subject_is : subject_from g.t g.class.0 (slice_get g.t.bodies kept.derivation.body.0) (type_declared g.t g.own.ty) ≡ Some h.good.subject
  subject_is = ap (λ (m : Option MethodTy). subject_from g.t g.class.0 (slice_get g.t.bodies kept.derivation.body.0) m) h.declared
      ∙ ap (λ (c : ℕ). subject_from g.t c (slice_get g.t.bodies kept.derivation.body.0) (sites_of g.t kept.derivation.declared.0)) (sym h.class) ∙ h.good.is

  own_type : type_declared g.t g.own.ty ≡ Some args.ty
  own_type = ap (type_declared g.t) args.typed ∙ args.is

  looks_are : (T : Types) → looks_of g.t T g.class.0 (body_at g.t (Some kept.derivation.body)) (type_declared g.t g.own.ty) (kinds_of g.args) ≡ looks T h.good.subject
  looks_are T =
      let p = parts g.t g.class.0 (slice_get g.t.bodies kept.derivation.body.0) (type_declared g.t g.own.ty) h.good.subject subject_is in
      ap (λ (b : Option Body). looks_of g.t T g.class.0 b (type_declared g.t g.own.ty) (kinds_of g.args)) p.has_body ∙ ap (λ (n : Option MethodTy). looks_of g.t T g.class.0 (Some p.body) n (kinds_of g.args)) p.has_type
      ∙ ap (λ (b : Bool). if b then looks T (subject g.t g.class.0 p.body p.declared) else [])
      (fits_type args.ty p.declared (kinds_of g.args) (type_declared g.t g.own.ty) own_type p.has_type args.fits) ∙ ap (looks T) p.is

  -- answers that follow the uses are the next looks
  pub kept_next : (answers : List Answer) → Follows g.t kept.derivation.uses.items answers → AreNext g (Some kept.derivation.body) answers
  kept_next answers f first rest a is D agree =
      let s = sites_of g.t in let U = types_in s D in let us = kept.derivation.uses.items in let T = table s us in
      let c = cut g.t us first rest a D (subst (Follows g.t us) is f) agree in
      let keys : looks T h.good.subject ≡ map key_of c.ms ++ key_of c.u ∷ map key_of c.ns = sym (good_looks s h.good.subject (content_of kept.derivation) h.good.good) ∙ ap (map key_of) c.is ∙ map_parts c.ms c.ns c.u in
      let same : SameAt T U (map key_of c.ms) = same_front T U (map key_of c.ms) (λ k i. ap (λ (l : List Used). table s l k) c.is ∙ table_front s c.ms (c.u ∷ c.ns) U k c.agrees i) in
      let on = looks_onward T U h.good.subject (map key_of c.ms) (map key_of c.ns) (key_of c.u) keys same in
      (on.0, looks_are U ∙ on.1 ∙ ap (λ (l : List Key). l ++ key_of c.u ∷ on.0) c.keys ∙ ap (λ (k : Key). map key_asked (answers_of first) ++ k ∷ on.0) c.key)

  -- where all types are as they were, the body is judged, and its looks are the uses
  pub kept_verdict : (names asked : List Name) (log : List Entry) → AreUses g.t names asked log kept.derivation.uses.items kept.counts.items
      → IsVerdictBy g.t g.class.0 (Some kept.derivation.body) g.own.ty (kinds_of g.args) (answers_of (answers_in kept.derivation.uses.items kept.counts.items)) (verdict.Enter by.Own)
  kept_verdict names asked log uses D agree =
      let s = sites_of g.t in let U = types_in s D in
      let p = parts g.t g.class.0 (slice_get g.t.bodies kept.derivation.body.0) (type_declared g.t g.own.ty) h.good.subject subject_is in
      let d = good_derives s h.good.subject (content_of kept.derivation) h.good.good U (uses_typed names asked log D kept.derivation.uses.items kept.counts.items uses agree) in
      let fits = fits_type args.ty p.declared (kinds_of g.args) (type_declared g.t g.own.ty) own_type p.has_type args.fits in (
        sym (enters_of g.t U g.class.0 (slice_get g.t.bodies kept.derivation.body.0) (type_declared g.t g.own.ty) (kinds_of g.args)
            (record { body = p.body; declared = p.declared; has_body = p.has_body; has_type = p.has_type; fits = fits; holds = subst (λ s. IsJudged U s) (sym p.is) d.judged })),
        looks_are U ∙ sym d.uses ∙ sym (keys_in names asked log kept.derivation.uses.items kept.counts.items uses),
      )
    where
      uses_typed : (names asked : List Name) (log : List Entry) (D : Declared) (us : List Used) (ss : List Seen) → AreUses g.t names asked log us ss → Agrees (answers_of (answers_in us ss)) D
          → AgreesWith (sites_of g.t) us (types_in (sites_of g.t) D)
      uses_typed names asked log D [] [] u a = tt
      uses_typed names asked log D [] (s ∷ ss) u a = absurd u
      uses_typed names asked log D (x ∷ us) [] u a = absurd u
      uses_typed names asked log D (x ∷ us) (s ∷ ss) u a = (ap (type_at (sites_of g.t)) a.0 ∙ u.0.typed, uses_typed names asked log D us ss u.1 a.1)

      keys_in : (names asked : List Name) (log : List Entry) (us : List Used) (ss : List Seen) → AreUses g.t names asked log us ss → map key_asked (answers_of (answers_in us ss)) ≡ map key_of us
      keys_in names asked log [] [] u = refl
      keys_in names asked log [] (s ∷ ss) u = absurd u
      keys_in names asked log (x ∷ us) [] u = absurd u
      keys_in names asked log (x ∷ us) (s ∷ ss) u = ap (λ (l : List Key). key_of x ∷ l) (keys_in names asked log us ss u.1)

-- the first answers of the uses follow them, also where the last is another one
module _ (t : Table) (names asked : List Name) (log : List Entry) where
  pub follows_first : (i : ℕ) (us : List Used) (ss : List Seen) → AreUses t names asked log us ss → Follows t us (take i (answers_in us ss))
  follows_first (suc i) [] [] h = tt
  follows_first (suc i) (u ∷ us) (s ∷ ss) h = (refl, inr h.0.typed, follows_first i us ss h.1)
  follows_first _ _ _ _ = tt

  pub follows_differing : (i : ℕ) (held : Held) (us : List Used) (ss : List Seen) → AreUses t names asked log us ss
      → Follows t us (take i (answers_in us ss) ++ map (λ (a : Answer). record a { held = held }) (take 1 (drop i (answers_in us ss))))
  follows_differing i held [] [] h = nothing i
    where
      nothing : (i : ℕ) → Follows t [] (take i (answers_in [] []) ++ map (λ (a : Answer). record a { held = held }) (take 1 (drop i (answers_in [] []))))
      nothing zero = tt
      nothing (suc i) = tt
  follows_differing i held [] (s ∷ ss) h = absurd h
  follows_differing i held (u ∷ us) [] h = absurd h
  follows_differing zero held (u ∷ us) (s ∷ ss) h = (refl, inl refl, tt)
  follows_differing (suc i) held (u ∷ us) (s ∷ ss) h = (refl, inr h.0.typed, follows_differing i held us ss h.1)
