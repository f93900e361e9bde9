-- What is collected over one history is one.
use Rattle.std.proofs.Common.{◌≡◌, ◌∙◌, ◌+◌, ◌<◌, ◌≤◌, ◌==◌, ℕ, zero, suc, cond, List, [], ◌∷◌, ◌++◌, Option, Some, None, inl, inr, length, map, refl, sym, ap, subst, arith, Bool}
use Rattle.std.specs.Prelude.{slice_index_or}
use Rattle.std.specs.Option.{option_map}
use Rattle.std.proofs.lemmas.Bool.Decides.{eqb_tells}
use Rattle.std.proofs.lemmas.Bool.{cases_lt}
use Rattle.std.proofs.lemmas.List.{length-map, map-append}
use Rattle.hb_types.specs.declared.ids.BodySite.{BodySite}
use Rattle.hb_types.specs.declared.ids.TypeSite.{TypeSite}
use Rattle.hb_types.specs.declared.types.MethodTy.{MethodTy}
use Rattle.hb_tree.specs.Table.{Table}
use Rattle.hb_deriv.specs.declared.raw.Derivation.{Derivation}
use Rattle.hb_deriv.specs.declared.raw.Used.{Used}
use Rattle.hb_deriv.specs.Derivation.{AgreesWith, Content, Derives, content_of, key_of}
use Rattle.hb_deriv.specs.Judge.{Key, Subject, Types}
use Rattle.hb_deriv.specs.Programs.{IsFor, sites_of, subject_of}
use Rattle.hb_names.specs.Names.{Name, place}
use Rattle.hb_names.proofs.NameLemmas.{place-apart}
use Rattle.hb_tables.specs.declared.entry.By.TheVariants as by
use Rattle.hb_tables.specs.declared.entry.Verdict.{Verdict}
use Rattle.hb_tables.specs.declared.entry.Verdict.TheVariants as verdict
use Rattle.hb_tables.specs.Names.{name_of}
use Rattle.hb_tables.specs.Standing.{Stand, count_of}
use Rattle.hb_call.specs.declared.share.TheConstants.{COLLECTED_MAX}
use Rattle.hb_call.specs.Sharing.{Found, FoundUses}
use Rattle.hb_eval.specs.Gathering.{GathersCall, IsMadeBy, TakesOne}

-- the contents of what is collected
abbrev pub contents : Option (List Derivation) → Option (List Content)
contents made = option_map (map content_of) made

same_content : (a b : Content) → a.class ≡ b.class → a.body ≡ b.body → a.declared ≡ b.declared → a.uses ≡ b.uses → a.steps ≡ b.steps → a ≡ b
same_content a b class body declared uses steps = λ i. record { class = class i; body = body i; declared = declared i; uses = uses i; steps = steps i }

-- a derivation for a program derives the body that it names in each table with which it agrees
abbrev pub Derive : Type 0
Derive = (t : Table) (d : Content) → IsFor t d → (types : Types) → AgreesWith (sites_of t) d.uses types
    → (s : Subject) × (subject_of t d.class d.body d.declared ≡ Some s) × Derives types s d

-- ── what the Holds of a call found ──

-- the type that the first Hold of the key found
abbrev found_at : ℕ → List Stand → Option TypeSite
found_at k [] = None
found_at k (h ∷ hs) = cond (k == h.key) h.ty (found_at k hs)

-- no key is held twice
abbrev pub IsHeldOnce : List Stand → Type 0
IsHeldOnce held = (k : ℕ) → count_of k held ≤ 1

counted : (k : ℕ) (hs : List Stand) (i : ℕ) (s : Stand) → i < length hs → slice_index_or hs i s ≡ s → k ≡ s.key → 1 ≤ count_of k hs
counted k [] i s within at is = absurd (omega (arith, within))
counted k (h ∷ hs) zero s within at is = elim (eqb_tells k h.key) [
  | inl same ↦ (let e = same.0 in rw e (omega arith))
  | inr other ↦ absurd (other.1 (is ∙ sym (ap (λ (x : Stand). x.key) at)))
]
counted k (h ∷ hs) (suc i) s within at is = let more = counted k hs i s (omega (arith, within)) at is in omega (arith, more)

found_there : (k : ℕ) (hs : List Stand) (i : ℕ) (s : Stand) → count_of k hs ≤ 1 → i < length hs → slice_index_or hs i s ≡ s → k ≡ s.key → found_at k hs ≡ s.ty
found_there k [] i s once within at is = absurd (omega (arith, within))
found_there k (h ∷ hs) zero s once within at is = elim (eqb_tells k h.key) [
  | inl same ↦ (let e = same.0 in rw e (ap (λ (x : Stand). x.ty) at))
  | inr other ↦ absurd (other.1 (is ∙ sym (ap (λ (x : Stand). x.key) at)))
]
found_there k (h ∷ hs) (suc i) s once within at is = elim (eqb_tells k h.key) [
  | inl same ↦ (let e = same.0 in let more = counted k hs i s (omega (arith, within)) at is in
      let two : cond (k == h.key) 1 0 + count_of k hs ≤ 1 = once in
      absurd (omega (arith, more, subst (λ (b : Bool). cond b 1 0 + count_of k hs ≤ 1) e two)))
  | inr other ↦ (let e = other.0 in let few = subst (λ (b : Bool). cond b 1 0 + count_of k hs ≤ 1) e once in rw e (found_there k hs i s (omega (arith, few)) (omega (arith, within)) at is))
]

found : (k : ℕ) (hs : List Stand) (site : TypeSite) → count_of k hs ≤ 1 → Found hs k site → found_at k hs ≡ Some site
found k hs site once f = found_there k hs f.among.0 f.stand once f.among.1 f.among.2 (sym f.key) ∙ f.ty

-- ── one call's derivation ──

module _ (derive : Derive) (t : Table) (names : List Name) (held : List Stand) (once : IsHeldOnce held) where
  abbrev site_type : Option TypeSite → Option MethodTy
  site_type None = None
  site_type (Some site) = sites_of t site.0

  abbrev key_type : Option ℕ → Option MethodTy
  key_type None = None
  key_type (Some k) = site_type (found_at k held)

  -- the types that the Holds found
  abbrev types_found : Types
  types_found key = key_type (place names (name_of t key))

  agree : (uses : List Used) → FoundUses t names held uses → AgreesWith (sites_of t) uses types_found
  agree [] h = tt
  agree (u ∷ uses) h = (ap key_type h.0.1 ∙ ap site_type (found h.0.0 held u.site (once h.0.0) h.0.2), agree uses h.1)

  abbrev used : ℕ → ℕ → TypeSite → Used
  used class name site = record { class = record { 0 = class }; name = record { 0 = name }; site = site }

  -- uses of the same methods are the same
  same_use : (u v : Used) → key_of u ≡ key_of v → (k j : ℕ) → place names (name_of t (key_of u)) ≡ Some k → place names (name_of t (key_of v)) ≡ Some j
      → Found held k u.site → Found held j v.site → u ≡ v
  same_use u v key k j at_k at_j f g =
      let keys : Some k ≡ Some j = sym at_k ∙ ap (λ (x : Key). place names (name_of t x)) key ∙ at_j in
      let same : k ≡ j = cc in
      let sites : Some u.site ≡ Some v.site = sym (found k held u.site (once k) f) ∙ ap (λ (n : ℕ). found_at n held) same ∙ found j held v.site (once j) g in
      let site : u.site ≡ v.site = cc in
      let class : u.class.0 ≡ v.class.0 = ap (λ (x : Key). x.0) key in
      let name : u.name.0 ≡ v.name.0 = ap (λ (x : Key). x.1) key in
      ap (λ (n : ℕ). used n u.name.0 u.site) class ∙ ap (λ (n : ℕ). used v.class.0 n u.site) name ∙ ap (used v.class.0 v.name.0) site

  same_uses : (us vs : List Used) → map key_of us ≡ map key_of vs → FoundUses t names held us → FoundUses t names held vs → us ≡ vs
  same_uses [] [] keys f g = refl
  same_uses [] (v ∷ vs) keys f g = absurd cc
  same_uses (u ∷ us) [] keys f g = absurd cc
  same_uses (u ∷ us) (v ∷ vs) keys f g =
      let head : key_of u ≡ key_of v = cc in
      let tail : map key_of us ≡ map key_of vs = cc in
      let one = same_use u v head f.0.0 g.0.0 f.0.1 g.0.1 f.0.2 g.0.2 in
      let rest = same_uses us vs tail f.1 g.1 in
      cc

  pub one_made : (k : ℕ) (site : BodySite) (d e : Derivation) → IsMadeBy t names held k site d → IsMadeBy t names held k site e → content_of d ≡ content_of e
  one_made k site d e x y =
      let class : d.class.0 ≡ e.class.0 = sym x.class ∙ ap (λ (n : Name). n.0) (place-apart names x.name y.name k x.named y.named) ∙ y.class in
      let body : d.body.0 ≡ e.body.0 = ap (λ (b : BodySite). b.0) (x.body ∙ sym y.body) in
      let sites : Some d.declared ≡ Some e.declared = sym (found k held d.declared (once k) x.declared) ∙ found k held e.declared (once k) y.declared in
      let declared : d.declared.0 ≡ e.declared.0 = cc in
      let p = derive t (content_of d) x.good types_found (agree d.uses.items x.uses) in
      let q = derive t (content_of e) y.good types_found (agree e.uses.items y.uses) in
      let subjects : Some p.0 ≡ Some q.0 = sym p.1 ∙ ap (λ (c : ℕ). subject_of t c d.body.0 d.declared.0) class ∙ ap (λ (b : ℕ). subject_of t e.class.0 b d.declared.0) body
      ∙ ap (λ (m : ℕ). subject_of t e.class.0 e.body.0 m) declared ∙ q.1 in
      let subject : p.0 ≡ q.0 = cc in
      let there : Derives types_found q.0 (content_of d) = subst (λ (s : Subject). Derives types_found s (content_of d)) subject p.2 in
      let uses = same_uses d.uses.items e.uses.items (there.uses ∙ sym q.2.uses) x.uses y.uses in
      let steps = there.steps ∙ sym q.2.steps in
      same_content (content_of d) (content_of e) class body declared uses steps

  -- ── what is collected, by its contents ──

  pub one_taken : (k : ℕ) (site : BodySite) (old past : List Derivation) (new now : Option (List Derivation)) → map content_of old ≡ map content_of past
      → TakesOne t names held k site (Some old) new → TakesOne t names held k site (Some past) now → contents new ≡ contents now
  one_taken k site old past new now same x y = elim (cases_lt (length old) COLLECTED_MAX) [
    | inl few ↦ (let a = x.0 few in let b = y.0 (subst (λ (n : ℕ). n < COLLECTED_MAX) lengths few) in
        ap contents a.last ∙ ap (λ (l : List Content). Some l) (together a.derivation b.derivation (one_made k site a.derivation b.derivation a.made b.made)) ∙ sym (ap contents b.last))
    | inr all ↦ ap contents (x.1 all) ∙ ap (λ (l : List Content). Some l) same ∙ sym (ap contents (y.1 (subst (λ (n : ℕ). COLLECTED_MAX ≤ n) lengths all)))
  ]
    where
      lengths : length old ≡ length past
      lengths = sym (length-map old content_of) ∙ ap length same ∙ length-map past content_of

      together : (d e : Derivation) → content_of d ≡ content_of e → map content_of (old ++ d ∷ []) ≡ map content_of (past ++ e ∷ [])
      together d e one = map-append content_of old (d ∷ []) ∙ ap (λ (l : List Content). l ++ content_of d ∷ []) same
          ∙ ap (λ (c : Content). map content_of past ++ c ∷ []) one ∙ sym (map-append content_of past (e ∷ []))

  pub one_call : (k : ℕ) (v : Verdict) (site : Option BodySite) (old past : List Derivation) (new now : Option (List Derivation)) → map content_of old ≡ map content_of past
      → GathersCall t names held k v site (Some old) new → GathersCall t names held k v site (Some past) now → contents new ≡ contents now
  one_call k (verdict.Enter by.Fresh) (Some site) old past new now same x y = one_taken k site old past new now same x y
  one_call k v site old past new now same x y = ap contents x ∙ ap (λ (l : List Content). Some l) same ∙ sym (ap contents y)
