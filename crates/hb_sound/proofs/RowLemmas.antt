-- What a Call's row says of its body.
use Rattle.std.proofs.Common.{arith, ◌≡◌, ℕ, suc, Bool, true, false, List, [], ◌∷◌, length, map, Option, Some, None, Ok, Err, sym, refl, ap, ◌∙◌, subst, eq-eqb}
use Rattle.std.specs.Prelude.{◌||◌, if◌then◌else◌, Contains}
use Rattle.hb_types.specs.declared.{ids.BodySite.BodySite, types.Ty.Ty, types.MethodTy.MethodTy}
use Rattle.hb_tree.specs.declared.parts.Body.{Body}
use Rattle.hb_tree.specs.Table.{Table}
use Rattle.hb_deriv.specs.Judge as judgement
use Rattle.hb_deriv.specs.Judge.{Key, Types, Typed, Subject, variables_of, has_count, judge_body}
use Rattle.hb_deriv.specs.Judgement.{IsJudged}
use Rattle.hb_deriv.specs.Events.{Events, Look, Done, events, events_body, same_key, has, fresh}
use Rattle.hb_deriv.proofs.KeyLemmas.{key_same, AllHave, fresh_has}
use Rattle.hb_names.specs.Names.{Name, place}
use Rattle.hb_names.proofs.NameLemmas.{place-at}
use Rattle.hb_tables.specs.declared.{entry.Entry.Entry, entry.Verdict.Verdict}
use Rattle.hb_tables.specs.declared.entry.Verdict.TheVariants as verdict
use Rattle.hb_tables.specs.Names.{name_of}
use Rattle.hb_tables.specs.Rows.{body_at, types_in, type_of_key, needs_in, HoldsName, IsDecided}
use Rattle.hb_tables.specs.Verdicts.{takes, subject, checked_verdict, verdict_of, as_fresh, looks_of, Reaches}
use Rattle.hb_sound.specs.Sound.{LooksIn}
use Rattle.hb_sound.proofs.ValueLemmas.{some_same}

-- the name at a place is one
pub at_place : (names : List Name) (p r : Name) (k : ℕ) → place names p ≡ Some k → place names r ≡ Some k → p ≡ r
at_place names p r k h g = some_same p r (sym (place-at names p k h) ∙ place-at names r k g)

-- where a call is refused for its arguments, the method has a type that does not take them
pub refused_takes : (t : Table) (types : Types) (class : ℕ) (b : Option Body) (m : Option MethodTy) (kinds : List Ty) → verdict_of t types class b m kinds ≡ verdict.BadArgs
    → (s : MethodTy) × (m ≡ Some s) × (takes s kinds ≡ false)
refused_takes t types class None m kinds h = absurd (cc)
refused_takes t types class (Some b) None kinds h = absurd (cc)
refused_takes t types class (Some b) (Some s) kinds h = go (takes s kinds) refl h
  where
    other : (v : judgement.Verdict Typed) → checked_verdict v ≡ verdict.BadArgs → ⊥
    other (Ok r) e = cc
    other (Err f) e = cc

    go : (a : Bool) → takes s kinds ≡ a → (if a then checked_verdict (judge_body types (subject t class b s)) else verdict.BadArgs) ≡ verdict.BadArgs → (r : MethodTy) × (Some s ≡ Some r) × (takes r kinds ≡ false)
    go true e h = absurd (other (judge_body types (subject t class b s)) h)
    go false e h = (s, refl, e)

-- where a call is refused for want of a type, the method has none
pub untyped_none : (t : Table) (types : Types) (class : ℕ) (b : Option Body) (m : Option MethodTy) (kinds : List Ty) → verdict_of t types class b m kinds ≡ verdict.NoType → m ≡ None
untyped_none t types class None m kinds h = absurd (cc)
untyped_none t types class (Some b) None kinds h = refl
untyped_none t types class (Some b) (Some s) kinds h = absurd (go (takes s kinds) h)
  where
    other : (v : judgement.Verdict Typed) → checked_verdict v ≡ verdict.NoType → ⊥
    other (Ok r) e = cc
    other (Err f) e = cc

    go : (a : Bool) → (if a then checked_verdict (judge_body types (subject t class b s)) else verdict.BadArgs) ≡ verdict.NoType → ⊥
    go true h = other (judge_body types (subject t class b s)) h
    go false h = cc

-- the row of a Call of the method that is named here, for the kinds that are known
pub record RowAt (t : Table) (names : List Name) (log : List Entry) (x : ℕ × ℕ) (k : Key) (key : ℕ) (site : Option BodySite) (kinds : List Ty) (v : Verdict) : Type 0 where
  pub rules : verdict_of t (types_in t names log) k.0 (body_at t site) (type_of_key t log key) kinds ≡ as_fresh v
  pub held : (p : Name) → Contains (map (name_of t) (looks_of t (types_in t names log) k.0 (body_at t site) (type_of_key t log key) kinds)) p → HoldsName names log x p

pub row_at : (t : Table) (names : List Name) (log : List Entry) (x : ℕ × ℕ) (k : Key) (key : ℕ) (site : Option BodySite) (kinds given : List Ty) (v : Verdict)
    → IsDecided t names log x key site given v → place names (name_of t k) ≡ Some key → given ≡ kinds → RowAt t names log x k key site kinds v
row_at t names log x k key site kinds given v row there same =
    let one : row.name ≡ name_of t k = at_place names row.name (name_of t k) key row.is there in
    subst (λ (l : List Ty). RowAt t names log x k key site l v) same (record {
      rules = ap (λ (p : Name). verdict_of t (types_in t names log) p.0 (body_at t site) (type_of_key t log key) given) (sym one) ∙ sym row.rules;
      held = λ p i. row.held p (subst (λ (n : Name). Contains (needs_in t names log n key site given) p) (sym one) (let n = i.1 in (suc i.0, omega (arith, n), i.2)));
    })

-- a key among some has its name among theirs
has_contains : (t : Table) (k : Key) (ks : List Key) → has k ks ≡ true → Contains (map (name_of t) ks) (name_of t k)
has_contains t k [] h = absurd (cc)
has_contains t k (j ∷ ks) h = go (same_key j k) refl h (has_contains t k ks)
  where
    go : (b : Bool) → same_key j k ≡ b → (b || has k ks) ≡ true → (has k ks ≡ true → Contains (map (name_of t) ks) (name_of t k)) → Contains (map (name_of t) (j ∷ ks)) (name_of t k)
    go true e h r = (0, omega arith, ap (name_of t) (key_same j k e))
    go false e h r = let i = r h in let n = i.1 in (suc i.0, omega (arith, n), i.2)

looks_in : (t : Table) (P : Name → Type 0) (ks : List Key) → ((p : Name) → Contains (map (name_of t) ks) p → P p) → (es : Events) → AllHave ks es → LooksIn (λ k. P (name_of t k)) es
unfolding LooksIn
looks_in t P ks h [] a = tt
looks_in t P ks h (Look id k ∷ es) a = (h (name_of t k) (has_contains t k ks a.0), looks_in t P ks h es a.1)
looks_in t P ks h (Done id r ∷ es) a = looks_in t P ks h es a

-- the call holds the keys at which the judgement of an entered body looks
pub entered_looks : (t : Table) (P : Name → Type 0) (types : Types) (class : ℕ) (b : Option Body) (m : Option MethodTy) (kinds : List Ty) (r : Reaches (IsJudged types) t class b m kinds)
    → ((p : Name) → Contains (map (name_of t) (looks_of t types class b m kinds)) p → P p)
    → LooksIn (λ k. P (name_of t k)) (events types class (subject t class r.body r.declared).block (variables_of (subject t class r.body r.declared)))
entered_looks t P types class b m kinds r h =
    let s : Subject = subject t class r.body r.declared in
    let es : Events = events types class s.block (variables_of s) in
    let counted : events_body types s ≡ es = ap (λ c. if c then es else []) (eq-eqb (length s.params) s.declared.count r.holds.count) in
    let body : looks_of t types class b m kinds ≡ fresh [] es = rw (r.has_body, r.has_type) (rw r.fits (ap (fresh []) counted)) in
    looks_in t P (fresh [] es) (λ p i. h p (subst (λ (ks : List Key). Contains (map (name_of t) ks) p) (sym body) i)) es (fresh_has [] es)
