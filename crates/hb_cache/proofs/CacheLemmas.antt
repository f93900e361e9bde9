-- What the steps of a cache keep of its fields.
use Rattle.std.proofs.Common.{◌≡◌, ◌≢◌, ℕ, ◌==◌, Bool, true, false, if◌then◌else◌, List, [], length, set, subst, Option, Some, None, refl, sym, ap, ◌∙◌, take, drop, ◌++◌, arith}
use Rattle.std.specs.{Prelude.is_some, Option.option_map, Global.Vec}
use Rattle.std.proofs.lemmas.Bool.{eqb-true, eqb-false, eq-eqb, ne_eqb, true≢false}
use Rattle.std.proofs.{lemmas.Option.none-some, lemmas.List.take_all, lemmas.List.drop_all, lemmas.List.append-nil}
use Rattle.hb_types.specs.declared.ids.KeyId.{KeyId}
use Rattle.hb_cache.specs.declared.kept.Kept.{Kept}
use Rattle.hb_cache.specs.Cache.{SameItem, SameItems, unless_used, without_key_used}
use Rattle.hb_cache.specs.Kept.{count_in, item_of, items_in, kept_at, not_using, uses}
use Rattle.hb_cache.specs.Held.{Users, has_seen, IsKnown, KeepKnown, AreKnown, IsCache}
use Rattle.hb_cache.proofs.KeptLemmas.{counted, get-set_else}

-- a cache that keeps nothing new
pub cache-less : (kept fewer : List (Option Kept)) (users : Users) → ((k : ℕ) (x : Kept) → kept_at fewer k ≡ Some x → kept_at kept k ≡ Some x) → IsCache kept users → IsCache fewer users
cache-less kept fewer users less w = record {
  own = λ k x e. w.own k x (less k x e);
  known = λ k x e. w.known k x (less k x e);
}

-- a cache whose lists have more
pub cache-wider : (kept : List (Option Kept)) (users wider : Users) → KeepKnown users wider → IsCache kept users → IsCache kept wider
cache-wider kept users wider stay w = record {
  own = w.own;
  known = λ k x e used h. stay used k (w.known k x e used h);
}

-- what is kept for a key is dropped
pub cache-without : (kept fewer : List (Option Kept)) (users : Users) (key : ℕ) → ((k : ℕ) → kept_at fewer k ≡ (if key == k then None else kept_at kept k)) → IsCache kept users → IsCache fewer users
cache-without kept fewer users key each = cache-less kept fewer users (λ k x e. by k x (key == k) (sym (each k) ∙ e))
  where
    by : (k : ℕ) (x : Kept) (b : Bool) → (if b then None else kept_at kept k) ≡ Some x → kept_at kept k ≡ Some x
    by k x true e = absurd (none-some x e)
    by k x false e = e

-- a check whose key is known takes its place
pub cache-with : (kept more : List (Option Kept)) (users : Users) (new : Kept) → ((k : ℕ) → kept_at more k ≡ (if new.key.0 == k then Some new else kept_at kept k))
    → AreKnown users new.counts.items new.key.0 → IsCache kept users → IsCache more users
cache-with kept more users new each known w = record {
  own = λ k x e. own k x (new.key.0 == k) refl (sym (each k) ∙ e);
  known = λ k x e. known_too k x (new.key.0 == k) refl (sym (each k) ∙ e);
}
  where
    own : (k : ℕ) (x : Kept) (b : Bool) → (new.key.0 == k) ≡ b → (if b then Some new else kept_at kept k) ≡ Some x → x.key.0 ≡ k
    own k x true here e = let same : new ≡ x = cc e in ap (λ (y : Kept). y.key.0) (sym same) ∙ eqb-true new.key.0 k here
    own k x false off e = w.own k x e

    known_too : (k : ℕ) (x : Kept) (b : Bool) → (new.key.0 == k) ≡ b → (if b then Some new else kept_at kept k) ≡ Some x → AreKnown users x.counts.items k
    known_too k x true here e = let same : new ≡ x = cc e in subst (λ (y : Kept). AreKnown users y.counts.items k) same (subst (AreKnown users new.counts.items) (eqb-true new.key.0 k here) known)
    known_too k x false off e = w.known k x e

-- whether a check used the key of another method
uses-other : (x : Kept) (key : ℕ) → x.key.0 ≢ key → uses x key ≡ has_seen x.counts.items key
uses-other x key ne = ap (λ b. is_some (if b then Some x.changes else count_in x.counts.items key)) (ne_eqb x.key.0 key ne) ∙ sym (counted x.counts.items key)

-- a check used its own key, and those of its counts
uses-own : (x : Kept) (key : ℕ) → x.key.0 ≡ key → uses x key ≡ true
uses-own x key e = ap (λ b. is_some (if b then Some x.changes else count_in x.counts.items key)) (eq-eqb x.key.0 key e)

uses-seen : (x : Kept) (key : ℕ) → has_seen x.counts.items key ≡ true → uses x key ≡ true
uses-seen x key h = by (x.key.0 == key) (sym (counted x.counts.items key) ∙ h)
  where
    by : (b : Bool) → is_some (count_in x.counts.items key) ≡ true → is_some (if b then Some x.changes else count_in x.counts.items key) ≡ true
    by true e = refl
    by false e = e

stays-not : (x : Kept) (key : ℕ) → uses x key ≡ true → not_using key (Some x) ≡ None
stays-not x key e = ap (λ b. if b then None else Some x) e

stays : (x : Kept) (key : ℕ) → uses x key ≡ false → not_using key (Some x) ≡ Some x
stays x key e = ap (λ b. if b then None else Some x) e

-- what is known, and then the key's own, is all that used the key
pub using-dropped : (kept : List (Option Kept)) (users : Users) (key k : ℕ) (b : Bool) → IsCache kept users → (IsKnown users key k → b ≡ true)
    → (if key == k then None else (if b then not_using key (kept_at kept k) else kept_at kept k)) ≡ not_using key (kept_at kept k)
using-dropped kept users key k b w known = by (kept_at kept k) refl
  where
    nothing : (c d : Bool) → (if c then None else (if d then not_using key None else None)) ≡ not_using key None
    nothing true d = refl
    nothing false true = refl
    nothing false false = refl

    other : (x : Kept) → x.key.0 ≢ key → (has_seen x.counts.items key ≡ true → b ≡ true) → (c : Bool) → b ≡ c → (h : Bool) → has_seen x.counts.items key ≡ h
        → (if c then not_using key (Some x) else Some x) ≡ not_using key (Some x)
    other x ne seen true e h is = refl
    other x ne seen false e true is = absurd (true≢false (sym (seen is) ∙ e))
    other x ne seen false e false is = sym (stays x key (uses-other x key ne ∙ is))

    there : (x : Kept) → x.key.0 ≡ k → (has_seen x.counts.items key ≡ true → b ≡ true) → (c : Bool) → (key == k) ≡ c → (if c then None else (if b then not_using key (Some x) else Some x)) ≡ not_using key (Some x)
    there x own seen true e = sym (stays-not x key (uses-own x key (own ∙ sym (eqb-true key k e))))
    there x own seen false e = other x (λ p. eqb-false key k e (sym p ∙ own)) seen b refl (has_seen x.counts.items key) refl

    by : (o : Option Kept) → kept_at kept k ≡ o → (if key == k then None else (if b then not_using key o else o)) ≡ not_using key o
    by None e = nothing (key == k) b
    by (Some x) e = there x (w.own k x e) (λ h. known (w.known k x e key h)) (key == k) refl

kept_too : (key : ℕ) (o : Option Kept) (x : Kept) → not_using key o ≡ Some x → (o ≡ Some x) × (uses x key ≡ false)
kept_too key None x e = absurd (none-some x e)
kept_too key (Some y) x e = by (uses y key) refl e
  where
    by : (b : Bool) → uses y key ≡ b → (if b then None else Some y) ≡ Some x → (Some y ≡ Some x) × (uses x key ≡ false)
    by true is e = absurd (none-some x e)
    by false is e = let same : y ≡ x = cc e in (e, ap (λ (z : Kept). uses z key) (sym same) ∙ is)

-- once all that used a key are dropped, its list may be emptied
pub cache-unused : (kept fewer : List (Option Kept)) (users : Users) (key : ℕ) (list : Vec KeyId) → ((k : ℕ) → kept_at fewer k ≡ not_using key (kept_at kept k)) → IsCache kept users → IsCache fewer (set users key list)
cache-unused kept fewer users key list each w = record {
  own = λ k x e. w.own k x (kept_too key (kept_at kept k) x (sym (each k) ∙ e)).0;
  known = λ k x e used h.
      let both = kept_too key (kept_at kept k) x (sym (each k) ∙ e) in
      let ne : key ≢ used = λ p. true≢false (sym (uses-seen x key (ap (has_seen x.counts.items) p ∙ h)) ∙ both.1) in
      let there = w.known k x both.0 used h in (there.0, get-set_else users key used list ne ∙ there.1, there.2);
}

-- the same with the list as it is
pub cache-unused_yet : (kept fewer : List (Option Kept)) (users : Users) (key : ℕ) → ((k : ℕ) → kept_at fewer k ≡ not_using key (kept_at kept k)) → IsCache kept users → IsCache fewer users
cache-unused_yet kept fewer users key each = cache-less kept fewer users (λ k x e. (kept_too key (kept_at kept k) x (sym (each k) ∙ e)).0)

-- a part that was written whole
pub whole : {A : Type 0} (n : ℕ) (new old : List A) → n ≡ length old → length new ≡ length old → take n (new ++ drop (length new) old) ≡ new
whole n new old e same =
    let none : drop (length new) old ≡ [] = drop_all (length new) old (omega (arith, same)) in
    ap (λ l. take n (new ++ l)) none ∙ (ap (take n) (append-nil new) ∙ take_all n new (omega (arith, e, same)))

-- what stays says the same, on either side
same-unused : (key : ℕ) (o : Option Kept) → SameItem (option_map item_of (not_using key o)) (unless_used key (option_map item_of o))
same-unused key None = tt
same-unused key (Some x) = by (uses x key)
  where
    by : (b : Bool) → SameItem (option_map item_of (if b then None else Some x)) (if b then None else Some (item_of x))
    by true = tt
    by false = record { body = refl; counts = λ k. refl }

-- where what used a key is dropped, no item that used it is left
pub same-dropped : (key : ℕ) (kept fewer : List (Option Kept)) → ((k : ℕ) → kept_at fewer k ≡ not_using key (kept_at kept k)) → SameItems (items_in fewer) (without_key_used key (items_in kept))
same-dropped key kept fewer each k = subst (λ o. SameItem (option_map item_of o) (unless_used key (items_in kept k))) (sym (each k)) (same-unused key (kept_at kept k))
