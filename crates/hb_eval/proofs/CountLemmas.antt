-- How many Calls there are among the acts of one call.
use Rattle.std.proofs.Common.{◌≡◌, ℕ, ◌+◌, List, [], ◌∷◌, ◌++◌, Option, Some, None, Bool, true, false, cond, nat_eq, refl, sym, ap, ◌∙◌, subst, arith}
use Rattle.std.specs.Prelude.{count_by, ◌&&◌, if◌then◌else◌}
use Rattle.std.proofs.lemmas.List.Sums.{sum_by-cons}
use Rattle.hb_types.specs.declared.ids.CallNo.{CallNo}
use Rattle.hb_types.specs.declared.ids.KeyId.{KeyId}
use Rattle.hb_types.specs.declared.ids.BodySite.{BodySite}
use Rattle.hb_types.specs.declared.ids.TypeSite.{TypeSite}
use Rattle.hb_types.specs.declared.types.Ty.{Ty}
use Rattle.hb_tree.specs.Table.{Table}
use Rattle.hb_tables.specs.declared.entry.Act.{Act}
use Rattle.hb_tables.specs.declared.entry.Act.TheVariants.{Hold, Free, Call}
use Rattle.hb_tables.specs.declared.entry.ArgKinds.{ArgKinds}
use Rattle.hb_tables.specs.declared.entry.Verdict.{Verdict}
use Rattle.hb_tables.specs.declared.entry.Verdict.TheVariants as verdict
use Rattle.hb_tables.specs.Standing.{Stand, all_but}
use Rattle.hb_tables.specs.Rows.{kinds_of}
use Rattle.hb_call.specs.Reading.{Called, FullAt, Lost, freed, refused_at, full_at, called, same_kinds, decision, call_of, takes_at}

pub count_no : (p : Act → Bool) (a : Act) (l : List Act) → p a ≡ false → count_by p (a ∷ l) ≡ count_by p l
count_no p a l h = sum_by-cons (λ x. cond (p x) 1 0) a l ∙ ap (λ b. cond b 1 0 + count_by p l) h ∙ (let n = count_by p l in omega arith)

count_is : (p : Act → Bool) (a : Act) (l : List Act) (b : Bool) → p a ≡ b → count_by p l ≡ 0 → count_by p (a ∷ l) ≡ cond b 1 0
count_is p a l b h none = sum_by-cons (λ x. cond (p x) 1 0) a l ∙ ap (λ b. cond b 1 0 + count_by p l) h ∙ (let n : ℕ = cond b 1 0 in let m = none in omega (arith, m))

module _ (p : Act → Bool) (no_hold : (q : CallNo) (key : KeyId) (ty : Option TypeSite) (changes : ℕ) → p (Hold key q ty changes) ≡ false) (no_free : (q : CallNo) (key : KeyId) → p (Free key q) ≡ false) where
  freed_counts : (q : ℕ) (hs : List Stand) (l : List Act) → freed q hs l ≡ Some [] → count_by p l ≡ 0
  freed_counts q [] l e = ap (count_by p) (let f : l ≡ [] = cc in f)
  freed_counts q (h ∷ hs) (Free key r ∷ l) e = go (nat_eq r.0 q && nat_eq key.0 h.key) e (freed_counts q hs l)
    where
      go : (b : Bool) → (if b then freed q hs l else None) ≡ Some [] → (freed q hs l ≡ Some [] → count_by p l ≡ 0) → count_by p (Free key r ∷ l) ≡ 0
      go true e rest = count_no p (Free key r) l (no_free r key) ∙ rest e
      go false e rest = absurd (cc)
  freed_counts q _ _ e = absurd (cc)

  module _ (t : Table) (q k : ℕ) (kinds : List Ty) (site : Option BodySite) (v : Verdict) (held : List Stand) (b : Bool) (is : (r : CallNo) (key : KeyId) (args : ArgKinds) → p (Call key r site args v) ≡ b) where
    refused : (r : CallNo) (key : KeyId) (s : Option BodySite) (args : ArgKinds) (w : Verdict) (hs : List Stand) (l : List Act) (o : Option (List Act)) → freed q hs l ≡ o → refused_at s w o ≡ Called site v held [] → count_by p (Call key r s args w ∷ l) ≡ cond b 1 0
    refused r key s args w hs l None f e = absurd (cc)
    refused r key s args w hs l (Some rest) f e =
        let same : s ≡ site = cc in let one : w ≡ v = cc in let none : rest ≡ [] = cc in
        count_is p (Call key r s args w) l b (subst (λ (w : Verdict). p (Call key r s args w) ≡ b) (sym one) (subst (λ (x : Option BodySite). p (Call key r x args v) ≡ b) (sym same) (is r key args))) (freed_counts q hs l (f ∙ ap (λ n. Some n) none))

    at_call : (r : CallNo) (key : KeyId) (s : Option BodySite) (args : ArgKinds) (w : Verdict) (hs : List Stand) (l : List Act) → called q s w hs l ≡ Called site v held [] → count_by p (Call key r s args w ∷ l) ≡ cond b 1 0
    at_call r key s args (verdict.Enter way) hs l e =
        let same : s ≡ site = cc in let one : verdict.Enter way ≡ v = cc in let none : l ≡ [] = cc in
        count_is p (Call key r s args (verdict.Enter way)) l b (subst (λ (w : Verdict). p (Call key r s args w) ≡ b) (sym one) (subst (λ (x : Option BodySite). p (Call key r x args v) ≡ b) (sym same) (is r key args))) (ap (count_by p) none)
    at_call r key s args verdict.NoBody hs l e = refused r key s args verdict.NoBody hs l (freed q hs l) refl e
    at_call r key s args verdict.NoType hs l e = refused r key s args verdict.NoType hs l (freed q hs l) refl e
    at_call r key s args verdict.BadArgs hs l e = refused r key s args verdict.BadArgs hs l (freed q hs l) refl e
    at_call r key s args (verdict.IllTyped ill) hs l e = refused r key s args (verdict.IllTyped ill) hs l (freed q hs l) refl e

    -- Holds and Frees, one Call, and what was given back
    decision_counts : (fits : Bool) (hs : List Stand) (made : List Act) → decision fits q k kinds hs made ≡ Called site v held [] → count_by p made ≡ cond b 1 0
    decision_counts fits hs (Hold key r ty changes ∷ l) e = go (fits && nat_eq r.0 q) e (decision_counts fits (hs ++ record { key = key.0; ty = ty; changes = changes } ∷ []) l)
      where
        go : (t : Bool) → (if t then decision fits q k kinds (hs ++ record { key = key.0; ty = ty; changes = changes } ∷ []) l else Lost) ≡ Called site v held []
            → (decision fits q k kinds (hs ++ record { key = key.0; ty = ty; changes = changes } ∷ []) l ≡ Called site v held [] → count_by p l ≡ cond b 1 0) → count_by p (Hold key r ty changes ∷ l) ≡ cond b 1 0
        go true e rest = count_no p (Hold key r ty changes) l (no_hold r key ty changes) ∙ rest e
        go false e rest = absurd (cc)
    decision_counts fits hs (Free key r ∷ l) e = go (fits && nat_eq r.0 q) (nat_eq key.0 k) (freed q hs (Free key r ∷ l)) e (decision_counts fits (all_but key.0 hs) l)
      where
        go : (t u : Bool) (o : Option (List Act)) → (if t then (if u then full_at o else decision fits q k kinds (all_but key.0 hs) l) else Lost) ≡ Called site v held []
            → (decision fits q k kinds (all_but key.0 hs) l ≡ Called site v held [] → count_by p l ≡ cond b 1 0) → count_by p (Free key r ∷ l) ≡ cond b 1 0
        go true true None e rest = absurd (cc)
        go true true (Some l) e rest = absurd (cc)
        go true false o e rest = count_no p (Free key r) l (no_free r key) ∙ rest e
        go false u o e rest = absurd (cc)
    decision_counts fits hs (Call key r s args w ∷ l) e = go (nat_eq r.0 q && nat_eq key.0 k && same_kinds kinds (kinds_of args)) e
      where
        go : (t : Bool) → (if t then called q s w hs l else Lost) ≡ Called site v held [] → count_by p (Call key r s args w ∷ l) ≡ cond b 1 0
        go true e = at_call r key s args w hs l e
        go false e = absurd (cc)
    decision_counts fits hs _ e = absurd (cc)

    -- the acts of a call that was decided
    pub call_counts : (made : List Act) → call_of t q k kinds made ≡ Called site v held [] → count_by p made ≡ cond b 1 0
    call_counts (Hold key r ty changes ∷ l) e = go (nat_eq r.0 q && nat_eq key.0 k) e
      where
        go : (own : Bool) → (if own then decision (takes_at t ty kinds) q k kinds (record { key = key.0; ty = ty; changes = changes } ∷ []) l else Lost) ≡ Called site v held [] → count_by p (Hold key r ty changes ∷ l) ≡ cond b 1 0
        go true e = count_no p (Hold key r ty changes) l (no_hold r key ty changes) ∙ decision_counts (takes_at t ty kinds) (record { key = key.0; ty = ty; changes = changes } ∷ []) l e
        go false e = absurd (cc)
    call_counts _ e = absurd (cc)

  module _ (t : Table) (q k : ℕ) (kinds : List Ty) where
    no_refusal : (s : Option BodySite) (w : Verdict) (o : Option (List Act)) → refused_at s w o ≡ FullAt [] → ⊥
    no_refusal s w None e = cc
    no_refusal s w (Some rest) e = cc

    not_full : (s : Option BodySite) (w : Verdict) (hs : List Stand) (l : List Act) → called q s w hs l ≡ FullAt [] → ⊥
    not_full s (verdict.Enter way) hs l e = cc
    not_full s verdict.NoBody hs l e = no_refusal s verdict.NoBody (freed q hs l) e
    not_full s verdict.NoType hs l e = no_refusal s verdict.NoType (freed q hs l) e
    not_full s verdict.BadArgs hs l e = no_refusal s verdict.BadArgs (freed q hs l) e
    not_full s (verdict.IllTyped ill) hs l e = no_refusal s (verdict.IllTyped ill) (freed q hs l) e

    full_decision : (fits : Bool) (hs : List Stand) (made : List Act) → decision fits q k kinds hs made ≡ FullAt [] → count_by p made ≡ 0
    full_decision fits hs (Hold key r ty changes ∷ l) e = go (fits && nat_eq r.0 q) e (full_decision fits (hs ++ record { key = key.0; ty = ty; changes = changes } ∷ []) l)
      where
        go : (t : Bool) → (if t then decision fits q k kinds (hs ++ record { key = key.0; ty = ty; changes = changes } ∷ []) l else Lost) ≡ FullAt []
            → (decision fits q k kinds (hs ++ record { key = key.0; ty = ty; changes = changes } ∷ []) l ≡ FullAt [] → count_by p l ≡ 0) → count_by p (Hold key r ty changes ∷ l) ≡ 0
        go true e rest = count_no p (Hold key r ty changes) l (no_hold r key ty changes) ∙ rest e
        go false e rest = absurd (cc)
    full_decision fits hs (Free key r ∷ l) e = go (fits && nat_eq r.0 q) (nat_eq key.0 k) (freed q hs (Free key r ∷ l)) refl e (full_decision fits (all_but key.0 hs) l)
      where
        go : (t u : Bool) (o : Option (List Act)) → freed q hs (Free key r ∷ l) ≡ o → (if t then (if u then full_at o else decision fits q k kinds (all_but key.0 hs) l) else Lost) ≡ FullAt []
            → (decision fits q k kinds (all_but key.0 hs) l ≡ FullAt [] → count_by p l ≡ 0) → count_by p (Free key r ∷ l) ≡ 0
        go true true None f e rest = absurd (cc)
        go true true (Some left) f e rest = let none : left ≡ [] = cc in freed_counts q hs (Free key r ∷ l) (f ∙ ap (λ n. Some n) none)
        go true false o f e rest = count_no p (Free key r) l (no_free r key) ∙ rest e
        go false u o f e rest = absurd (cc)
    full_decision fits hs (Call key r s args w ∷ l) e = go (nat_eq r.0 q && nat_eq key.0 k && same_kinds kinds (kinds_of args)) e
      where
        go : (t : Bool) → (if t then called q s w hs l else Lost) ≡ FullAt [] → count_by p (Call key r s args w ∷ l) ≡ 0
        go true e = absurd (not_full s w hs l e)
        go false e = absurd (cc)
    full_decision fits hs _ e = absurd (cc)

    -- the acts of a call that found the list of names full
    pub full_counts : (made : List Act) → call_of t q k kinds made ≡ FullAt [] → count_by p made ≡ 0
    full_counts (Hold key r ty changes ∷ l) e = go (nat_eq r.0 q && nat_eq key.0 k) e
      where
        go : (own : Bool) → (if own then decision (takes_at t ty kinds) q k kinds (record { key = key.0; ty = ty; changes = changes } ∷ []) l else Lost) ≡ FullAt [] → count_by p (Hold key r ty changes ∷ l) ≡ 0
        go true e = count_no p (Hold key r ty changes) l (no_hold r key ty changes) ∙ full_decision (takes_at t ty kinds) (record { key = key.0; ty = ty; changes = changes } ∷ []) l e
        go false e = absurd (cc)
    full_counts _ e = absurd (cc)
