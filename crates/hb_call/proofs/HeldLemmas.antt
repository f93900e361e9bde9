-- Keys that a call holds, and gives back.
use Rattle.std.proofs.Common.{◌≡◌, ℕ, ◌+◌, ◌<◌, ◌≤◌, Bool, true, false, cond, eqb, List, [], ◌∷◌, ◌++◌, length, get_or, drop, map, sym, refl, ap, ◌∙◌, subst, arith, add-one, append_assoc, eq-eqb}
use mathlib.Core.List.{IsPrefix}
use Rattle.std.proofs.{lemmas.List.append-nil, Math.Seq.drop-cons}
use Rattle.std.specs.List.{AllByRecursion}
use Rattle.hb_types.specs.declared.{ids.CallNo.CallNo, ids.KeyId.KeyId}
use Rattle.hb_names.specs.declared.names.TheConstants.{NAMES_MAX}
use Rattle.hb_tables.specs.declared.{entry.Entry.Entry, entry.Act.Act, entry.Act.TheVariants.Free}
use Rattle.hb_tables.specs.{History.Adds, Frames.acts}
use Rattle.hb_tables.specs.Standing.{Stand, all_but, standing_from, standing, count_of}
use Rattle.hb_tables.proofs.{DeskLemmas.adds_stand, DeskLemmas.adds_prefix, FrontLemmas.adds_act, StandingLemmas.standing_append}
use Rattle.hb_call.specs.Held.{stands, Holds, frees, MayFree}

pub frees_drop : (q : CallNo) (keys : List KeyId) (i : ℕ) (d : KeyId) → i < length keys → frees q (drop i keys) ≡ Free (get_or keys i d) q ∷ frees q (drop (i + 1) keys)
frees_drop q keys i d h = ap (frees q) (drop-cons keys i d h ∙ ap (λ n. get_or keys i d ∷ drop n keys) (sym (add-one i)))

pub may_drop : (keys : List KeyId) (i : ℕ) (d : KeyId) (hs : List Stand) → i < length keys → MayFree (drop i keys) hs → MayFree (get_or keys i d ∷ drop (i + 1) keys) hs
may_drop keys i d hs h = subst (λ (l : List KeyId). MayFree l hs) (drop-cons keys i d h ∙ ap (λ n. get_or keys i d ∷ drop n keys) (sym (add-one i)))

-- what stands behind a Free
pub free_stands : (c : ℕ) (q : CallNo) (key : KeyId) (old new : List Entry) → Adds c old new (Free key q) → stands c q.0 new ≡ all_but key.0 (stands c q.0 old)
free_stands c q key old new h = adds_stand c q.0 old new (Free key q) h ∙ ap (λ b. cond b (all_but key.0 (stands c q.0 old)) (stands c q.0 old)) (eq-eqb q.0 q.0 refl)

pub count_head : (k : ℕ) (hs : List Stand) (h : Stand) → k ≡ h.key → count_of k (h ∷ hs) ≡ 1 + count_of k hs
count_head k hs h is = ap (λ b. cond b 1 0 + count_of k hs) (eq-eqb k h.key is)

count_append : (k : ℕ) (xs ys : List Stand) → count_of k (xs ++ ys) ≡ count_of k xs + count_of k ys
count_append k [] ys = omega arith
count_append k (x ∷ xs) ys = let r = count_append k xs ys in omega (arith, r)

one_or_none : (b : Bool) (n : ℕ) → cond b 1 0 + n ≡ 0 → (b ≡ false) × (n ≡ 0)
one_or_none true n h = absurd (omega (arith, h))
one_or_none false n h = (refl, omega (arith, h))

-- none of a key are taken away where there is none
all_but_none : (k : ℕ) (hs : List Stand) → count_of k hs ≡ 0 → all_but k hs ≡ hs
all_but_none k [] h = refl
all_but_none k (x ∷ xs) h = let p = one_or_none (eqb k x.key) (count_of k xs) h in rw p.0 (ap (λ l. x ∷ l) (all_but_none k xs p.1))

all_but_append : (k : ℕ) (xs ys : List Stand) → all_but k (xs ++ ys) ≡ all_but k xs ++ all_but k ys
all_but_append k [] ys = refl
all_but_append k (x ∷ xs) ys = let r = all_but_append k xs ys in
    elim (eqb k x.key) as (λ b. cond b (all_but k (xs ++ ys)) (x ∷ all_but k (xs ++ ys)) ≡ cond b (all_but k xs) (x ∷ all_but k xs) ++ all_but k ys) [ true ↦ r | false ↦ ap (λ l. x ∷ l) r ]

pub head_same : (h : Stand) (hs : List Stand) (key : KeyId) (keys : List KeyId) → map (λ (h : Stand). h.key) (h ∷ hs) ≡ map (λ (k : KeyId). k.0) (key ∷ keys)
    → (key.0 ≡ h.key) × (map (λ (h : Stand). h.key) hs ≡ map (λ (k : KeyId). k.0) keys)
head_same h hs key keys e = (cc, cc)

pub head_gone : (kept hs : List Stand) (h : Stand) (k : ℕ) → k ≡ h.key → count_of k (kept ++ h ∷ hs) ≤ 1 → all_but k (kept ++ h ∷ hs) ≡ kept ++ hs
head_gone kept hs h k is once =
    let a = count_append k kept (h ∷ hs) in let b = count_head k hs h is in
    let one : count_of k kept ≡ 0 = omega (arith, a, b, once) in let two : count_of k hs ≡ 0 = omega (arith, a, b, once) in
    let e = eq-eqb k h.key is in
    all_but_append k kept (h ∷ hs) ∙ ap (λ l. l ++ all_but k (h ∷ hs)) (all_but_none k kept one) ∙ ap (λ b. kept ++ cond b (all_but k hs) (h ∷ all_but k hs)) e ∙ ap (λ l. kept ++ l) (all_but_none k hs two)

pub less : (k : ℕ) (kept hs : List Stand) (h : Stand) → count_of k (kept ++ h ∷ hs) ≤ 1 → count_of k (kept ++ hs) ≤ 1
less k kept hs h once = let a = count_append k kept (h ∷ hs) in let b = count_append k kept hs in omega (arith, a, b, once)

-- the keys behind others that stay may be freed, and then these stay
pub may_free : (kept hs : List Stand) (keys : List KeyId) → map (λ (h : Stand). h.key) hs ≡ map (λ (k : KeyId). k.0) keys → ((k : ℕ) → count_of k (kept ++ hs) ≤ 1)
    → AllByRecursion (λ (k : KeyId). k.0 < NAMES_MAX) keys → MayFree keys (kept ++ hs)
may_free kept [] [] e once below = tt
may_free kept [] (key ∷ keys) e once below = absurd (cc)
may_free kept (h ∷ hs) [] e once below = absurd (cc)
may_free kept (h ∷ hs) (key ∷ keys) e once below =
    let p = head_same h hs key keys e in
    let a = count_append key.0 kept (h ∷ hs) in let b = count_head key.0 hs h p.0 in let o = once key.0 in (
      below.0,
      omega (arith, a, b, o),
      subst (λ (l : List Stand). MayFree keys l) (sym (head_gone kept hs h key.0 p.0 o)) (may_free kept hs keys p.1 (λ k. less k kept hs h (once k)) below.1),
    )

-- what is left behind the Frees of the keys behind those that stay
pub freed_stands : (q : CallNo) (kept hs : List Stand) (keys : List KeyId) → map (λ (h : Stand). h.key) hs ≡ map (λ (k : KeyId). k.0) keys → ((k : ℕ) → count_of k (kept ++ hs) ≤ 1)
    → standing_from q.0 (kept ++ hs) (frees q keys) ≡ kept
freed_stands q kept [] [] e once = append-nil kept
freed_stands q kept [] (key ∷ keys) e once = absurd (cc)
freed_stands q kept (h ∷ hs) [] e once = absurd (cc)
freed_stands q kept (h ∷ hs) (key ∷ keys) e once =
    let p = head_same h hs key keys e in
    ap (λ b. standing_from q.0 (cond b (all_but key.0 (kept ++ h ∷ hs)) (kept ++ h ∷ hs)) (frees q keys)) (eq-eqb q.0 q.0 refl)
    ∙ ap (λ l. standing_from q.0 l (frees q keys)) (head_gone kept hs h key.0 p.0 (once key.0))
    ∙ freed_stands q kept hs keys p.1 (λ k. less k kept hs h (once k))

-- one key more is freed
pub free_next : (c : ℕ) (q : CallNo) (keys : List KeyId) (i : ℕ) (d : KeyId) (old new : List Entry) (all : List Act) → i < length keys → Adds c old new (Free (get_or keys i d) q)
    → acts c old ++ frees q (drop i keys) ≡ all → acts c new ++ frees q (drop (i + 1) keys) ≡ all
free_next c q keys i d old new all h adds e =
    ap (λ w. w ++ frees q (drop (i + 1) keys)) (adds_act c old new (Free (get_or keys i d) q) adds) ∙ append_assoc (acts c old) (Free (get_or keys i d) q ∷ []) (frees q (drop (i + 1) keys))
    ∙ ap (λ w. acts c old ++ w) (sym (frees_drop q keys i d h)) ∙ e

pub all_stand : (c : ℕ) (q : CallNo) (keys : List KeyId) (log : List Entry) → Holds c q.0 keys log → MayFree keys (stands c q.0 log)
all_stand c q keys log h = may_free [] (stands c q.0 log) keys h.keys h.once h.below

pub none_stand : (c : ℕ) (q : CallNo) (keys : List KeyId) (old new : List Entry) → Holds c q.0 keys old → acts c new ≡ acts c old ++ frees q keys → stands c q.0 new ≡ []
none_stand c q keys old new h e = ap (standing q.0) e ∙ standing_append q.0 [] (acts c old) (frees q keys) ∙ freed_stands q [] (stands c q.0 old) keys h.keys h.once

pub prefix_on : (a b c : List Entry) → IsPrefix a b → IsPrefix b c → IsPrefix a c
prefix_on a b c p q = (p.0 ++ q.0, sym (append_assoc a p.0 q.0) ∙ ap (λ w. w ++ q.0) p.1 ∙ q.1)

pub kept_on : (c : ℕ) (first old new : List Entry) (a : Act) → IsPrefix first old → Adds c old new a → IsPrefix first new
kept_on c first old new a p adds = prefix_on first old new p (adds_prefix c old new a adds)
