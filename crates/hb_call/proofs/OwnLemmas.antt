-- What a call holds is what stands of it, and a fresh check says that.
use Rattle.std.proofs.Common.{◌≡◌, ◌⊎◌, inl, inr, ℕ, zero, suc, ◌+◌, ◌≤◌, ◌&&◌, eqb, Bool, true, false, cond, List, [], ◌∷◌, ◌++◌, Some, None, refl, sym, ap, ◌∙◌, subst, arith, eq-eqb}
use Rattle.std.proofs.lemmas.Bool.{eqb-true}
use mathlib.Core.Logic.{dite}
use native.Mathlib.Decide.{ℕ_discrete}
use Rattle.std.specs.{Prelude.if◌then◌else◌, Prelude.is_some, List.AllByRecursion}
use Rattle.hb_cache.specs.declared.{kept.Kept.Kept, kept.Seen.Seen}
use Rattle.hb_cache.specs.Cache.{SaysSame}
use Rattle.hb_cache.specs.Kept.{count_in, count_of as kept_count, item_of}
use Rattle.hb_tables.specs.declared.{entry.Entry.Entry, entry.Act.Act, entry.Act.TheVariants.Hold, entry.Act.TheVariants.Free, entry.Act.TheVariants.Retype}
use Rattle.hb_tables.specs.declared.{entry.Act.TheVariants.Busy, entry.Act.TheVariants.WornType, entry.Act.TheVariants.Define, entry.Act.TheVariants.WornDef}
use Rattle.hb_tables.specs.declared.{entry.Act.TheVariants.Call}
use Rattle.hb_tables.specs.Frames.{acts, frees_key, KeepsHold}
use Rattle.hb_tables.specs.History.{Spot, spot, times, done, entry, IsLegal}
use Rattle.hb_tables.specs.Standing.{Stand, all_but, stand_done, standing_from, standing, count_of}
use Rattle.hb_tables.proofs.{FrameLemmas.acts_append, FrameLemmas.hold_keeps, StandingLemmas.held_stands, StandingLemmas.standing_append}
use Rattle.hb_tables.proofs.HistoryLemmas.{legal_climb, legal_more, legal_none, sound, spot_more, turn_here}
use Rattle.hb_call.specs.{Held.stands, Own.counts_of, Own.item_by, OwnCache.HoldsCheck, OwnCache.IsFound}

-- what the Hold found is so behind this list
abbrev pub IsStill : List Entry → Stand → Type 0
IsStill log h = (h.ty ≡ (spot h.key log).ty) × (h.changes ≡ (spot h.key log).changes)

acts_one : (c : ℕ) (a : Act) → acts c (entry c a ∷ []) ≡ a ∷ []
acts_one c a = let e = eq-eqb c c refl in rw e refl

acts_other : (c d : ℕ) (a : Act) → eqb c d ≡ false → acts c (entry d a ∷ []) ≡ []
acts_other c d a e = rw e refl

still_last : (log : List Entry) (hs : List Stand) (h : Stand) → AllByRecursion (IsStill log) hs → IsStill log h → AllByRecursion (IsStill log) (hs ++ h ∷ [])
still_last log [] h all one = (one, tt)
still_last log (x ∷ hs) h all one = (all.0, still_last log hs h all.1 one)

apart : (j k : ℕ) → eqb j k ≡ false → eqb k j ≡ false
apart j k ne = go (eqb k j) refl
  where
    go : (b : Bool) → eqb k j ≡ b → b ≡ false
    go true e = absurd (let f = eq-eqb j k (sym (eqb-true k j e)) in cc (f, ne))
    go false e = refl

module _ (limit c q : ℕ) (log rest : List Entry) (legal : IsLegal limit (log ++ rest)) where
  -- the call holds the key, and keeps it over the rest
  IsKeptOn : Stand → Type 0
  IsKeptOn h = (1 ≤ times (c, q) (spot h.key log).calls) × KeepsHold q h.key (acts c rest)

  still_on : (hs : List Stand) → AllByRecursion IsKeptOn hs → AllByRecursion (IsStill log) hs → AllByRecursion (IsStill (log ++ rest)) hs
  unfolding IsKeptOn
  still_on [] kept all = tt
  still_on (h ∷ hs) kept all = let k = hold_keeps limit h.key c q log rest legal kept.0.1 kept.0.0 in ((all.0.0 ∙ sym k.0, all.0.1 ∙ sym k.1), still_on hs kept.1 all.1)

  on_while : (hs : List Stand) → ((k : ℕ) → KeepsHold q k (acts c rest)) → ((k : ℕ) → count_of k hs ≤ times (c, q) (spot k log).calls) → AllByRecursion IsKeptOn hs
  unfolding IsKeptOn
  on_while [] keeps few = tt
  on_while (h ∷ hs) keeps few = (
    (let f = few h.key in let one : count_of h.key (h ∷ hs) ≡ 1 + count_of h.key hs = ap (λ b. cond b 1 0 + count_of h.key hs) (eq-eqb h.key h.key refl) in omega (arith, f, one), keeps h.key),
    on_while hs keeps (λ k. let f = few k in omega (arith, f)),
  )

  on_but : (j : ℕ) (hs : List Stand) → ((k : ℕ) → eqb k j ≡ false → KeepsHold q k (acts c rest)) → ((k : ℕ) → count_of k hs ≤ times (c, q) (spot k log).calls) → AllByRecursion IsKeptOn (all_but j hs)
  unfolding IsKeptOn
  on_but j [] keeps few = tt
  on_but j (h ∷ hs) keeps few = by (eqb j h.key) refl (on_but j hs keeps (λ k. let f = few k in omega (arith, f)))
    where
      by : (b : Bool) → eqb j h.key ≡ b → AllByRecursion IsKeptOn (all_but j hs) → AllByRecursion IsKeptOn (cond b (all_but j hs) (h ∷ all_but j hs))
      by true is later = later
      by false is later = (
        (let f = few h.key in let one : count_of h.key (h ∷ hs) ≡ 1 + count_of h.key hs = ap (λ b. cond b 1 0 + count_of h.key hs) (eq-eqb h.key h.key refl) in omega (arith, f, one), keeps h.key (apart j h.key is)),
        later,
      )

still_but : (log : List Entry) (j : ℕ) (hs : List Stand) → AllByRecursion (IsStill log) hs → AllByRecursion (IsStill log) (all_but j hs)
still_but log j [] all = tt
still_but log j (h ∷ hs) all = by (eqb j h.key) (still_but log j hs all.1)
  where
    by : (b : Bool) → AllByRecursion (IsStill log) (all_but j hs) → AllByRecursion (IsStill log) (cond b (all_but j hs) (h ∷ all_but j hs))
    by true later = later
    by false later = (all.0, later)

module _ (limit c q : ℕ) where
  -- an act of the caller
  still_done : (log : List Entry) (hs : List Stand) (a : Act) → IsLegal limit (log ++ entry c a ∷ []) → ((k : ℕ) → count_of k hs ≤ times (c, q) (spot k log).calls)
      → AllByRecursion (IsStill log) hs → AllByRecursion (IsStill (log ++ entry c a ∷ [])) (stand_done q hs a)
  still_done log hs a legal few all = by a legal
    where
      keeps : (a : Act) (k : ℕ) → frees_key q k a ≡ false → KeepsHold q k (acts c (entry c a ∷ []))
      keeps a k h = subst (KeepsHold q k) (sym (acts_one c a)) (h, tt)

      stay : (a : Act) → IsLegal limit (log ++ entry c a ∷ []) → ((k : ℕ) → frees_key q k a ≡ false) → AllByRecursion (IsStill (log ++ entry c a ∷ [])) hs
      stay a legal h = still_on limit c q log (entry c a ∷ []) legal hs (on_while limit c q log (entry c a ∷ []) legal hs (λ k. keeps a k (h k)) few) all

      by : (a : Act) → IsLegal limit (log ++ entry c a ∷ []) → AllByRecursion (IsStill (log ++ entry c a ∷ [])) (stand_done q hs a)
      by (Hold key p ty changes) legal = go (eqb q p.0)
        where
          here : Stand
          here = record { key = key.0; ty = ty; changes = changes }

          is : spot key.0 (log ++ entry c (Hold key p ty changes) ∷ []) ≡ done c (spot key.0 log) (Hold key p ty changes)
          is = spot_more key.0 log (entry c (Hold key p ty changes)) ∙ turn_here key.0 (spot key.0 log) (entry c (Hold key p ty changes)) refl

          found : IsStill (log ++ entry c (Hold key p ty changes) ∷ []) here
          found = let f = legal log [] (entry c (Hold key p ty changes)) refl in (f.0 ∙ ap (λ (s : Spot). s.ty) (sym is), f.1 ∙ ap (λ (s : Spot). s.changes) (sym is))

          go : (b : Bool) → AllByRecursion (IsStill (log ++ entry c (Hold key p ty changes) ∷ [])) (cond b (hs ++ here ∷ []) hs)
          go true = still_last (log ++ entry c (Hold key p ty changes) ∷ []) hs here (stay (Hold key p ty changes) legal (λ k. refl)) found
          go false = stay (Hold key p ty changes) legal (λ k. refl)
      by (Free key p) legal = go (eqb q p.0) refl
        where
          new : List Entry
          new = log ++ entry c (Free key p) ∷ []

          go : (b : Bool) → eqb q p.0 ≡ b → AllByRecursion (IsStill (log ++ entry c (Free key p) ∷ [])) (cond b (all_but key.0 hs) hs)
          go true e = still_on limit c q log (entry c (Free key p) ∷ []) legal (all_but key.0 hs)
              (on_but limit c q log (entry c (Free key p) ∷ []) legal key.0 hs (λ k ne. keeps (Free key p) k (ap (λ b. eqb q p.0 && b) ne ∙ no (eqb q p.0))) few) (still_but log key.0 hs all)
            where
              no : (b : Bool) → (b && false) ≡ false
              no true = refl
              no false = refl
          go false e = stay (Free key p) legal (λ k. ap (λ b. b && eqb k key.0) e)
      by (Retype key site) legal = stay (Retype key site) legal (λ k. refl)
      by (Busy key pins) legal = stay (Busy key pins) legal (λ k. refl)
      by (WornType key) legal = stay (WornType key) legal (λ k. refl)
      by (Define key site) legal = stay (Define key site) legal (λ k. refl)
      by (WornDef key) legal = stay (WornDef key) legal (λ k. refl)
      by (Call key p site args v) legal = stay (Call key p site args v) legal (λ k. refl)

  IsSo : List Entry → Type 0
  IsSo log = IsLegal limit log × AllByRecursion (IsStill log) (stands c q log)

  more_so : (log : List Entry) (d : ℕ) (a : Act) → IsLegal limit (log ++ entry d a ∷ []) → AllByRecursion (IsStill log) (stands c q log)
      → AllByRecursion (IsStill (log ++ entry d a ∷ [])) (stands c q (log ++ entry d a ∷ []))
  more_so log d a legal all = by (eqb c d) refl
    where
      few : (k : ℕ) → count_of k (stands c q log) ≤ times (c, q) (spot k log).calls
      few k = let e = held_stands c q k log in omega (arith, e)

      after : (l : List Act) → acts c (entry d a ∷ []) ≡ l → standing_from q (stands c q log) l ≡ stands c q (log ++ entry d a ∷ [])
      after l e = sym (ap (standing q) (acts_append c log (entry d a ∷ []) ∙ ap (λ w. acts c log ++ w) e) ∙ standing_append q [] (acts c log) l)

      by : (b : Bool) → eqb c d ≡ b → AllByRecursion (IsStill (log ++ entry d a ∷ [])) (stands c q (log ++ entry d a ∷ []))
      by true e =
          let same : c ≡ d = eqb-true c d e in
          subst (λ (x : ℕ). IsLegal limit (log ++ entry x a ∷ []) → ((l : List Act) → acts c (entry x a ∷ []) ≡ l → standing_from q (stands c q log) l ≡ stands c q (log ++ entry x a ∷ []))
          → AllByRecursion (IsStill (log ++ entry x a ∷ [])) (stands c q (log ++ entry x a ∷ []))) same
          (λ legal after. subst (λ (hs : List Stand). AllByRecursion (IsStill (log ++ entry c a ∷ [])) hs) (after (a ∷ []) (acts_one c a)) (still_done log (stands c q log) a legal few all)) legal after
      by false e =
          let none = acts_other c d a e in
          subst (λ (hs : List Stand). AllByRecursion (IsStill (log ++ entry d a ∷ [])) hs) (after [] none)
          (still_on limit c q log (entry d a ∷ []) legal (stands c q log) (on_while limit c q log (entry d a ∷ []) legal (stands c q log) (λ k. subst (KeepsHold q k) (sym none) tt) few) all)

  -- what a call's Holds that stand found is so
  pub stands_still : (log : List Entry) → IsLegal limit log → AllByRecursion (IsStill log) (stands c q log)
  unfolding IsSo
  stands_still log legal = (legal_climb limit IsSo (legal_none limit, tt) (λ l e so fits. let now = legal_more limit l e so.0 fits in (now, more_so l e.caller.0 e.act now so.1)) log legal).1

-- the count that a key's Hold found is that of the key
counts_here : (log : List Entry) (hs : List Stand) (k : ℕ) → AllByRecursion (IsStill log) hs → 1 ≤ count_of k hs → counts_of hs k ≡ Some (spot k log).changes
counts_here log [] k all h = absurd (omega (arith, h))
counts_here log (x ∷ hs) k all h = by (eqb k x.key) refl (counts_here log hs k all.1) h
  where
    by : (b : Bool) → eqb k x.key ≡ b → (1 ≤ count_of k hs → counts_of hs k ≡ Some (spot k log).changes) → 1 ≤ cond b 1 0 + count_of k hs → (if b then Some x.changes else counts_of hs k) ≡ Some (spot k log).changes
    by true is later h = ap Some (all.0.1 ∙ ap (λ i. (spot i log).changes) (sym (eqb-true k x.key is)))
    by false is later h = later (omega (arith, h))

counts_nowhere : (hs : List Stand) (k : ℕ) → count_of k hs ≡ 0 → counts_of hs k ≡ None
counts_nowhere [] k h = refl
counts_nowhere (x ∷ hs) k h = by (eqb k x.key) (counts_nowhere hs k) h
  where
    by : (b : Bool) → (count_of k hs ≡ 0 → counts_of hs k ≡ None) → cond b 1 0 + count_of k hs ≡ 0 → (if b then Some x.changes else counts_of hs k) ≡ None
    by true later h = absurd (omega (arith, h))
    by false later h = later (omega (arith, h))

-- what was found of a key is the count of the key, which the call holds
found_at : (log : List Entry) (x : ℕ × ℕ) (seen : List Seen) (k : ℕ) → AllByRecursion (IsFound log x) seen → (count_in seen k ≡ None) ⊎ ((count_in seen k ≡ Some (spot k log).changes) × (times x (spot k log).calls ≡ 1))
found_at log x [] k all = inl refl
found_at log x (s ∷ seen) k all = by (eqb s.key.0 k) refl (found_at log x seen k all.1)
  where
    by : (b : Bool) → eqb s.key.0 k ≡ b → (count_in seen k ≡ None) ⊎ ((count_in seen k ≡ Some (spot k log).changes) × (times x (spot k log).calls ≡ 1))
        → ((if b then Some s.changes else count_in seen k) ≡ None) ⊎ (((if b then Some s.changes else count_in seen k) ≡ Some (spot k log).changes) × (times x (spot k log).calls ≡ 1))
    by true is later = let e = eqb-true s.key.0 k is in inr (ap Some (all.0.2 ∙ ap (λ i. (spot i log).changes) e), ap (λ i. times x (spot i log).calls) (sym e) ∙ all.0.0)
    by false is later = later

held_at : (log : List Entry) (x : ℕ × ℕ) (kept : Kept) (k : ℕ) → HoldsCheck log x kept → (kept_count kept k ≡ None) ⊎ ((kept_count kept k ≡ Some (spot k log).changes) × (times x (spot k log).calls ≡ 1))
held_at log x kept k h = by (eqb kept.key.0 k) refl
  where
    by : (b : Bool) → eqb kept.key.0 k ≡ b → ((if b then Some kept.changes else count_in kept.counts.items k) ≡ None)
        ⊎ (((if b then Some kept.changes else count_in kept.counts.items k) ≡ Some (spot k log).changes) × (times x (spot k log).calls ≡ 1))
    by true is = let e = eqb-true kept.key.0 k is in inr (ap Some (h.changes ∙ ap (λ i. (spot i log).changes) e), ap (λ i. times x (spot i log).calls) (sym e) ∙ h.own)
    by false is = found_at log x kept.counts.items k h.found

zero_of : (n : ℕ) → n ≤ 1 → (n ≡ 1 → ⊥) → n ≡ 0
zero_of zero low other = refl
zero_of (suc n) low other = absurd (other (omega (arith, low)))

-- a check of the keys that a call holds says what its Holds that stand found
pub says_held : (limit c q : ℕ) (log : List Entry) (kept : Kept) → IsLegal limit log → HoldsCheck log (c, q) kept → SaysSame (item_of kept) (item_by (stands c q log) kept.derivation.body)
says_held limit c q log kept legal h = record { body = refl; counts = λ k. by k (held_at log (c, q) kept k h) }
  where
    few : (k : ℕ) → times (c, q) (spot k log).calls ≤ 1
    few k = (sound limit log legal k).once (c, q)

    stand : (k : ℕ) → times (c, q) (spot k log).calls ≡ count_of k (stands c q log)
    stand k = held_stands c q k log

    stand_none : (k : ℕ) → kept_count kept k ≡ None → count_of k (stands c q log) ≡ 0
    stand_none k none = dite (ℕ_discrete (times (c, q) (spot k log).calls) 1)
        (λ one. absurd (let u = h.only k one in let n : is_some (kept_count kept k) ≡ false = ap is_some none in cc (n, u)))
        (λ other. let f = few k in let s = stand k in sym s ∙ zero_of (times (c, q) (spot k log).calls) f other)

    by : (k : ℕ) → (kept_count kept k ≡ None) ⊎ ((kept_count kept k ≡ Some (spot k log).changes) × (times (c, q) (spot k log).calls ≡ 1)) → kept_count kept k ≡ counts_of (stands c q log) k
    by k (inl none) = none ∙ sym (counts_nowhere (stands c q log) k (stand_none k none))
    by k (inr some) = some.0 ∙ sym (counts_here log (stands c q log) k (stands_still limit c q log legal) (let s = stand k in let o = some.1 in omega (arith, s, o)))

-- and has one count for each key
pub once_held : (log : List Entry) (x : ℕ × ℕ) (kept : Kept) → HoldsCheck log x kept → AllByRecursion (λ s. kept_count kept s.key.0 ≡ Some s.changes) kept.counts.items
once_held log x kept h = each kept.counts.items h.found
  where
    each : (seen : List Seen) → AllByRecursion (IsFound log x) seen → AllByRecursion (λ s. kept_count kept s.key.0 ≡ Some s.changes) seen
    each [] all = tt
    each (s ∷ seen) all = (by (held_at log x kept s.key.0 h), each seen all.1)
      where
        by : (kept_count kept s.key.0 ≡ None) ⊎ ((kept_count kept s.key.0 ≡ Some (spot s.key.0 log).changes) × (times x (spot s.key.0 log).calls ≡ 1)) → kept_count kept s.key.0 ≡ Some s.changes
        by (inl none) = absurd (let u = h.only s.key.0 all.0.0 in let n : is_some (kept_count kept s.key.0) ≡ false = ap is_some none in cc (n, u))
        by (inr some) = some.0 ∙ ap Some (sym all.0.2)
