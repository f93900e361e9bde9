-- What a call holds is what stands in its caller's acts.
use Rattle.std.proofs.Common.{◌≡◌, ℕ, ◌+◌, eqb, Bool, true, false, cond, ◌&&◌, List, [], ◌∷◌, ◌++◌, sym, refl, ap, ◌∙◌, subst, arith, eq-eqb}
use Rattle.std.proofs.lemmas.Bool.{eqb-true}
use Rattle.hb_tables.proofs.{FrameLemmas.times_other, AddingLemmas.none_without}
use Rattle.hb_tables.specs.declared.{entry.Entry.Entry, entry.Act.Act, entry.Act.TheVariants.Hold, entry.Act.TheVariants.Free, entry.Act.TheVariants.Retype}
use Rattle.hb_tables.specs.declared.{entry.Act.TheVariants.Busy, entry.Act.TheVariants.WornType, entry.Act.TheVariants.Define, entry.Act.TheVariants.WornDef}
use Rattle.hb_tables.specs.declared.{entry.Act.TheVariants.Call}
use Rattle.hb_tables.specs.History.{Spot, blank, times, without, key_of, done, turn, spot_from, spot}
use Rattle.hb_tables.specs.Frames.{acts}
use Rattle.hb_tables.specs.Standing.{Stand, all_but, stand_done, standing_from, standing, count_of}

pub count_last : (k : ℕ) (hs : List Stand) (h : Stand) → count_of k (hs ++ h ∷ []) ≡ count_of k hs + cond (eqb k h.key) 1 0
count_last k [] h = omega arith
count_last k (x ∷ hs) h = let r = count_last k hs h in omega (arith, r)

pub count_but : (k j : ℕ) (hs : List Stand) → count_of k (all_but j hs) ≡ cond (eqb k j) 0 (count_of k hs)
count_but k j [] = go (eqb k j)
  where
    go : (b : Bool) → (let z : ℕ = 0 in z) ≡ cond b 0 0
    go true = refl
    go false = refl
count_but k j (h ∷ hs) = go (eqb j h.key) refl (eqb k j) refl (count_but k j hs)
  where
    go : (a : Bool) → eqb j h.key ≡ a → (b : Bool) → eqb k j ≡ b → count_of k (all_but j hs) ≡ cond b 0 (count_of k hs)
        → count_of k (cond a (all_but j hs) (h ∷ all_but j hs)) ≡ cond b 0 (cond (eqb k h.key) 1 0 + count_of k hs)
    go true ea true eb r = r
    go true ea false eb r = let n : eqb k h.key ≡ false = ap (eqb k) (sym (eqb-true j h.key ea)) ∙ eb in rw n (omega (arith, r))
    go false ea true eb r = let n : eqb k h.key ≡ false = ap (λ i. eqb i h.key) (eqb-true k j eb) ∙ ea in rw n (omega (arith, r))
    go false ea false eb r = ap (λ n. cond (eqb k h.key) 1 0 + n) r

-- one act of the caller, at the key and elsewhere
held_one : (c q k : ℕ) (s : Spot) (hs : List Stand) (a : Act) → times (c, q) s.calls ≡ count_of k hs → times (c, q) (cond (eqb k (key_of a)) (done c s a) s).calls ≡ count_of k (stand_done q hs a)
held_one c q k s hs (Hold key p ty changes) e = go (eqb k key.0) refl (eqb q p.0) refl
  where
    one : (b : Bool) → b ≡ true → (let z : ℕ = cond b 1 0 in z) ≡ 1
    one true h = refl
    one false h = absurd (cc)

    two : (b : Bool) → b ≡ false → (let z : ℕ = cond b 1 0 in z) ≡ 0
    two false h = refl
    two true h = absurd (cc)

    go : (a : Bool) → eqb k key.0 ≡ a → (b : Bool) → eqb q p.0 ≡ b
        → times (c, q) (cond a (record s { calls = (c, p.0) ∷ s.calls }) s).calls ≡ count_of k (cond b (hs ++ record { key = key.0; ty = ty; changes = changes } ∷ []) hs)
    go true ea true eb = let f = eq-eqb c c refl in let n = count_last k hs (record { key = key.0; ty = ty; changes = changes }) in rw (f, eb) (let o = one (eqb k key.0) ea in omega (arith, e, n, o))
    go true ea false eb = let f = eq-eqb c c refl in rw (f, eb) (omega (arith, e))
    go false ea true eb = let n = count_last k hs (record { key = key.0; ty = ty; changes = changes }) in let o = two (eqb k key.0) ea in omega (arith, e, n, o)
    go false ea false eb = e
held_one c q k s hs (Free key p) e = go (eqb k key.0) refl (eqb q p.0) refl
  where
    go : (a : Bool) → eqb k key.0 ≡ a → (b : Bool) → eqb q p.0 ≡ b → times (c, q) (cond a (record s { calls = without (c, p.0) s.calls }) s).calls ≡ count_of k (cond b (all_but key.0 hs) hs)
    go true ea true eb = ap (λ n. times (c, q) (without (c, n) s.calls)) (sym (eqb-true q p.0 eb)) ∙ none_without (c, q) s.calls ∙ sym (count_but k key.0 hs ∙ ap (λ b. cond b 0 (count_of k hs)) ea)
    go true ea false eb = times_other (c, q) (c, p.0) s.calls (ap (λ b. eqb c c && b) eb ∙ no (eqb c c)) ∙ e
      where
        no : (b : Bool) → (b && false) ≡ false
        no true = refl
        no false = refl
    go false ea true eb = e ∙ sym (count_but k key.0 hs ∙ ap (λ b. cond b 0 (count_of k hs)) ea)
    go false ea false eb = e
held_one c q k s hs (Retype key site) e = elim (eqb k key.0) as (λ b. times (c, q) (cond b (done c s (Retype key site)) s).calls ≡ count_of k hs) [ true ↦ e | false ↦ e ]
held_one c q k s hs (Busy key pins) e = elim (eqb k key.0) as (λ b. times (c, q) (cond b s s).calls ≡ count_of k hs) [ true ↦ e | false ↦ e ]
held_one c q k s hs (WornType key) e = elim (eqb k key.0) as (λ b. times (c, q) (cond b s s).calls ≡ count_of k hs) [ true ↦ e | false ↦ e ]
held_one c q k s hs (Define key site) e = elim (eqb k key.0) as (λ b. times (c, q) (cond b (done c s (Define key site)) s).calls ≡ count_of k hs) [ true ↦ e | false ↦ e ]
held_one c q k s hs (WornDef key) e = elim (eqb k key.0) as (λ b. times (c, q) (cond b s s).calls ≡ count_of k hs) [ true ↦ e | false ↦ e ]
held_one c q k s hs (Call key p site args verdict) e = elim (eqb k key.0) as (λ b. times (c, q) (cond b s s).calls ≡ count_of k hs) [ true ↦ e | false ↦ e ]

-- another caller's act
times_apart : (c q d k : ℕ) (s : Spot) (a : Act) → eqb c d ≡ false → times (c, q) (cond (eqb k (key_of a)) (done d s a) s).calls ≡ times (c, q) s.calls
times_apart c q d k s a ne = elim (eqb k (key_of a)) as (λ b. times (c, q) (cond b (done d s a) s).calls ≡ times (c, q) s.calls) [ true ↦ one a | false ↦ refl ]
  where
    one : (a : Act) → times (c, q) (done d s a).calls ≡ times (c, q) s.calls
    one (Hold key p ty changes) = rw ne (omega arith)
    one (Free key p) = times_other (c, q) (d, p.0) s.calls (ap (λ b. b && eqb q p.0) ne)
    one (Retype key site) = refl
    one (Busy key pins) = refl
    one (WornType key) = refl
    one (Define key site) = refl
    one (WornDef key) = refl
    one (Call key p site args verdict) = refl

held_from : (c q k : ℕ) (s : Spot) (hs : List Stand) (xs : List Entry) → times (c, q) s.calls ≡ count_of k hs → times (c, q) (spot_from k s xs).calls ≡ count_of k (standing_from q hs (acts c xs))
held_from c q k s hs [] e = e
held_from c q k s hs (x ∷ xs) e = go (eqb c x.caller.0) refl (λ hs e. held_from c q k (turn k s x) hs xs e)
  where
    go : (b : Bool) → eqb c x.caller.0 ≡ b → ((hs : List Stand) → times (c, q) (turn k s x).calls ≡ count_of k hs → times (c, q) (spot_from k (turn k s x) xs).calls ≡ count_of k (standing_from q hs (acts c xs)))
        → times (c, q) (spot_from k (turn k s x) xs).calls ≡ count_of k (standing_from q hs (cond b (x.act ∷ acts c xs) (acts c xs)))
    go true t r = r (stand_done q hs x.act) (subst (λ d. times (c, q) (cond (eqb k (key_of x.act)) (done d s x.act) s).calls ≡ count_of k (stand_done q hs x.act)) (eqb-true c x.caller.0 t) (held_one c q k s hs x.act e))
    go false t r = r hs (times_apart c q x.caller.0 k s x.act t ∙ e)

-- what a call holds is what stands in its caller's acts
pub held_stands : (c q k : ℕ) (log : List Entry) → times (c, q) (spot k log).calls ≡ count_of k (standing q (acts c log))
held_stands c q k log = held_from c q k blank [] log refl

pub standing_append : (q : ℕ) (hs : List Stand) (l m : List Act) → standing_from q hs (l ++ m) ≡ standing_from q (standing_from q hs l) m
standing_append q hs [] m = refl
standing_append q hs (a ∷ l) m = standing_append q (stand_done q hs a) l m

-- acts in which the call has no part: neither a Hold nor a Free of it
abbrev pub has_part : ℕ → Act → Bool
has_part q (Hold key p ty changes) = eqb q p.0
has_part q (Free key p) = eqb q p.0
has_part _ _ = false

stand_apart : (q : ℕ) (hs : List Stand) (a : Act) → has_part q a ≡ false → stand_done q hs a ≡ hs
stand_apart q hs (Hold key p ty changes) h = rw h refl
stand_apart q hs (Free key p) h = rw h refl
stand_apart _ _ _ _ = refl

-- a frame's Holds stand as long as its call has no part in what its caller does
pub standing_stays : (q : ℕ) (l : List Act) (a : Act) → has_part q a ≡ false → standing q (l ++ a ∷ []) ≡ standing q l
standing_stays q l a h = standing_append q [] l (a ∷ []) ∙ stand_apart q (standing q l) a h
