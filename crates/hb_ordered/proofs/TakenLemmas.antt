-- What lists of turns have of one caller.
use Rattle.std.proofs.Common.{◌≡◌, inl, inr, ℕ, ◌+◌, ◌<◌, ◌≤◌, Bool, true, false, List, [], ◌∷◌, ◌++◌, refl, sym, ap, ◌∙◌, subst, arith, append_assoc, cond, eqb}
use Rattle.std.proofs.lemmas.Bool.{eqb-true}
use Rattle.std.proofs.lemmas.List.{map-append}
use Rattle.hb_tables.specs.declared.entry.Act.{Act}
use Rattle.hb_tables.specs.declared.entry.Entry.{Entry}
use Rattle.hb_tables.specs.Frames.{acts}
use Rattle.hb_tables.specs.History.{entry}
use Rattle.hb_tables.proofs.FrameLemmas.{acts_append}
use Rattle.hb_eval.specs.State.{tagged}
use Rattle.hb_turns.specs.Playing.{AreNumbered, HasNumber, Taken, acts_by, entries_by, entries_of, turns_by}
use Rattle.hb_ordered.proofs.AlongLemmas.{untagged}
use Rattle.hb_ordered.proofs.SameTurnLemmas.{TagsAre, plain}

-- ── counts, acts and entries ──

pub acts_of : (c : ℕ) (us vs : List Taken) → acts_by c (us ++ vs) ≡ acts_by c us ++ acts_by c vs
acts_of c [] vs = refl
acts_of c (u ∷ us) vs = go (eqb c u.caller) (acts_of c us vs)
  where
    go : (b : Bool) → acts_by c (us ++ vs) ≡ acts_by c us ++ acts_by c vs
        → cond b (tagged u.begun u.acts ++ acts_by c (us ++ vs)) (acts_by c (us ++ vs)) ≡ cond b (tagged u.begun u.acts ++ acts_by c us) (acts_by c us) ++ acts_by c vs
    go true h = ap (λ l. tagged u.begun u.acts ++ l) h ∙ sym (append_assoc (tagged u.begun u.acts) (acts_by c us) (acts_by c vs))
    go false h = h

pub turns_of : (c : ℕ) (us vs : List Taken) → turns_by c (us ++ vs) ≡ turns_by c us + turns_by c vs
turns_of c [] vs = omega arith
turns_of c (u ∷ us) vs = let h = turns_of c us vs in omega (arith, h)

pub own_acts : (c d : ℕ) (l : List Act) → acts c (entries_by d l) ≡ cond (eqb c d) l []
own_acts c d [] = go (eqb c d) []
  where
    go : (b : Bool) (l : List Act) → l ≡ cond b l l
    go true l = refl
    go false l = refl
own_acts c d (a ∷ l) = go (eqb c d) (own_acts c d l)
  where
    go : (b : Bool) → acts c (entries_by d l) ≡ cond b l [] → cond b (a ∷ acts c (entries_by d l)) (acts c (entries_by d l)) ≡ cond b (a ∷ l) []
    go true h = ap (λ x. a ∷ x) h
    go false h = h

-- a caller's acts in the entries of turns are those of its turns
pub acts_entries : (c : ℕ) (us : List Taken) → acts c (entries_of us) ≡ plain (acts_by c us)
acts_entries c [] = refl
acts_entries c (u ∷ us) =
    acts_append c (entries_by u.caller u.acts) (entries_of us) ∙ ap (λ l. l ++ acts c (entries_of us)) (own_acts c u.caller u.acts)
    ∙ ap (λ l. cond (eqb c u.caller) u.acts [] ++ l) (acts_entries c us) ∙ go (eqb c u.caller)
  where
    go : (b : Bool) → cond b u.acts [] ++ plain (acts_by c us) ≡ plain (cond b (tagged u.begun u.acts ++ acts_by c us) (acts_by c us))
    go true = sym (map-append (λ (e : ℕ × Act). e.1) (tagged u.begun u.acts) (acts_by c us) ∙ ap (λ l. l ++ plain (acts_by c us)) (untagged u.begun u.acts))
    go false = refl

pub entries_join : (us vs : List Taken) → entries_of (us ++ vs) ≡ entries_of us ++ entries_of vs
entries_join [] vs = refl
entries_join (u ∷ us) vs = ap (λ l. entries_by u.caller u.acts ++ l) (entries_join us vs) ∙ sym (append_assoc (entries_by u.caller u.acts) (entries_of us) (entries_of vs))

pub by_join : (c : ℕ) (l m : List Act) → entries_by c (l ++ m) ≡ entries_by c l ++ entries_by c m
by_join c [] m = refl
by_join c (a ∷ l) m = ap (λ (x : List Entry). entry c a ∷ x) (by_join c l m)

pub one_of : (b : Bool) (n : ℕ) → b ≡ true → cond b 1 0 + n ≡ n + 1
one_of true n e = omega arith
one_of false n e = absurd (cc e)

pub none_of : (b : Bool) (n : ℕ) → b ≡ false → cond b 1 0 + n ≡ n
none_of true n e = absurd (cc e)
none_of false n e = omega arith

-- a caller that takes no turn has no acts
pub no_acts : (c : ℕ) (us : List Taken) → turns_by c us ≡ 0 → acts_by c us ≡ []
no_acts c [] e = refl
no_acts c (u ∷ us) e = go (eqb c u.caller) e (no_acts c us)
  where
    go : (b : Bool) → cond b 1 0 + turns_by c us ≡ 0 → (turns_by c us ≡ 0 → acts_by c us ≡ []) → cond b (tagged u.begun u.acts ++ acts_by c us) (acts_by c us) ≡ []
    go true e more = absurd (omega (arith, e))
    go false e more = more (omega (arith, e))

-- ── the numbers of turns ──

tags_both : (ok : ℕ → Type 0) (l m : List (ℕ × Act)) → TagsAre ok l → TagsAre ok m → TagsAre ok (l ++ m)
tags_both ok [] m h k = k
tags_both ok (a ∷ l) m h k = (h.0, tags_both ok l m h.1 k)

tags_same : (ok : ℕ → Type 0) (n : ℕ) (l : List Act) → ok n → TagsAre ok (tagged n l)
tags_same ok n [] h = tt
tags_same ok n (a ∷ l) h = (h, tags_same ok n l h)

tags_more : (ok to : ℕ → Type 0) → ((i : ℕ) → ok i → to i) → (l : List (ℕ × Act)) → TagsAre ok l → TagsAre to l
tags_more ok to f [] h = tt
tags_more ok to f (a ∷ l) h = (f a.0 h.0, tags_more ok to f l h.1)

-- a caller's acts in these turns have these tags, where its next turn has one and those behind it do
tags_of : (ok : ℕ → Type 0) (c : ℕ) (u : Taken) (us : List Taken) → (eqb c u.caller ≡ true → ok u.begun) → TagsAre ok (acts_by c us) → TagsAre ok (acts_by c (u ∷ us))
tags_of ok c u us one rest = go (eqb c u.caller) one
  where
    go : (b : Bool) → (b ≡ true → ok u.begun) → TagsAre ok (cond b (tagged u.begun u.acts ++ acts_by c us) (acts_by c us))
    go true one = tags_both ok (tagged u.begun u.acts) (acts_by c us) (tags_same ok u.begun u.acts (one refl)) rest
    go false one = rest

module _ (whole : List Taken) (all : AreNumbered whole) (c : ℕ) where
  low_tags : (seen us : List Taken) → whole ≡ seen ++ us → TagsAre (λ i. i ≤ turns_by c whole) (acts_by c us)
  low_tags seen [] is = tt
  low_tags seen (u ∷ us) is = tags_of (λ i. i ≤ turns_by c whole) c u us (λ e. bound e (all seen us u is)) (low_tags (seen ++ u ∷ []) us (is ∙ sym (append_assoc seen (u ∷ []) us)))
    where
      bound : eqb c u.caller ≡ true → HasNumber seen u → u.begun ≤ turns_by c whole
      bound e number =
          let count : turns_by c whole ≡ turns_by c seen + (cond (eqb c u.caller) 1 0 + turns_by c us) = ap (turns_by c) is ∙ turns_of c seen (u ∷ us) in
          let one = one_of (eqb c u.caller) (turns_by c us) e in
          let mine : turns_by c seen ≡ turns_by u.caller seen = ap (λ d. turns_by d seen) (eqb-true c u.caller e) in
          elim number [ inl h ↦ omega (arith, count, one, mine, h) | inr h ↦ (let none = h.0 in omega (arith, none)) ]

  pub high_tags : (k : ℕ) → 1 ≤ k → (seen us : List Taken) → whole ≡ seen ++ us → k ≤ turns_by c seen → TagsAre (λ i. k < i) (acts_by c us)
  high_tags k some seen [] is low = tt
  high_tags k some seen (u ∷ us) is low = tags_of (λ i. k < i) c u us (λ e. bound e (all seen us u is))
      (high_tags k some (seen ++ u ∷ []) us (is ∙ sym (append_assoc seen (u ∷ []) us)) (let more = turns_of c seen (u ∷ []) in omega (arith, low, more)))
    where
      bound : eqb c u.caller ≡ true → HasNumber seen u → k < u.begun
      bound e number =
          let mine : turns_by c seen ≡ turns_by u.caller seen = ap (λ d. turns_by d seen) (eqb-true c u.caller e) in
          elim number [ inl h ↦ omega (arith, low, mine, h) | inr h ↦ absurd (let none = h.1 in omega (arith, some, low, mine, none)) ]

numbered_part : (us vs : List Taken) → AreNumbered (us ++ vs) → AreNumbered us
numbered_part us vs all before after u is = all before (after ++ vs) u (ap (λ l. l ++ vs) is ∙ append_assoc before (u ∷ after) vs)

-- what the caller did before a turn has lower numbers than the turn
pub before_turn : (us vs : List Taken) (v : Taken) → AreNumbered (us ++ v ∷ vs) → TagsAre (λ i. i < v.begun) (acts_by v.caller us)
before_turn us vs v all = elim (all us vs v refl) [
  | inl h ↦ tags_more (λ i. i ≤ turns_by v.caller us) (λ i. i < v.begun) (λ i le. omega (arith, le, h)) (acts_by v.caller us) (low_tags us (numbered_part us (v ∷ vs) all) v.caller [] us refl)
  | inr h ↦ subst (TagsAre (λ i. i < v.begun)) (sym (no_acts v.caller us h.1)) tt
]

-- a turn's number is not above the count of the turns up to it
pub number_low : (us vs : List Taken) (v : Taken) → AreNumbered (us ++ v ∷ vs) → v.begun ≤ turns_by v.caller us + 1
number_low us vs v all = elim (all us vs v refl) [ inl h ↦ omega (arith, h) | inr h ↦ (let none = h.0 in omega (arith, none)) ]

-- ── turns that are alike ──

-- the same callers took these turns, with the same acts
abbrev pub Alike : List Taken → List Taken → Type 0
Alike [] [] = Unit {0}
Alike (u ∷ us) (v ∷ vs) = (u.caller ≡ v.caller) × (u.acts ≡ v.acts) × Alike us vs
Alike _ _ = ⊥

pub alike_turns : (c : ℕ) (us vs : List Taken) → Alike us vs → turns_by c us ≡ turns_by c vs
alike_turns c [] [] h = refl
alike_turns c [] (v ∷ vs) h = absurd h
alike_turns c (u ∷ us) [] h = absurd h
alike_turns c (u ∷ us) (v ∷ vs) h = ap (λ d. cond (eqb c d) 1 0 + turns_by c us) h.0 ∙ ap (λ n. cond (eqb c v.caller) 1 0 + n) (alike_turns c us vs h.2)

pub alike_entries : (us vs : List Taken) → Alike us vs → entries_of us ≡ entries_of vs
alike_entries [] [] h = refl
alike_entries [] (v ∷ vs) h = absurd h
alike_entries (u ∷ us) [] h = absurd h
alike_entries (u ∷ us) (v ∷ vs) h = ap (λ d. entries_by d u.acts ++ entries_of us) h.0 ∙ ap (λ l. entries_by v.caller l ++ entries_of us) h.1 ∙ ap (λ l. entries_by v.caller v.acts ++ l) (alike_entries us vs h.2)

pub alike_plain : (c : ℕ) (us vs : List Taken) → Alike us vs → plain (acts_by c us) ≡ plain (acts_by c vs)
alike_plain c us vs h = sym (acts_entries c us) ∙ ap (acts c) (alike_entries us vs h) ∙ acts_entries c vs

pub alike_more : (us vs : List Taken) (u v : Taken) → Alike us vs → u.caller ≡ v.caller → u.acts ≡ v.acts → Alike (us ++ u ∷ []) (vs ++ v ∷ [])
alike_more [] [] u v h e f = (e, f, tt)
alike_more [] (y ∷ vs) u v h e f = absurd h
alike_more (x ∷ us) [] u v h e f = absurd h
alike_more (x ∷ us) (y ∷ vs) u v h e f = (h.0, h.1, alike_more us vs u v h.2 e f)
