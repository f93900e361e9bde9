-- The turns of scripts among all turns that a history names.
use Rattle.std.proofs.Common.{◌≡◌, ◌≢◌, inl, inr, ℕ, zero, suc, ◌+◌, ◌-◌, Bool, true, false, List, [], ◌∷◌, ◌++◌, map, refl, sym, ap, ◌∙◌, subst, arith, cond, eqb, eq-eqb}
use Rattle.std.specs.Prelude.{replicate, if◌then◌else◌}
use Rattle.std.proofs.lemmas.Bool.{eqb-true}
use Rattle.std.proofs.lemmas.Bool.Decides.{eqb_tells}
use Rattle.hb_tree.specs.Table.{Table}
use Rattle.hb_names.specs.Names.{Name}
use Rattle.hb_tables.specs.declared.entry.Entry.{Entry}
use Rattle.hb_eval.specs.State.{tagged}
use Rattle.hb_turns.specs.Playing.{AreNumbered, Taken, acts_by, turns_by}
use Rattle.hb_turns.specs.Players.{AreTagged, IsTagged, less, turn_order, turns_left}
use Rattle.hb_ordered.specs.Turns.{AreAmong, among}
use Rattle.hb_ordered.proofs.TakenLemmas.{none_of}
use Rattle.hb_ordered.proofs.NextLemmas.{skips, takes}
use Rattle.hb_ordered.proofs.WalkLemmas.{among_part, none_there}

-- the turns of these callers
abbrev pub only : List ℕ → List Taken → List Taken
only cs [] = []
only cs (u ∷ us) = if among u.caller cs then u ∷ only cs us else only cs us

pub only_among : (cs : List ℕ) (us : List Taken) → AreAmong cs (only cs us)
only_among cs [] = tt
only_among cs (u ∷ us) = go (among u.caller cs) refl (only_among cs us)
  where
    go : (b : Bool) → among u.caller cs ≡ b → AreAmong cs (only cs us) → AreAmong cs (if b then u ∷ only cs us else only cs us)
    go true e h = (e, h)
    go false e h = h

module _ (cs : List ℕ) (c : ℕ) (real : among c cs ≡ true) where
  other : (u : Taken) → among u.caller cs ≡ false → eqb c u.caller ≡ false
  other u e = go (eqb c u.caller) refl
    where
      go : (b : Bool) → eqb c u.caller ≡ b → b ≡ false
      go true f = absurd (let same = ap (λ d. among d cs) (eqb-true c u.caller f) in let yes : true ≡ false = sym real ∙ same ∙ e in cc yes)
      go false f = refl

  pub turns_real : (us : List Taken) → turns_by c (only cs us) ≡ turns_by c us
  turns_real [] = refl
  turns_real (u ∷ us) = go (among u.caller cs) refl (turns_real us)
    where
      go : (b : Bool) → among u.caller cs ≡ b → turns_by c (only cs us) ≡ turns_by c us → turns_by c (if b then u ∷ only cs us else only cs us) ≡ turns_by c (u ∷ us)
      go true e h = ap (λ n. cond (eqb c u.caller) 1 0 + n) h
      go false e h = h ∙ sym (none_of (eqb c u.caller) (turns_by c us) (other u e))

  pub acts_real : (us : List Taken) → acts_by c (only cs us) ≡ acts_by c us
  acts_real [] = refl
  acts_real (u ∷ us) = go (among u.caller cs) refl (acts_real us)
    where
      go : (b : Bool) → among u.caller cs ≡ b → acts_by c (only cs us) ≡ acts_by c us → acts_by c (if b then u ∷ only cs us else only cs us) ≡ acts_by c (u ∷ us)
      go true e h = ap (λ l. cond (eqb c u.caller) (tagged u.begun u.acts ++ l) l) h
      go false e h = h ∙ sym (ap (λ b. cond b (tagged u.begun u.acts ++ acts_by c us) (acts_by c us)) (other u e))

-- ── numbers ──

pub find : (cs : List ℕ) (us bs rest : List Taken) (u : Taken) → only cs us ≡ bs ++ u ∷ rest → (before : List Taken) × (after : List Taken) × (us ≡ before ++ u ∷ after) × (only cs before ≡ bs)
find cs [] [] rest u e = absurd (cc e)
find cs [] (b ∷ bs) rest u e = absurd (cc e)
find cs (x ∷ us) bs rest u e = go (among x.caller cs) refl bs e (λ l. find cs us l rest u)
  where
    kept : (b : Bool) → among x.caller cs ≡ b → (l : List Taken) → only cs (x ∷ l) ≡ (if b then x ∷ only cs l else only cs l)
    kept b f l = ap (λ (d : Bool). if d then x ∷ only cs l else only cs l) f

    go : (b : Bool) → among x.caller cs ≡ b → (bs : List Taken) → (if b then x ∷ only cs us else only cs us) ≡ bs ++ u ∷ rest
        → ((l : List Taken) → only cs us ≡ l ++ u ∷ rest → (before : List Taken) × (after : List Taken) × (us ≡ before ++ u ∷ after) × (only cs before ≡ l))
        → (before : List Taken) × (after : List Taken) × (x ∷ us ≡ before ++ u ∷ after) × (only cs before ≡ bs)
    go true f [] e more = ([], us, (let h : x ≡ u = cc e in ap (λ z. z ∷ us) h), refl)
    go true f (b ∷ bs) e more =
        let tail : only cs us ≡ bs ++ u ∷ rest = cc e in
        let h : x ≡ b = cc e in
        let r = more bs tail in
        (x ∷ r.0, r.1, ap (λ l. x ∷ l) r.2, kept true f r.0 ∙ ap (λ z. z ∷ only cs r.0) h ∙ ap (λ l. b ∷ l) r.3)
    go false f bs e more = let r = more bs e in (x ∷ r.0, r.1, ap (λ l. x ∷ l) r.2, kept false f r.0 ∙ r.3)

pub numbers_only : (cs : List ℕ) (us : List Taken) → AreNumbered us → AreNumbered (only cs us)
numbers_only cs us all bs rest u e =
    let f = find cs us bs rest u e in
    let real : among u.caller cs ≡ true = (among_part cs bs (u ∷ rest) (subst (AreAmong cs) e (only_among cs us))).0 in
    let same : turns_by u.caller f.0 ≡ turns_by u.caller bs = sym (turns_real cs u.caller real f.0) ∙ ap (turns_by u.caller) f.3 in
    elim (all f.0 f.1 u f.2) [ inl h ↦ inl (h ∙ ap (λ n. n + 1) same) | inr h ↦ inr (h.0, sym same ∙ h.1) ]

pub tagged_only : (t : Table) (names : List Name) (steps : ℕ) (log : List Entry) (us : List Taken) (cs ds : List ℕ) → ((d : ℕ) → among d ds ≡ true → among d cs ≡ true)
    → AreTagged t names steps log us ds → AreTagged t names steps log (only cs us) ds
tagged_only t names steps log us cs [] inside h = tt
tagged_only t names steps log us cs (d ∷ ds) inside h = (one (inside d (let same = eq-eqb d d refl in rw same refl)) h.0, tagged_only t names steps log us cs ds (λ e k. inside e (more e (eqb e d) k)) h.1)
  where
    more : (e : ℕ) (b : Bool) → among e ds ≡ true → (if b then true else among e ds) ≡ true
    more e true k = refl
    more e false k = k

    one : among d cs ≡ true → IsTagged t names steps log us d → IsTagged t names steps log (only cs us) d
    one real x = record { block = x.block; runs = x.runs; run = x.run; reads = x.reads; many = turns_real cs d real us ∙ x.many; acts = x.acts ∙ sym (acts_real cs d real us) }

-- ── the order ──

abbrev sift : List ℕ → List ℕ → List ℕ
sift cs [] = []
sift cs (c ∷ l) = if among c cs then c ∷ sift cs l else sift cs l

-- so many turns are left for these callers, and none for others
abbrev kept_for : List ℕ → (ℕ → ℕ) → ℕ → ℕ
kept_for cs left c = if among c cs then left c else 0

module _ (cs : List ℕ) where
  sift_in : (c : ℕ) (l : List ℕ) → among c cs ≡ true → sift cs (c ∷ l) ≡ c ∷ sift cs l
  sift_in c l e = ap (λ (d : Bool). if d then c ∷ sift cs l else sift cs l) e

  sift_out : (c : ℕ) (l : List ℕ) → among c cs ≡ false → sift cs (c ∷ l) ≡ sift cs l
  sift_out c l e = ap (λ (d : Bool). if d then c ∷ sift cs l else sift cs l) e

  kept_in : (left : ℕ → ℕ) (c : ℕ) → among c cs ≡ true → kept_for cs left c ≡ left c
  kept_in left c e = ap (λ (d : Bool). if d then left c else 0) e

  kept_out : (left : ℕ → ℕ) (c : ℕ) → among c cs ≡ false → kept_for cs left c ≡ 0
  kept_out left c e = ap (λ (d : Bool). if d then left c else 0) e

  sift_many : (n c : ℕ) (l : List ℕ) → among c cs ≡ true → sift cs (replicate n c ++ l) ≡ replicate n c ++ sift cs l
  sift_many zero c l e = refl
  sift_many (suc n) c l e = sift_in c (replicate n c ++ l) e ∙ ap (λ k. c ∷ k) (sift_many n c l e)

  sift_left : (left : ℕ → ℕ) (ds : List ℕ) → ((d : ℕ) → among d ds ≡ true → among d cs ≡ true) → sift cs (turns_left left ds) ≡ turns_left (kept_for cs left) ds
  sift_left left [] inside = refl
  sift_left left (d ∷ ds) inside =
      let real : among d cs ≡ true = inside d (let same = eq-eqb d d refl in rw same refl) in
      sift_many (left d) d (turns_left left ds) real ∙ ap (λ l. replicate (left d) d ++ l) (sift_left left ds (λ e k. inside e (more e (eqb e d) k)))
      ∙ ap (λ n. replicate n d ++ turns_left (kept_for cs left) ds) (sym (kept_in left d real))
    where
      more : (e : ℕ) (b : Bool) → among e ds ≡ true → (if b then true else among e ds) ≡ true
      more e true k = refl
      more e false k = k

  -- one turn less of a caller that counts, and of another one
  less_in : (c : ℕ) (left : ℕ → ℕ) → among c cs ≡ true → (d : ℕ) → kept_for cs (less c left) d ≡ less c (kept_for cs left) d
  less_in c left e d = go (among d cs)
    where
      two : (x : Bool) (n : ℕ) → n ≡ 0 → n ≡ (if x then n - 1 else n)
      two true n e = omega (arith, e)
      two false n e = refl

      go : (b : Bool) → (if b then (if eqb d c then left d - 1 else left d) else 0) ≡ (if eqb d c then (if b then left d else 0) - 1 else (if b then left d else 0))
      go true = refl
      go false = two (eqb d c) 0 refl

  less_out : (c : ℕ) (left : ℕ → ℕ) → among c cs ≡ false → (d : ℕ) → kept_for cs (less c left) d ≡ kept_for cs left d
  less_out c left e d = go (eqb d c) refl
    where
      go : (x : Bool) → eqb d c ≡ x → (if among d cs then (if x then left d - 1 else left d) else 0) ≡ (if among d cs then left d else 0)
      go true f = let no : among d cs ≡ false = ap (λ z. among z cs) (eqb-true d c f) ∙ e in rw no refl
      go false f = refl

  sift_order : (order : List ℕ) (left : ℕ → ℕ) → sift cs (turn_order order left cs) ≡ turn_order order (kept_for cs left) cs
  sift_order [] left = sift_left left cs (λ d e. e)
  sift_order (c ∷ order) left = elim (eqb_tells (left c) 0) [
    | inl none ↦ ap (sift cs) (skips c order left cs none.1) ∙ sift_order order left ∙ sym (skips c order (kept_for cs left) cs (still (among c cs) none.1))
    | inr some ↦ go (among c cs) refl some.1 (sift_order order (less c left))
  ]
    where
      still : (b : Bool) → left c ≡ 0 → (if b then left c else 0) ≡ 0
      still true e = e
      still false e = refl

      go : (b : Bool) → among c cs ≡ b → left c ≢ 0 → sift cs (turn_order order (less c left) cs) ≡ turn_order order (kept_for cs (less c left)) cs
          → sift cs (turn_order (c ∷ order) left cs) ≡ turn_order (c ∷ order) (kept_for cs left) cs
      go true e some more =
          ap (sift cs) (takes c order left cs some) ∙ sift_in c (turn_order order (less c left) cs) e ∙ ap (λ l. c ∷ l) (more ∙ ap (λ f. turn_order order f cs) (λ i. λ d. less_in c left e d i))
          ∙ sym (takes c order (kept_for cs left) cs (λ z. some (sym (kept_in left c e) ∙ z)))
      go false e some more =
          ap (sift cs) (takes c order left cs some) ∙ sift_out c (turn_order order (less c left) cs) e ∙ more ∙ ap (λ f. turn_order order f cs) (λ i. λ d. less_out c left e d i)
          ∙ sym (skips c order (kept_for cs left) cs (kept_out left c e))

  map_only : (us : List Taken) → map (λ (u : Taken). u.caller) (only cs us) ≡ sift cs (map (λ (u : Taken). u.caller) us)
  map_only [] = refl
  map_only (u ∷ us) = go (among u.caller cs) (map_only us)
    where
      go : (b : Bool) → map (λ (u : Taken). u.caller) (only cs us) ≡ sift cs (map (λ (u : Taken). u.caller) us)
          → map (λ (u : Taken). u.caller) (if b then u ∷ only cs us else only cs us) ≡
          (if b then u.caller ∷ sift cs (map (λ (u : Taken). u.caller) us) else sift cs (map (λ (u : Taken). u.caller) us))
      go true h = ap (λ l. u.caller ∷ l) h
      go false h = h

  kept_turns : (us : List Taken) (c : ℕ) → kept_for cs (λ d. turns_by d us) c ≡ turns_by c (only cs us)
  kept_turns us c = go (among c cs) refl
    where
      go : (b : Bool) → among c cs ≡ b → (if b then turns_by c us else 0) ≡ turns_by c (only cs us)
      go true e = sym (turns_real cs c e us)
      go false e = sym (none_there c cs (only cs us) e (only_among cs us))

  pub order_only : (order : List ℕ) (us : List Taken) → map (λ (u : Taken). u.caller) us ≡ turn_order order (λ d. turns_by d us) cs
      → map (λ (u : Taken). u.caller) (only cs us) ≡ turn_order order (λ d. turns_by d (only cs us)) cs
  order_only order us e = map_only us ∙ ap (sift cs) e ∙ sift_order order (λ d. turns_by d us) ∙ ap (λ f. turn_order order f cs) (λ i. λ d. kept_turns us d i)
