-- A call that was read so far has begun and is open.
use Rattle.std.proofs.Common.{◌≡◌, ◌⊎◌, inl, inr, ℕ, Bool, true, false, List, [], ◌∷◌, ◌++◌, Option, map, arith, ne_eqb, refl, sym, ap, ◌∙◌, subst, append_assoc, nat_eq, cond, eqb, eq-eqb}
use Rattle.std.specs.Prelude.{◌&&◌}
use Rattle.std.specs.List.{AllByRecursion}
use Rattle.std.proofs.lemmas.Bool.{eqb-true}
use Rattle.std.proofs.lemmas.List.{append_cancel_left}
use mathlib.Core.List.{IsPrefix}
use Rattle.hb_types.specs.declared.ids.CallNo.{CallNo}
use Rattle.hb_types.specs.declared.ids.KeyId.{KeyId}
use Rattle.hb_types.specs.declared.ids.TypeSite.{TypeSite}
use Rattle.hb_types.specs.declared.types.Ty.{Ty}
use Rattle.hb_tables.specs.declared.entry.Act.{Act}
use Rattle.hb_tables.specs.declared.entry.Act.TheVariants.{Hold, Free, Retype, Busy, WornType, Define, WornDef, Call}
use Rattle.hb_tables.specs.declared.entry.Entry.{Entry}
use Rattle.hb_tree.specs.Table.{Table}
use Rattle.hb_names.specs.Names.{Differ, Name}
use Rattle.hb_tables.specs.Frames.{acts, KeepsHold}
use Rattle.hb_tables.specs.History.{IsLegal, Spot, blank, done, entry, spot, spot_from, turn}
use Rattle.hb_tables.specs.Standing.{Stand, standing_from}
use Rattle.hb_tables.proofs.FrameLemmas.{acts_append, keeps_parts}
use Rattle.hb_tables.proofs.HistoryLemmas.{spot_from_append}
use Rattle.hb_call.specs.Held.{HasCall, stands}
use Rattle.hb_call.specs.Reading.{takes_at}
use Rattle.hb_call.specs.Rules.{Began, GivesUp}
use Rattle.hb_turns.specs.Playing.{entries_by}
use Rattle.hb_turns.proofs.PlayingLemmas.{acts_by_itself}
use Rattle.hb_ordered.specs.Asking.{FitsArguments, TakesAt, Question, Defines, Declares, Starts, Goes, Ends, Answers, Started, IsAnswer, IsAsked}
use Rattle.hb_ordered.specs.Asking.{IsOpen, AsksOne, DefineOne, DeclareOne, StartOne, GoOne, EndOne}
use Rattle.hb_ordered.specs.Sharing.{AreShared, IsShared, Meet, NotFull}
use Rattle.hb_ordered.specs.Parting.{GoesPast, first_takes, IsBelow, IsFresh, IsFreshFor, IsReadFor, IsSoFar, IsWithin, Parting, is_of}
use Rattle.hb_ordered.proofs.FitsLemmas.{began_takes}
use Rattle.hb_ordered.proofs.AnswerLemmas.{one_answer, one_began, split}

-- ── acts within a call ──

within_keeps : (q : ℕ) (key : KeyId) (l : List Act) → AllByRecursion (IsWithin q key.0) l → KeepsHold q key.0 l
within_keeps q key [] h = tt
within_keeps q key (Hold j p ty n ∷ l) h = (refl, within_keeps q key l h.1)
within_keeps q key (Free j p ∷ l) h = (let apart = h.0.1 in go (eqb q p.0) (eqb key.0 j.0) refl apart, within_keeps q key l h.1)
  where
    go : (a b : Bool) → eqb key.0 j.0 ≡ b → nat_eq j.0 key.0 ≡ false → (a && b) ≡ false
    go true true e f = absurd (let same = eq-eqb j.0 key.0 (sym (eqb-true key.0 j.0 e)) in cc (same, f))
    go true false e f = refl
    go false b e f = refl
within_keeps q key (Retype j site ∷ l) h = absurd h.0
within_keeps q key (Busy j pins ∷ l) h = absurd h.0
within_keeps q key (WornType j ∷ l) h = absurd h.0
within_keeps q key (Define j site ∷ l) h = absurd h.0
within_keeps q key (WornDef j ∷ l) h = absurd h.0
within_keeps q key (Call j p site args v ∷ l) h = absurd h.0

redefs_turn : (q k c i : ℕ) (s : Spot) (a : Act) → IsWithin q k a → (turn i s (entry c a)).redefs ≡ s.redefs
redefs_turn q k c i s (Hold j p ty n) h = go (eqb i j.0)
  where
    go : (b : Bool) → (cond b (record s { calls = (c, p.0) ∷ s.calls }) s).redefs ≡ s.redefs
    go true = refl
    go false = refl
redefs_turn q k c i s (Free j p) h = go (eqb i j.0)
  where
    go : (b : Bool) → (cond b (done c s (Free j p)) s).redefs ≡ s.redefs
    go true = refl
    go false = refl
redefs_turn q k c i s (Retype j site) h = absurd h
redefs_turn q k c i s (Busy j pins) h = absurd h
redefs_turn q k c i s (WornType j) h = absurd h
redefs_turn q k c i s (Define j site) h = absurd h
redefs_turn q k c i s (WornDef j) h = absurd h
redefs_turn q k c i s (Call j p site args v) h = absurd h

redefs_within : (q k c i : ℕ) (s : Spot) (l : List Act) → AllByRecursion (IsWithin q k) l → (spot_from i s (entries_by c l)).redefs ≡ s.redefs
redefs_within q k c i s [] h = refl
redefs_within q k c i s (a ∷ l) h = redefs_within q k c i (turn i s (entry c a)) l h.1 ∙ redefs_turn q k c i s a h.0

fresh_stands : (q : ℕ) (hs : List Stand) (l : List Act) → IsFresh q l → standing_from q hs l ≡ hs
fresh_stands q hs [] h = refl
fresh_stands q hs (Hold j p ty n ∷ l) h = (let e = h.0 in rw e (fresh_stands q hs l h.1))
fresh_stands q hs (Free j p ∷ l) h = (let e = h.0 in rw e (fresh_stands q hs l h.1))
fresh_stands q hs (Retype j site ∷ l) h = fresh_stands q hs l h.1
fresh_stands q hs (Busy j pins ∷ l) h = fresh_stands q hs l h.1
fresh_stands q hs (WornType j ∷ l) h = fresh_stands q hs l h.1
fresh_stands q hs (Define j site ∷ l) h = fresh_stands q hs l h.1
fresh_stands q hs (WornDef j ∷ l) h = fresh_stands q hs l h.1
fresh_stands q hs (Call j p site args v ∷ l) h = fresh_stands q hs l h.1

-- an act at a place of two lists is in one of them
all_at : (P Q R : Act → Type 0) → ((a : Act) → P a → R a) → ((a : Act) → Q a → R a) → (l m xs ys : List Act) (x : Act) → AllByRecursion P l → AllByRecursion Q m → l ++ m ≡ xs ++ x ∷ ys → R x
all_at P Q R f g [] [] [] ys x h k e = absurd (let none : [] ≡ x ∷ ys = e in cc none)
all_at P Q R f g [] [] (z ∷ xs) ys x h k e = absurd (let none : [] ≡ z ∷ (xs ++ x ∷ ys) = e in cc none)
all_at P Q R f g [] (b ∷ m) [] ys x h k e = let same : b ≡ x = cc e in subst R same (g b k.0)
all_at P Q R f g [] (b ∷ m) (z ∷ xs) ys x h k e = all_at P Q R f g [] m xs ys x tt k.1 (cc e)
all_at P Q R f g (a ∷ l) m [] ys x h k e = let same : a ≡ x = cc e in subst R same (f a h.0)
all_at P Q R f g (a ∷ l) m (z ∷ xs) ys x h k e = all_at P Q R f g l m xs ys x h.1 k (cc e)

acts_at : (c : ℕ) (b a : List Entry) (x : Act) → acts c (b ++ entry c x ∷ a) ≡ acts c b ++ x ∷ acts c a
acts_at c b a x = acts_append c b (entry c x ∷ a) ∙ ap (λ l. acts c b ++ l) (let own = eq-eqb c c refl in rw own refl)

module _ (c q : ℕ) (p : CallNo) (key : KeyId) (ty : Option TypeSite) (n : ℕ) (number : p.0 ≡ q) (before : List Entry) (more : List Act) (fresh : IsFresh q (acts c before))
    (within : AllByRecursion (IsWithin q key.0) more) where
  log : List Entry
  log = before ++ entry c (Hold key p ty n) ∷ entries_by c more

  start : List Entry
  start = before ++ entry c (Hold key p ty n) ∷ []

  goes : start ++ entries_by c more ≡ log
  unfolding log start
  goes = append_assoc before (entry c (Hold key p ty n) ∷ []) (entries_by c more)

  -- behind any part of it, the call began with its Hold
  began_to : (l : List Entry) (since : List Entry) → start ++ since ≡ l → KeepsHold q key.0 (acts c since) → Began c p key start l
  unfolding start
  began_to l since is keeps = record {
    before = before;
    ty = ty;
    changes = n;
    is = refl;
    none = ap (λ i. stands c i before) number ∙ fresh_stands q [] (acts c before) fresh;
    since = since;
    goes = is;
    keeps = subst (λ i. KeepsHold i key.0 (acts c since)) (sym number) keeps;
  }

  all_keep : KeepsHold q key.0 (acts c (entries_by c more))
  all_keep = subst (KeepsHold q key.0) (sym (acts_by_itself c more)) (within_keeps q key more within)

  -- the key's type takes what the first Hold's type takes
  typed_here : (t : Table) (limit : ℕ) (kinds : List Ty) → IsLegal limit log → takes_at t ty kinds ≡ true → TakesAt t log key.0 kinds
  unfolding began_to
  typed_here t limit kinds legal fits = began_takes t limit c p key start log (began_to log (entries_by c more) goes all_keep) kinds legal fits

  -- the acts of the caller
  acts_log : acts c log ≡ acts c before ++ Hold key p ty n ∷ more
  unfolding log
  acts_log = acts_at c before (entries_by c more) (Hold key p ty n) ∙ ap (λ l. acts c before ++ Hold key p ty n ∷ l) (acts_by_itself c more)

  -- an act of the call, and what it may be
  IsPart : Act → Type 0
  IsPart a = (is_of q a ≡ false) ⊎ ((a ≡ Hold key p ty n) ⊎ IsWithin q key.0 a)

  part_at : (xs ys : List Act) (x : Act) → acts c log ≡ xs ++ x ∷ ys → IsPart x
  unfolding IsPart
  part_at xs ys x e = all_at (λ a. is_of q a ≡ false) (λ a. (a ≡ Hold key p ty n) ⊎ IsWithin q key.0 a) IsPart (λ a h. inl h) (λ a h. inr h) (acts c before) (Hold key p ty n ∷ more) xs ys x fresh
      (inl refl, all more within) (sym acts_log ∙ e)
    where
      all : (l : List Act) → AllByRecursion (IsWithin q key.0) l → AllByRecursion (λ a. (a ≡ Hold key p ty n) ⊎ IsWithin q key.0 a) l
      all [] h = tt
      all (a ∷ l) h = (inr h.0, all l h.1)

  no_call : HasCall c q log → ⊥
  unfolding IsPart
  no_call h = go (part_at (acts c h.before) (acts c h.after) (Call h.key h.call h.site h.args h.verdict) (ap (acts c) h.is ∙ acts_at c h.before h.after (Call h.key h.call h.site h.args h.verdict)))
    where
      go : IsPart (Call h.key h.call h.site h.args h.verdict) → ⊥
      go (inl e) = let same = eq-eqb q h.call.0 (sym h.number) in cc (same, e)
      go (inr (inl e)) = cc e
      go (inr (inr w)) = w

  -- no other key of the call is its first one
  other_key : (g : KeyId) → nat_eq g.0 key.0 ≡ false → g ≡ key → ⊥
  other_key g apart same = (let at = eq-eqb g.0 key.0 (ap (λ (k : KeyId). k.0) same) in cc (at, apart))

  goes_on : (r : CallNo) → r.0 ≡ q → GivesUp c r log → ⊥
  unfolding IsPart start
  goes_on r mine g =
      let one : r ≡ p = (let e : r.0 ≡ p.0 = mine ∙ sym number in λ i. record { 0 = e i }) in
      let f : Act = Free g.key r in
      go (part_at (acts c g.at) (acts c g.since) f (ap (acts c) g.is ∙ acts_at c g.at g.since f)) (split start (entries_by c more) g.at g.since (entry c f) (goes ∙ g.is)) one
    where
      behind : (rest : List Entry) → start ++ rest ≡ g.at → KeepsHold q key.0 (acts c rest)
      behind rest e =
          let whole : start ++ entries_by c more ≡ start ++ (rest ++ entry c (Free g.key r) ∷ g.since) = goes ∙ g.is ∙ ap (λ l. l ++ entry c (Free g.key r) ∷ g.since) (sym e)
          ∙ append_assoc start rest (entry c (Free g.key r) ∷ g.since) in
          let parts = append_cancel_left start (entries_by c more) (rest ++ entry c (Free g.key r) ∷ g.since) whole in
          (keeps_parts q key.0 (acts c rest) (acts c (entry c (Free g.key r) ∷ g.since)) (subst (KeepsHold q key.0)
          (ap (acts c) parts ∙ acts_append c rest (entry c (Free g.key r) ∷ g.since)) all_keep)).0

      in_start : (rest : List Entry) → start ≡ g.at ++ entry c (Free g.key r) ∷ rest → ⊥
      in_start rest e = first (all_at (λ a. is_of q a ≡ false) (λ a. a ≡ Hold key p ty n) (λ a. (is_of q a ≡ false) ⊎ (a ≡ Hold key p ty n)) (λ a h. inl h) (λ a h. inr h) (acts c before)
          (Hold key p ty n ∷ []) (acts c g.at) (acts c rest) (Free g.key r) fresh (refl, tt)
          (sym (acts_at c before [] (Hold key p ty n)) ∙ ap (acts c) e ∙ acts_at c g.at rest (Free g.key r)))
        where
          first : (is_of q (Free g.key r) ≡ false) ⊎ (Free g.key r ≡ Hold key p ty n) → ⊥
          first (inl h) = let same = eq-eqb q r.0 (sym mine) in cc (same, h)
          first (inr h) = cc h

      go : (is_of q (Free g.key r) ≡ false) ⊎ ((Free g.key r ≡ Hold key p ty n) ⊎ IsWithin q key.0 (Free g.key r))
          → (IsPrefix start g.at) ⊎ ((rest : List Entry) × (start ≡ g.at ++ entry c (Free g.key r) ∷ rest)) → r ≡ p → ⊥
      go (inl h) w one = let same = eq-eqb q r.0 (sym mine) in cc (same, h)
      go (inr (inl h)) w one = cc h
      go (inr (inr h)) (inl w) one = other_key g.key h.1 (one_began c p g.key key g.start start g.at (subst (λ (x : CallNo). Began c x g.key g.start g.at) one g.began)
          (began_to g.at w.0 w.1 (behind w.0 w.1))).0
      go (inr (inr h)) (inr w) one = in_start w.0 w.1

  open_here : IsOpen c q key.0 log
  open_here = record {
    call = p;
    number = number;
    key = key;
    key_is = refl;
    start = start;
    began = began_to log (entries_by c more) goes all_keep;
    same = ap (λ l. (spot key.0 l).redefs) (sym goes) ∙ ap (λ (s : Spot). s.redefs) (spot_from_append key.0 blank start (entries_by c more)) ∙ redefs_within q key.0 c key.0
        (spot key.0 start) more within;
    undecided = no_call;
    goes_on = goes_on;
  }

-- a call that was read so far, behind entries in which it has no part, is open
pub open_of : (c q k : ℕ) (before : List Entry) (since : List Act) → IsFresh q (acts c before) → IsSoFar q k since → IsOpen c q k (before ++ entries_by c since)
unfolding log
open_of c q k before [] fresh h = absurd h
open_of c q k before (a ∷ more) fresh h = go a h.0 fresh h.1
  where
    go : (a : Act) → Answers (Starts q k) a → IsFresh q (acts c before) → AllByRecursion (IsWithin q k) more → IsOpen c q k (before ++ entries_by c (a ∷ more))
    go _ (Started p key ty n) fresh within = open_here c p.0 p key ty n refl before more fresh within

-- a question that was read for is asked
asked_of : (c n : ℕ) (before : List Entry) (u : Question) (since : List Act) → IsReadFor n u since → IsFreshFor u (acts c before) → IsAsked c (before ++ entries_by c since) u
asked_of c n before (Goes q k kinds) since h f = open_of c q k before since f h.1
asked_of _ _ _ _ _ _ _ = tt

-- a call of the next number has no part in what was read
fresh_below : (n : ℕ) (l : List Act) → AllByRecursion (IsBelow n) l → IsFresh n l
fresh_below n [] h = tt
fresh_below n (Hold j p ty k ∷ l) h = (let low = h.0 in ne_eqb n p.0 (λ is. omega (arith, low, is)), fresh_below n l h.1)
fresh_below n (Free j p ∷ l) h = (let low = h.0 in ne_eqb n p.0 (λ is. omega (arith, low, is)), fresh_below n l h.1)
fresh_below n (Call j p site args v ∷ l) h = (let low = h.0 in ne_eqb n p.0 (λ is. omega (arith, low, is)), fresh_below n l h.1)
fresh_below n (Retype j site ∷ l) h = (refl, fresh_below n l h.1)
fresh_below n (Busy j pins ∷ l) h = (refl, fresh_below n l h.1)
fresh_below n (WornType j ∷ l) h = (refl, fresh_below n l h.1)
fresh_below n (Define j site ∷ l) h = (refl, fresh_below n l h.1)
fresh_below n (WornDef j ∷ l) h = (refl, fresh_below n l h.1)

fresh_for : (n : ℕ) (u : Question) (l since : List Act) → IsReadFor n u since → AllByRecursion (IsBelow n) l → IsFreshFor u l
fresh_for n (Goes q k kinds) l since r h = subst (λ i. IsFresh i l) (sym r.0) (fresh_below n l h)
fresh_for _ _ _ _ _ _ = tt

takes_of : (t : Table) (limit c q k : ℕ) (kinds : List Ty) (before : List Entry) (since : List Act) → IsFresh q (acts c before) → IsSoFar q k since → IsLegal limit (before ++ entries_by c since)
    → first_takes t kinds since ≡ true → TakesAt t (before ++ entries_by c since) k kinds
unfolding log
takes_of t limit c q k kinds before [] fresh h legal fits = absurd h
takes_of t limit c q k kinds before (a ∷ more) fresh h legal fits = go a h.0 fresh h.1 legal fits
  where
    go : (a : Act) → Answers (Starts q k) a → IsFresh q (acts c before) → AllByRecursion (IsWithin q k) more → IsLegal limit (before ++ entries_by c (a ∷ more))
        → first_takes t kinds (a ∷ more) ≡ true → TakesAt t (before ++ entries_by c (a ∷ more)) k kinds
    go _ (Started p key ty n) fresh within legal fits = typed_here c p.0 p key ty n refl before more fresh within t limit kinds legal fits

-- an act that goes past the first Hold rightly has arguments that fit
fits_of : (t : Table) (limit c n : ℕ) (before : List Entry) (u : Question) (since : List Act) (a : Act) → IsReadFor n u since → IsFreshFor u (acts c before)
    → IsLegal limit (before ++ entries_by c since) → GoesPast t u since a → FitsArguments t (before ++ entries_by c since) u a
fits_of t limit c n before (Goes q k kinds) since (Hold key p ty m) h f legal past = takes_of t limit c q k kinds before since f h.1 legal past
fits_of t limit c n before (Goes q k kinds) since (Free key p) h f legal past = takes_of t limit c q k kinds before since f h.1 legal past
fits_of _ _ _ _ _ _ _ _ _ _ _ _ = tt

-- what was read for a question was read for the same one by another list
read_other : (names others : List Name) (n : ℕ) (u v : Question) (l : List Act) → AsksOne names others u v → IsReadFor n u l → IsReadFor n v l
read_other names others n _ _ l (DefineOne p k j s e f) h = h
read_other names others n _ _ l (DeclareOne p k j s e f) h = h
read_other names others n _ _ l (StartOne p k j q e f) h = h
read_other names others n _ _ l (GoOne q k kinds) h = h
read_other names others n _ _ l (EndOne q k) h = h

pub next_one : (t : Table) (limit : ℕ) (names others : List Name) (c : ℕ) (before : List Entry) (common first second : List Act) (x : Parting t names others common first second)
    → Differ names → Differ others → AreShared names others (map (λ e. e.act) (before ++ entries_by c x.since))
    → IsLegal limit (before ++ entries_by c x.since) → acts c before ≡ map (λ e. e.1) x.state.read → Meet names others x.a x.b → NotFull names others x.question x.a x.b
    → NotFull others names x.other x.b x.a
    → IsAnswer t limit names c (before ++ entries_by c x.since) x.question x.a → IsAnswer t limit others c (before ++ entries_by c x.since) x.other x.b → (x.a ≡ x.b) × IsShared names others x.a
next_one t limit names others c before common first second x differ differ' shared legal read meet stays stays' a b =
    let below = subst (AllByRecursion (IsBelow x.state.next)) (sym read) x.below in
    let fresh = fresh_for x.state.next x.question (acts c before) x.since x.since_is below in
    let since' = read_other names others x.state.next x.question x.other x.since x.one x.since_is in
    let fresh' = fresh_for x.state.next x.other (acts c before) x.since since' below in
    one_answer t limit names others differ differ' c (before ++ entries_by c x.since) shared x.question x.other x.a x.b x.one
    (asked_of c x.state.next before x.question x.since x.since_is fresh) meet stays stays' a b
    (fits_of t limit c x.state.next before x.question x.since x.a x.since_is fresh legal x.past_a) (fits_of t limit c x.state.next before x.other x.since x.b since' fresh' legal x.past_b)
