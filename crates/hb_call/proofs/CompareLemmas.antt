-- One more use of a kept check is compared.
use Rattle.std.proofs.Common.{◌≡◌, ℕ, zero, suc, ◌+◌, ◌<◌, ◌≤◌, inl, inr, Bool, true, false, cond, eqb, List, [], ◌∷◌, ◌++◌, length, map, take, Some, None, refl, sym, ap, ◌∙◌, subst, arith, eq-eqb, nat_eq}
use Rattle.std.proofs.{lemmas.Bool.eqb-true, lemmas.Option.none-some}
use Rattle.std.specs.Prelude.{Option, slice_get, if◌then◌else◌}
use Rattle.std.specs.List.{AllByRecursion}
use Rattle.hb_types.specs.declared.{ids.KeyId.KeyId, ids.TypeSite.TypeSite}
use Rattle.hb_tree.specs.Table.{Table}
use Rattle.hb_deriv.specs.declared.raw.Used.{Used}
use Rattle.hb_deriv.specs.Derivation.{key_of}
use Rattle.hb_cache.specs.declared.{kept.Kept.Kept, kept.Seen.Seen}
use Rattle.hb_cache.specs.Kept.{count_in, count_of}
use Rattle.hb_names.specs.Names.{Name, place}
use Rattle.hb_names.specs.declared.names.TheConstants.{NAMES_MAX}
use Rattle.hb_names.proofs.NameLemmas.{place-within}
use Rattle.hb_tables.specs.declared.{desk.Held.Held, entry.Entry.Entry, entry.Act.TheVariants.Hold}
use Rattle.hb_tables.specs.History.{spot, times, Adds, IsLegal}
use Rattle.hb_tables.specs.{Names.name_of, Standing.Stand, Standing.count_of as stands_of}
use Rattle.hb_tables.proofs.{DeskLemmas.adds_prefix, StandingLemmas.held_stands}
use Rattle.hb_call.specs.declared.answers.Answer.{Answer}
use Rattle.hb_call.specs.{Held.Holds, Held.stands, GrowthLaws.each_itself, OwnLaws.seen_now, OwnLaws.seen_on}
use Rattle.hb_call.specs.Calling.{AreTrue, Given, Goes, HasType, HoldsAnswer, IsAmong, IsAsking, IsCalling, has_key}
use Rattle.hb_call.specs.Comparing.{HasCompared, answers_in, answers_kept}
use Rattle.hb_call.proofs.{LookingLemmas.asking_key, CallingLemmas.holding, CallingLemmas.noted, GrowthLemmas.asked_again, NoteLemmas.answer_at, NoteLemmas.answer_of}
use Rattle.hb_call.proofs.{StayLemmas.hold_finds, StepLemmas.at, StepLemmas.goes_hold}
use Rattle.hb_call.specs.OwnCache.{AreUses, IsTrueCheck, IsUse}

-- ── the keys that are held ──

counted : (k : ℕ) (hs : List Stand) (held : List KeyId) → map (λ (h : Stand). h.key) hs ≡ map (λ (k : KeyId). k.0) held → has_key held k ≡ true → 1 ≤ stands_of k hs
counted k hs [] e t = absurd (cc t)
counted k [] (key ∷ held) e t = absurd (cc e)
counted k (h ∷ hs) (key ∷ held) e t = go (nat_eq key.0 k) refl t (counted k hs held (cc e))
  where
    same : key.0 ≡ h.key
    same = cc e

    go : (b : Bool) → nat_eq key.0 k ≡ b → (if b then true else has_key held k) ≡ true → (has_key held k ≡ true → 1 ≤ stands_of k hs) → 1 ≤ stands_of k (h ∷ hs)
    go true is t rest = let o : eqb k h.key ≡ true = eq-eqb k h.key (sym (eqb-true key.0 k is) ∙ same) in let n = ap (λ (b : Bool). cond b 1 0 + stands_of k hs) o in omega (arith, n)
    go false is t rest = let r = rest t in omega (arith, r)

pub held_key : (c q k : ℕ) (held : List KeyId) (log : List Entry) → Holds c q held log → has_key held k ≡ true → times (c, q) (spot k log).calls ≡ 1
held_key c q k held log h t = let a = held_stands c q k log in let b = counted k (stands c q log) held h.keys t in let o = h.once k in omega (arith, a, b, o)

-- ── the uses of a kept check ──

pub record UseAt (t : Table) (names asked : List Name) (log : List Entry) (us : List Used) (i : ℕ) (s : Seen) : Type 0 where
  pub u : Used
  pub is : slice_get us i ≡ Some u
  pub fits : IsUse t names asked log u s

pub use_at : (t : Table) (names asked : List Name) (log : List Entry) (us : List Used) (ss : List Seen) (i : ℕ) (s : Seen) → AreUses t names asked log us ss → slice_get ss i ≡ Some s → UseAt t names asked log us i s
use_at t names asked log us [] i s h e = absurd (none-some s e)
use_at t names asked log [] (x ∷ ss) i s h e = absurd h
use_at t names asked log (u ∷ us) (x ∷ ss) zero s h e = let a : x ≡ s = cc e in record { u = u; is = refl; fits = subst (IsUse t names asked log u) a h.0 }
use_at t names asked log (u ∷ us) (x ∷ ss) (suc i) s h e = let r = use_at t names asked log us ss i s h.1 e in record { u = r.u; is = r.is; fits = r.fits }

once_at : (kept : Kept) (ss : List Seen) (i : ℕ) (s : Seen) → AllByRecursion (λ (s : Seen). count_of kept s.key.0 ≡ Some s.changes) ss → slice_get ss i ≡ Some s → count_of kept s.key.0 ≡ Some s.changes
once_at kept [] i s h e = absurd (none-some s e)
once_at kept (x ∷ ss) zero s h e = let a : x ≡ s = cc e in subst (λ (z : Seen). count_of kept z.key.0 ≡ Some z.changes) a h.0
once_at kept (x ∷ ss) (suc i) s h e = once_at kept ss i s h.1 e

-- a key that was answered for has the count that is kept of it
among_count : (kept : Kept) (t : Table) (names : List Name) (log : List Entry) (x : ℕ × ℕ) (k n : ℕ) (us : List Used) (ss : List Seen) (i : ℕ)
    → AllByRecursion (λ (s : Seen). count_of kept s.key.0 ≡ Some s.changes) ss → count_of kept k ≡ Some n → AreTrue t names log x (take i (answers_in us ss))
    → IsAmong k (take i (answers_in us ss)) → (spot k log).changes ≡ n
among_count kept t names log x k n us ss zero once is h i = absurd i
among_count kept t names log x k n [] ss (suc m) once is h i = absurd i
among_count kept t names log x k n (u ∷ us) [] (suc m) once is h i = absurd i
among_count kept t names log x k n (u ∷ us) (s ∷ ss) (suc m) once is h (inl e) =
    let a : Some s.changes ≡ Some n = sym once.0 ∙ ap (count_of kept) (sym e) ∙ is in let b : s.changes ≡ n = cc a in
    ap (λ j. (spot j log).changes) e ∙ sym h.1.2 ∙ b
among_count kept t names log x k n (u ∷ us) (s ∷ ss) (suc m) once is h (inr i) = among_count kept t names log x k n us ss m once.1 is h.2 i

same_held : (a b : Held) → a.ty ≡ b.ty → a.changes ≡ b.changes → a ≡ b
same_held a b e f = ap (λ (o : Option TypeSite). record { ty = o; changes = a.changes }) e ∙ ap (λ (n : ℕ). record { ty = b.ty; changes = n }) f

module _ (g : Given) (known asked : List Name) (log : List Entry) (held : List KeyId) (kept : Kept) (i : ℕ) (s : Seen) (h : IsCalling g.t g.door g.q.0 known asked log g.key g.own held (take i (answers_kept kept)))
    (check : IsTrueCheck g.t known asked log kept) (there : slice_get kept.counts.items i ≡ Some s) (key : kept.key.0 ≡ g.key.0) (count : kept.changes ≡ g.own.changes) where
  abbrev pub the : UseAt g.t known asked log kept.derivation.uses.items i s
  the = use_at g.t known asked log kept.derivation.uses.items kept.counts.items i s check.uses there

  abbrev pub the_answer : Answer
  the_answer = answer_of the.u s

  pub the_answer_is : slice_get (answers_kept kept) i ≡ Some the_answer
  the_answer_is = answer_at kept.derivation.uses.items kept.counts.items i the.u s the.is there

  pub the_named : place known (name_of g.t (key_of the.u)) ≡ Some s.key.0
  the_named = the.fits.named

  -- a key that is held has the count that is kept
  same_count : times (g.door.caller, g.q.0) (spot s.key.0 log).calls ≡ 1 → (spot s.key.0 log).changes ≡ s.changes
  same_count one = elim (h.only s.key.0 one) [
    | inl e ↦ own e
    | inr among ↦ among_count kept g.t known log
        (g.door.caller, g.q.0) s.key.0 s.changes kept.derivation.uses.items kept.counts.items i check.once (once_at kept kept.counts.items i s check.once there) h.answered among
  ]
    where
      own : s.key.0 ≡ g.key.0 → (spot s.key.0 log).changes ≡ s.changes
      own e =
          let a : count_of kept kept.key.0 ≡ Some kept.changes = ap (λ (b : Bool). if b then Some kept.changes else count_in kept.counts.items kept.key.0) (eq-eqb kept.key.0 kept.key.0 refl) in
          let b : Some kept.changes ≡ Some s.changes = sym a ∙ ap (count_of kept) (key ∙ sym e) ∙ once_at kept kept.counts.items i s check.once there in let d : kept.changes ≡ s.changes = cc b in
          ap (λ j. (spot j log).changes) e ∙ sym h.own_is.2 ∙ sym count ∙ d

  pub held_so : times (g.door.caller, g.q.0) (spot s.key.0 log).calls ≡ 1 → HasType log (g.door.caller, g.q.0) s.key.0 the_answer.held
  held_so one = let n = same_count one in (one, sym (seen_now g.door.limit s.key s.changes s.site log h.legal the.fits.was n), sym n)

  pub compared_held : times (g.door.caller, g.q.0) (spot s.key.0 log).calls ≡ 1 → IsCalling g.t g.door g.q.0 known asked log g.key g.own held (take i (answers_kept kept) ++ the_answer ∷ [])
  compared_held one = noted g.t g.door g.q known asked log g.key g.own held (take i (answers_kept kept)) h the_answer the_named (held_so one)

  pub goes_compared : (new : List Entry) (found : Held) → Adds g.door.caller log new (Hold s.key g.q found.ty found.changes) → IsLegal g.door.limit new → Goes g (at known asked log) (at known asked new)
  goes_compared new found adds legal =
      subst (λ (m : List Name). Goes g (at known asked log) (at known m new)) (asked_again known asked (name_of g.t (key_of the.u)) s.key.0 the.fits.asked_for the_named)
      (goes_hold g known asked known log new (name_of g.t (key_of the.u)) s.key found.ty found.changes the_named adds legal)

  pub compared_hold : (new : List Entry) (found : Held) → Adds g.door.caller log new (Hold s.key g.q found.ty found.changes) → IsLegal g.door.limit new
      → times (g.door.caller, g.q.0) (spot s.key.0 log).calls ≡ 0 → s.key.0 < NAMES_MAX
      → IsCalling g.t g.door g.q.0 known asked new g.key g.own (held ++ s.key ∷ []) (take i (answers_kept kept) ++ record the_answer { held = found } ∷ [])
  compared_hold new found adds legal none low = holding g.t g.door g.q known asked log g.key g.own held (take i (answers_kept kept)) h new s.key found
      (record the_answer { held = found }) adds legal none low the.fits.asked_for refl refl the_named

  -- the count is as it was, and so is the type
  pub found_same : (new : List Entry) (found : Held) → Adds g.door.caller log new (Hold s.key g.q found.ty found.changes) → IsLegal g.door.limit new → found.changes ≡ s.changes → found ≡ the_answer.held
  found_same new found adds legal e =
      let finds = hold_finds g.door.limit g.door.caller g.q s.key found.ty found.changes log new adds legal in
      let was = seen_on s.key s.changes s.site log new (adds_prefix g.door.caller log new (Hold s.key g.q found.ty found.changes) adds) the.fits.was in
      same_held found the_answer.held (finds.0 ∙ seen_now g.door.limit s.key s.changes s.site new legal was (sym finds.1 ∙ e)) e

  pub the_low : length known ≤ NAMES_MAX → s.key.0 < NAMES_MAX
  the_low few = let a = place-within known (name_of g.t (key_of the.u)) s.key.0 the_named in omega (arith, a, few)

  -- its key is held
  pub kept_held : times (g.door.caller, g.q.0) (spot s.key.0 log).calls ≡ 1 → HasCompared g (at known asked log) (at known asked log) held kept i None
  kept_held one = record {
    a = the_answer;
    is = the_answer_is;
    calling = compared_held one;
    asking = record { more = the_answer ∷ []; grows = refl; holds = each_itself (HoldsAnswer g.t known g.door.caller g.q (take i (answers_kept kept) ++ the_answer ∷ [])) g.door.caller log };
    other = tt;
  }

  module _ (new : List Entry) (found : Held) (adds : Adds g.door.caller log new (Hold s.key g.q found.ty found.changes)) (legal : IsLegal g.door.limit new)
      (none : times (g.door.caller, g.q.0) (spot s.key.0 log).calls ≡ 0) (few : length known ≤ NAMES_MAX) where
    other_calling : IsCalling g.t g.door g.q.0 known asked new g.key g.own (held ++ s.key ∷ []) (take i (answers_kept kept) ++ record the_answer { held = found } ∷ [])
    other_calling = compared_hold new found adds legal none (the_low few)

    other_asking : IsAsking g (at known asked log) (at known asked new) (take i (answers_kept kept)) (take i (answers_kept kept) ++ record the_answer { held = found } ∷ [])
    other_asking = asking_key g known known asked asked log new g.key g.own held [] (take i (answers_kept kept)) (record the_answer { held = found }) h the_named (inr adds) legal

    -- the hold found another count
    pub kept_other : (found.changes ≡ s.changes → ⊥) → HasCompared g (at known asked log) (at known asked new) (held ++ s.key ∷ []) kept i (Some found)
    kept_other ne = record { a = the_answer; is = the_answer_is; calling = other_calling; asking = other_asking; other = ne }

    -- the hold found what is kept
    pub kept_same : found.changes ≡ s.changes → HasCompared g (at known asked log) (at known asked new) (held ++ s.key ∷ []) kept i None
    kept_same e =
        let same = found_same new found adds legal e in record {
          a = the_answer;
          is = the_answer_is;
          calling = subst (λ (f : Held). IsCalling g.t g.door g.q.0 known asked new g.key g.own (held ++ s.key ∷ []) (take i (answers_kept kept) ++ record the_answer { held = f } ∷ [])) same other_calling;
          asking = subst (λ (f : Held). IsAsking g (at known asked log) (at known asked new) (take i (answers_kept kept)) (take i (answers_kept kept) ++ record the_answer { held = f } ∷ [])) same other_asking;
          other = tt;
        }
