-- What is kept while a call is decided, at each step.
use Rattle.std.proofs.Common.{◌≡◌, ◌≢◌, ℕ, zero, suc, ◌+◌, ◌<◌, ◌≤◌, ◌⊎◌, inl, inr, ⊎_elim, Bool, true, false, cond, eqb, List, [], ◌∷◌, ◌++◌, length, map, Some, None, sym}
use Rattle.std.proofs.Common.{refl, ap, ◌∙◌, subst, arith, eq-eqb, append_assoc, nat_eq}
use Rattle.std.proofs.{lemmas.List.append-nil, lemmas.List.map-append, lemmas.Bool.eqb-true, lemmas.Option.none-some}
use Rattle.std.specs.Prelude.{Option, IfSome, if◌then◌else◌}
use Rattle.std.specs.List.{AllByRecursion}
use mathlib.Core.List.{IsPrefix}
use Rattle.hb_types.specs.declared.{ids.KeyId.KeyId, ids.CallNo.CallNo, ids.TypeSite.TypeSite}
use Rattle.hb_tree.specs.Table.{Table}
use Rattle.hb_names.specs.Names.{Name, place}
use Rattle.hb_names.proofs.NameLemmas.{place-longer}
use Rattle.hb_names.specs.declared.names.TheConstants.{NAMES_MAX}
use Rattle.hb_tree.specs.declared.limits.TheConstants.{TYPES_MAX}
use Rattle.hb_tables.specs.declared.{entry.TheConstants.HOLDS_MAX, desk.Held.Held, entry.Entry.Entry, entry.Act.TheVariants.Hold}
use Rattle.hb_tables.specs.{Answers.Fixed, Names.name_of, Frames.acts, Frames.KeepsHold, Standing.Stand, Standing.count_of}
use Rattle.hb_tables.specs.History.{spot, times, of_caller, entry, IsLegal, Adds, ty_code}
use Rattle.hb_tables.proofs.{HistoryLemmas.sound, DeskLemmas.adds_stand, AddingLemmas.held_after, StandingLemmas.held_stands, StandingLemmas.count_last}
use Rattle.hb_call.specs.declared.answers.Answer.{Answer}
use Rattle.hb_call.specs.Held.{stands}
use Rattle.hb_call.specs.Calling.{Given, HasType, AreTrue, IsAmong, IsAskedFor, IsCalling, held_among}
use Rattle.hb_call.proofs.{RoomLemmas.room_hold, GrowthLemmas.asked_on, GrowthLemmas.whole_hold}
use Rattle.hb_call.proofs.StayLemmas.{hold_finds, held_once, type_stays, answers_stay, acts_last}

true_named : (t : Table) (names known : List Name) (log : List Entry) (x : ℕ × ℕ) (answers : List Answer) → IsPrefix names known → AreTrue t names log x answers → AreTrue t known log x answers
true_named t names known log x [] longer h = tt
true_named t names known log x (a ∷ answers) longer h = (place-longer names known (name_of t (a.class.0, a.name.0)) a.key.0 longer h.0, h.1, true_named t names known log x answers longer h.2)

true_last : (t : Table) (names : List Name) (log : List Entry) (x : ℕ × ℕ) (answers : List Answer) (a : Answer) → place names (name_of t (a.class.0, a.name.0)) ≡ Some a.key.0
    → HasType log x a.key.0 a.held → AreTrue t names log x answers → AreTrue t names log x (answers ++ a ∷ [])
true_last t names log x [] a named typed h = (named, typed, tt)
true_last t names log x (b ∷ answers) a named typed h = (h.0, h.1, true_last t names log x answers a named typed h.2)

among_more : (k : ℕ) (answers : List Answer) (a : Answer) → IsAmong k answers → IsAmong k (answers ++ a ∷ [])
among_more k [] a h = absurd h
among_more k (b ∷ answers) a (inl e) = inl e
among_more k (b ∷ answers) a (inr h) = inr (among_more k answers a h)

among_last : (k : ℕ) (answers : List Answer) (a : Answer) → k ≡ a.key.0 → IsAmong k (answers ++ a ∷ [])
among_last k [] a e = inl e
among_last k (b ∷ answers) a e = inr (among_last k answers a e)

-- an answer that is found tells of the key
pub type_found : (t : Table) (names : List Name) (log : List Entry) (x : ℕ × ℕ) (answers : List Answer) (k : ℕ) (ty : Held) → AreTrue t names log x answers → Some ty ≡ held_among answers k → HasType log x k ty
type_found t names log x [] k ty h e = absurd (none-some ty (sym e))
type_found t names log x (a ∷ answers) k ty h e = go (nat_eq a.key.0 k) refl e (type_found t names log x answers k ty h.2)
  where
    go : (b : Bool) → nat_eq a.key.0 k ≡ b → Some ty ≡ (if b then Some a.held else held_among answers k) → (Some ty ≡ held_among answers k → HasType log x k ty) → HasType log x k ty
    go true is e rest = let s : ty ≡ a.held = cc in subst (λ (j : ℕ). HasType log x j ty) (eqb-true a.key.0 k is) (subst (λ (s : Held). HasType log x a.key.0 s) (sym s) h.1)
    go false is e rest = rest e

-- what is found in the first of two parts is found in both
pub among_first : (xs ys : List Answer) (k : ℕ) (held : Held) → Some held ≡ held_among xs k → held_among (xs ++ ys) k ≡ Some held
among_first [] ys k held e = absurd (none-some held (sym e))
among_first (a ∷ xs) ys k held e = go (nat_eq a.key.0 k) e (among_first xs ys k held)
  where
    go : (b : Bool) → Some held ≡ (if b then Some a.held else held_among xs k) → (Some held ≡ held_among xs k → held_among (xs ++ ys) k ≡ Some held) → (if b then Some a.held else held_among (xs ++ ys) k) ≡ Some held
    go true e rest = sym e
    go false e rest = rest e

-- where the first part has nothing, the second decides
pub among_later : (xs ys : List Answer) (k : ℕ) → None ≡ held_among xs k → held_among (xs ++ ys) k ≡ held_among ys k
among_later [] ys k e = refl
among_later (a ∷ xs) ys k e = go (nat_eq a.key.0 k) e (among_later xs ys k)
  where
    go : (b : Bool) → None ≡ (if b then Some a.held else held_among xs k) → (None ≡ held_among xs k → held_among (xs ++ ys) k ≡ held_among ys k) → (if b then Some a.held else held_among (xs ++ ys) k) ≡ held_among ys k
    go true e rest = absurd (none-some a.held e)
    go false e rest = rest e

pub none_found : (answers : List Answer) (k : ℕ) → None ≡ held_among answers k → IsAmong k answers → ⊥
none_found [] k e h = h
none_found (a ∷ answers) k e h = go (nat_eq a.key.0 k) refl e h (none_found answers k)
  where
    go : (b : Bool) → nat_eq a.key.0 k ≡ b → None ≡ (if b then Some a.held else held_among answers k) → (k ≡ a.key.0) ⊎ IsAmong k answers → (None ≡ held_among answers k → IsAmong k answers → ⊥) → ⊥
    go true is e h rest = none-some a.held e
    go false is e (inl same) rest = let t = eq-eqb a.key.0 k (sym same) in cc
    go false is e (inr h) rest = rest e h

pub site_below : (limit k : ℕ) (log : List Entry) (ty : Option TypeSite) → IsLegal limit log → ty ≡ (spot k log).ty → IfSome ty (λ (s : TypeSite). s.0 < TYPES_MAX)
site_below limit k log None legal e = tt
site_below limit k log (Some s) legal e = let low : ty_code (Some s) ≤ TYPES_MAX = subst (λ (o : Option TypeSite). ty_code o ≤ TYPES_MAX) (sym e) (sound limit log legal k).ty in omega (arith, low)

below_last : (held : List KeyId) (key : KeyId) → AllByRecursion (λ (k : KeyId). k.0 < NAMES_MAX) held → key.0 < NAMES_MAX → AllByRecursion (λ (k : KeyId). k.0 < NAMES_MAX) (held ++ key ∷ [])
below_last [] key h low = (low, tt)
below_last (k ∷ held) key h low = (h.0, below_last held key h.1 low)

-- what stands behind a Hold
pub hold_stands : (c : ℕ) (q : CallNo) (key : KeyId) (ty : Option TypeSite) (n : ℕ) (old new : List Entry) → Adds c old new (Hold key q ty n)
    → stands c q.0 new ≡ stands c q.0 old ++ record { key = key.0; ty = ty; changes = n } ∷ []
hold_stands c q key ty n old new h = adds_stand c q.0 old new (Hold key q ty n) h ∙ ap (λ b. cond b (stands c q.0 old ++ record { key = key.0; ty = ty; changes = n } ∷ []) (stands c q.0 old)) (eq-eqb q.0 q.0 refl)

pub hold_keys : (c : ℕ) (q : CallNo) (key : KeyId) (ty : Option TypeSite) (n : ℕ) (old new : List Entry) (held : List KeyId) → Adds c old new (Hold key q ty n)
    → map (λ (h : Stand). h.key) (stands c q.0 old) ≡ map (λ (k : KeyId). k.0) held → map (λ (h : Stand). h.key) (stands c q.0 new) ≡ map (λ (k : KeyId). k.0) (held ++ key ∷ [])
hold_keys c q key ty n old new held h e =
    ap (map (λ (h : Stand). h.key)) (hold_stands c q key ty n old new h) ∙ map-append (λ (h : Stand). h.key) (stands c q.0 old) (record { key = key.0; ty = ty; changes = n } ∷ [])
    ∙ ap (λ l. l ++ key.0 ∷ []) e ∙ sym (map-append (λ (k : KeyId). k.0) held (key ∷ []))

-- behind a Hold of a key the call holds this one and those from before
pub held_then : (c : ℕ) (q : CallNo) (key : KeyId) (ty : Option TypeSite) (n : ℕ) (old new : List Entry) (k : ℕ) → Adds c old new (Hold key q ty n) → times (c, q.0) (spot k new).calls ≡ 1
    → (k ≡ key.0) ⊎ (times (c, q.0) (spot k old).calls ≡ 1)
held_then c q key ty n old new k h one = go (eqb k key.0) refl
  where
    s : Stand
    s = record { key = key.0; ty = ty; changes = n }

    is : times (c, q.0) (spot k new).calls ≡ count_of k (stands c q.0 old) + cond (eqb k key.0) 1 0
    is = held_stands c q.0 k new ∙ ap (count_of k) (hold_stands c q key ty n old new h) ∙ count_last k (stands c q.0 old) s

    go : (b : Bool) → eqb k key.0 ≡ b → (k ≡ key.0) ⊎ (times (c, q.0) (spot k old).calls ≡ 1)
    go true e = inl (eqb-true k key.0 e)
    go false e = inr (let a = is ∙ ap (λ b. count_of k (stands c q.0 old) + cond b 1 0) e in let d = held_stands c q.0 k old in omega (arith, one, a, d))

module _ (t : Table) (door : Fixed) (q : CallNo) (names asked : List Name) (log : List Entry) (key : KeyId) (own : Held) (held : List KeyId) (answers : List Answer)
    (h : IsCalling t door q.0 names asked log key own held answers) where
  -- a key that is neither the call's own nor among the answers is not held
  pub not_held : (k : ℕ) → k ≢ key.0 → None ≡ held_among answers k → times (door.caller, q.0) (spot k log).calls ≡ 0
  not_held k other none = go (times (door.caller, q.0) (spot k log).calls) refl ((sound door.limit log h.legal k).once (door.caller, q.0))
    where
      go : (n : ℕ) → times (door.caller, q.0) (spot k log).calls ≡ n → n ≤ 1 → n ≡ 0
      go zero e low = refl
      go (suc zero) e low = absurd (⊎_elim other (none_found answers k none) (h.only k e))
      go (suc (suc n)) e low = absurd (omega (arith, low))

  pub has_room : (k : ℕ) → times (door.caller, q.0) (spot k log).calls ≡ 0 → length (of_caller door.caller (spot k log).calls) < HOLDS_MAX
  has_room k none = let r = h.room k in omega (arith, r, none)

  pub noted : (a : Answer) → place names (name_of t (a.class.0, a.name.0)) ≡ Some a.key.0 → HasType log (door.caller, q.0) a.key.0 a.held → IsCalling t door q.0 names asked log key own held (answers ++ a ∷ [])
  noted a named typed = record {
    legal = h.legal;
    room = h.room;
    holds = h.holds;
    first = h.first;
    own_is = h.own_is;
    answered = true_last t names log (door.caller, q.0) answers a named typed h.answered;
    only = λ k one. ⊎_elim (λ e. inl e) (λ i. inr (among_more k answers a i)) (h.only k one);
    asked_for = h.asked_for;
    whole = h.whole;
  }

  pub named_on : (known more : List Name) → IsPrefix names known → IsPrefix asked more → IsCalling t door q.0 known more log key own held answers
  named_on known more longer grows = record {
    legal = h.legal;
    room = h.room;
    holds = h.holds;
    first = h.first;
    own_is = h.own_is;
    answered = true_named t names known log (door.caller, q.0) answers longer h.answered;
    only = h.only;
    asked_for = λ k one. asked_on names known asked more k longer grows (h.asked_for k one);
    whole = h.whole;
  }

  pub holding : (new : List Entry) (j : KeyId) (found : Held) (a : Answer) → Adds door.caller log new (Hold j q found.ty found.changes) → IsLegal door.limit new
      → times (door.caller, q.0) (spot j.0 log).calls ≡ 0 → j.0 < NAMES_MAX
      → IsAskedFor names asked j.0 → a.key ≡ j → a.held ≡ found → place names (name_of t (a.class.0, a.name.0)) ≡ Some a.key.0 → IsCalling t door q.0 names asked new key own (held ++ j ∷ []) (answers ++ a ∷ [])
  holding new j found a adds legal none low asks same site named =
      let ty = found.ty in let n = found.changes in
      let c = door.caller in
      let rest : List Entry = adds.0 ++ entry c (Hold j q ty n) ∷ [] in
      let is : log ++ rest ≡ new = sym (append_assoc log adds.0 (entry c (Hold j q ty n) ∷ [])) ∙ sym adds.1 in
      let legal2 : IsLegal door.limit (log ++ rest) = subst (IsLegal door.limit) (sym is) legal in
      let keeps : (k : ℕ) → KeepsHold q.0 k (acts c rest) = λ k. subst (KeepsHold q.0 k) (sym (acts_last c adds.0 (Hold j q ty n) adds.2)) (refl, tt) in
      let finds = hold_finds door.limit c q j ty n log new adds legal in let typed : HasType new (c, q.0) j.0 found = (held_after c log new q j ty n adds none, finds.0, finds.1) in
      record {
        legal = legal;
        room = room_hold c q j ty n log new adds h.room;
        holds = record { keys = hold_keys c q j ty n log new held adds h.holds.keys; once = held_once door.limit c q.0 new legal; below = below_last held j h.holds.below low };
        first = (h.first.0 ++ j ∷ [], ap (λ l. l ++ j ∷ []) h.first.1);
        own_is = subst (λ l. HasType l (c, q.0) key.0 own) is (type_stays door.limit c q.0 log rest legal2 key.0 (keeps key.0) own h.own_is);
        answered = true_last t names new (c, q.0) answers a named (subst (λ (s : Held). HasType new (c, q.0) a.key.0 s) (sym site) (subst (λ (k : KeyId). HasType new (c, q.0) k.0 found) (sym same) typed))
            (subst (λ l. AreTrue t names l (c, q.0) answers) is (answers_stay t names names door.limit c q.0 log rest answers ([], append-nil names) legal2 keeps h.answered));
        only = λ k one. ⊎_elim (λ e. inr (among_last k answers a (e ∙ ap (λ (k : KeyId). k.0) (sym same)))) (λ o. ⊎_elim (λ e. inl e) (λ i. inr (among_more k answers a i)) (h.only k o))
            (held_then c q j ty n log new k adds one);
        asked_for = λ k one. ⊎_elim (λ e. subst (IsAskedFor names asked) (sym e) asks) (λ o. h.asked_for k o) (held_then c q j ty n log new k adds one);
        whole = whole_hold c q j ty n log new adds;
      }

-- the same call, as another one that is the same
pub calling_as : (g h : Given) (names asked : List Name) (log : List Entry) (held : List KeyId) (answers : List Answer) → g ≡ h
    → IsCalling g.t g.door g.q.0 names asked log g.key g.own held answers → IsCalling h.t h.door h.q.0 names asked log h.key h.own held answers
calling_as g h names asked log held answers same i = subst (λ (x : Given). IsCalling x.t x.door x.q.0 names asked log x.key x.own held answers) same i
