-- A call that gives back all but its own key.
use Rattle.std.proofs.Common.{◌≡◌, ℕ, ◌+◌, ◌-◌, ◌<◌, ◌≤◌, inl, inr, Bool, true, false, cond, eqb, List, [], ◌∷◌, ◌++◌, length, map, take, drop, sym, refl, ap, ◌∙◌, subst, arith, eq-eqb, nat_eq}
use Rattle.std.proofs.lemmas.Bool.{eqb-true}
use Rattle.std.specs.List.{AllByRecursion}
use mathlib.Core.List.{IsPrefix}
use Rattle.hb_types.specs.declared.ids.KeyId.{KeyId}
use Rattle.hb_types.specs.declared.ids.CallNo.{CallNo}
use Rattle.hb_tree.specs.Table.{Table}
use Rattle.hb_names.specs.Names.{Name}
use Rattle.hb_names.specs.declared.names.TheConstants.{NAMES_MAX}
use Rattle.hb_tables.specs.declared.desk.Held.{Held}
use Rattle.hb_tables.specs.declared.entry.Entry.{Entry}
use Rattle.hb_tables.specs.Answers.{Fixed}
use Rattle.hb_tables.specs.History.{IsLegal}
use Rattle.hb_tables.specs.Frames.{acts, KeepsHold}
use Rattle.hb_tables.specs.Standing.{Stand, standing, standing_from, count_of}
use Rattle.hb_tables.proofs.StandingLemmas.{standing_append, held_stands}
use Rattle.hb_call.specs.declared.answers.Answer.{Answer}
use Rattle.hb_call.specs.Held.{HasRoom, MayFree, frees, stands}
use Rattle.hb_call.specs.Calling.{Given, HasType, IsAskedFor, IsCalling, MayRetreat, StaysUnfit}
use Rattle.hb_call.specs.Growth.{EachNew}
use Rattle.hb_call.specs.Rules.{FitsRules}
use Rattle.hb_call.proofs.RunsLemmas.{retreat_fits}
use Rattle.hb_call.proofs.HeldLemmas.{may_free, freed_stands}
use Rattle.hb_call.proofs.StayLemmas.{held_once, type_stays, acts_rest}
use Rattle.hb_call.proofs.BegunLemmas.{AreOthers, keeps_others}

-- the own key is held first
pub record First (key : KeyId) (others : List KeyId) (hs : List Stand) : Type 0 where
  pub h : Stand
  pub rest : List Stand
  pub is : hs ≡ h ∷ rest
  pub key_is : key.0 ≡ h.key
  pub keys : map (λ (h : Stand). h.key) rest ≡ map (λ (k : KeyId). k.0) others

pub first_of : (key : KeyId) (others : List KeyId) (hs : List Stand) → map (λ (h : Stand). h.key) hs ≡ map (λ (k : KeyId). k.0) (key ∷ others) → First key others hs
first_of key others [] e = absurd (cc)
first_of key others (h ∷ rest) e = record { h = h; rest = rest; is = refl; key_is = cc; keys = cc }

none_other : (k : ℕ) (hs : List Stand) (others : List KeyId) → map (λ (h : Stand). h.key) hs ≡ map (λ (k : KeyId). k.0) others → count_of k hs ≡ 0 → AreOthers k others
none_other k hs [] e none = tt
none_other k [] (key ∷ others) e none = absurd (cc)
none_other k (h ∷ hs) (key ∷ others) e none = go (eqb k h.key) refl (none_other k hs others (cc e))
  where
    same : key.0 ≡ h.key
    same = cc e

    go : (b : Bool) → eqb k h.key ≡ b → (count_of k hs ≡ 0 → AreOthers k others) → (nat_eq key.0 k ≡ false) × AreOthers k others
    go true t rest = absurd (let n : cond true 1 0 + count_of k hs ≡ 0 = ap (λ b. cond b 1 0 + count_of k hs) (sym t) ∙ none in omega (arith, n))
    go false t rest = (other key.0 h.key same t, rest (let n = ap (λ b. cond b 1 0 + count_of k hs) (sym t) ∙ none in omega (arith, n)))
      where
        other : (a b : ℕ) → a ≡ b → eqb k b ≡ false → nat_eq a k ≡ false
        other a b s f = by (nat_eq a k) refl
          where
            by : (x : Bool) → nat_eq a k ≡ x → nat_eq a k ≡ false
            by false x = x
            by true x = absurd (let u = eq-eqb k b (sym (eqb-true a k x) ∙ s) in cc)

module _ (t : Table) (door : Fixed) (q : CallNo) (names asked : List Name) (log : List Entry) (key : KeyId) (own : Held) (held : List KeyId) (answers : List Answer) (h : IsCalling t door q.0 names asked log key own held answers) where
  begins : First key h.first.0 (stands door.caller q.0 log)
  begins = first_of key h.first.0 (stands door.caller q.0 log) (h.holds.keys ∙ ap (map (λ (k : KeyId). k.0)) h.first.1)

  once : (k : ℕ) → count_of k (begins.h ∷ begins.rest) ≤ 1
  once k = subst (λ hs. count_of k hs ≤ 1) begins.is (h.holds.once k)

  pub are_others : AreOthers key.0 h.first.0
  are_others = none_other key.0 begins.rest h.first.0 begins.keys (let o = once key.0 in let e = ap (λ b. cond b 1 0 + count_of key.0 begins.rest) (eq-eqb key.0 begins.h.key begins.key_is) in omega (arith, o, e))

  low : AllByRecursion (λ (k : KeyId). k.0 < NAMES_MAX) h.first.0
  low = (subst (AllByRecursion (λ (k : KeyId). k.0 < NAMES_MAX)) h.first.1 h.holds.below).1

  pub others_may : MayFree h.first.0 (stands door.caller q.0 log)
  others_may = subst (MayFree h.first.0) (sym begins.is) (may_free (begins.h ∷ []) begins.rest h.first.0 begins.keys once low)

  after : (new : List Entry) → acts door.caller new ≡ acts door.caller log ++ frees q h.first.0 → stands door.caller q.0 new ≡ begins.h ∷ []
  after new e =
      ap (standing q.0) e ∙ standing_append q.0 [] (acts door.caller log) (frees q h.first.0) ∙ ap (λ hs. standing_from q.0 hs (frees q h.first.0)) begins.is
      ∙ freed_stands q (begins.h ∷ []) begins.rest h.first.0 begins.keys once

  pub retreated : (new : List Entry) → IsPrefix log new → acts door.caller new ≡ acts door.caller log ++ frees q h.first.0 → IsLegal door.limit new → HasRoom new door.caller q.0 → IsCalling t door q.0 names asked new key own (key ∷ []) []
  retreated new kept e legal room =
      let c = door.caller in
      let keeps : KeepsHold q.0 key.0 (acts c kept.0) = subst (KeepsHold q.0 key.0) (sym (acts_rest c log kept.0 new (frees q h.first.0) kept.1 e)) (keeps_others q key.0 h.first.0 are_others) in
      record {
        legal = legal;
        room = room;
        holds = record { keys = ap (map (λ (h : Stand). h.key)) (after new e) ∙ ap (λ (k : ℕ). k ∷ []) (sym begins.key_is); once = held_once door.limit c q.0 new legal; below = (low_own, tt) };
        first = ([], refl);
        own_is = subst (λ l. HasType l (c, q.0) key.0 own) kept.1 (type_stays door.limit c q.0 log kept.0 (subst (IsLegal door.limit) (sym kept.1) legal) key.0 keeps own h.own_is);
        answered = tt;
        only = λ k one. inl (alone k (sym (held_stands c q.0 k new ∙ ap (count_of k) (after new e)) ∙ one));
        asked_for = λ k one. subst (IsAskedFor names asked) (sym (alone k (sym (held_stands c q.0 k new ∙ ap (count_of k) (after new e)) ∙ one))) (h.asked_for key.0 h.own_is.0);
        whole = λ gave. (begins.h, after new e);
      }
    where
      low_own : key.0 < NAMES_MAX
      low_own = (subst (AllByRecursion (λ (k : KeyId). k.0 < NAMES_MAX)) h.first.1 h.holds.below).0

      alone : (k : ℕ) → count_of k (begins.h ∷ []) ≡ 1 → k ≡ key.0
      alone k one = by (eqb k begins.h.key) refl
        where
          by : (x : Bool) → eqb k begins.h.key ≡ x → k ≡ key.0
          by true x = eqb-true k begins.h.key x ∙ sym begins.key_is
          by false x = absurd (let e = ap (λ b. cond b 1 0 + count_of k []) (sym x) ∙ one in omega (arith, e))

  pub retreat_rules : (new : List Entry) → MayRetreat door.caller q key log → acts door.caller new ≡ acts door.caller log ++ frees q h.first.0 → EachNew (FitsRules t names door.caller) door.caller log new
  retreat_rules new may is = retreat_fits t names door.caller q key h.first.0 log new begins.h begins.rest may begins.is begins.keys once are_others is

-- a call that was answered nothing holds its own key alone
pub alone : (t : Table) (door : Fixed) (q : CallNo) (names asked : List Name) (log : List Entry) (key : KeyId) (own : Held) (held : List KeyId) → IsCalling t door q.0 names asked log key own held [] → held ≡ key ∷ []
alone t door q names asked log key own held h =
    h.first.1 ∙ ap (λ ks. key ∷ ks) (by h.first.0 (begins t door q names asked log key own held [] h) (are_others t door q names asked log key own held [] h))
  where
    by : (others : List KeyId) → First key others (stands door.caller q.0 log) → AreOthers key.0 others → others ≡ []
    by [] f apart = refl
    by (j ∷ others) f apart = absurd (second j f.rest f.keys apart.0 f.is)
      where
        second : (j : KeyId) (rest : List Stand) → map (λ (h : Stand). h.key) rest ≡ map (λ (k : KeyId). k.0) (j ∷ others) → nat_eq j.0 key.0 ≡ false → stands door.caller q.0 log ≡ f.h ∷ rest → ⊥
        second j [] e apart is = cc e
        second j (s ∷ rest) e apart is =
            let same : j.0 ≡ s.key = cc e in
            let some : 1 ≤ count_of j.0 (stands door.caller q.0 log) = subst (λ hs. 1 ≤ count_of j.0 hs) (sym is) (let e = eq-eqb j.0 s.key same in rw e (omega arith)) in
            let once = h.holds.once j.0 in let n = held_stands door.caller q.0 j.0 log in
            elim (h.only j.0 (omega (arith, some, once, n))) [ inl e ↦ (let t = eq-eqb j.0 key.0 e in cc (t, apart)) | inr none ↦ none ]

-- so it is as it begins
pub early_unfit : (g : Given) (names asked : List Name) (log : List Entry) (held : List KeyId) (compared answers : List Answer) → compared ≡ [] → answers ≡ [] → IsCalling g.t g.door g.q.0 names asked log g.key g.own held (compared ++ answers) → StaysUnfit g log log held
early_unfit g names asked log held compared answers e f h unfit =
    (refl, alone g.t g.door g.q names asked log g.key g.own held (subst (λ (l : List Answer). IsCalling g.t g.door g.q.0 names asked log g.key g.own held l) (ap (λ l. l ++ answers) e ∙ f) h))

take-whole : (l : List KeyId) → take (length l) l ≡ l
take-whole [] = refl
take-whole (x ∷ l) = ap (λ m. x ∷ m) (take-whole l)

-- the keys behind the own one
pub tail_of : (key : KeyId) (others held : List KeyId) → held ≡ key ∷ others → take (length held - 1) (drop 1 held) ≡ others
tail_of key others held e = ap (λ (l : List KeyId). take (length l - 1) (drop 1 l)) e ∙ all_taken others
  where
    all_taken : (l : List KeyId) → take (length (key ∷ l) - 1) (drop 1 (key ∷ l)) ≡ l
    all_taken l = let n : length (key ∷ l) - 1 ≡ length l = omega arith in ap (λ n. take n l) n ∙ take-whole l

pub head_of : (key : KeyId) (others held : List KeyId) → held ≡ key ∷ others → take 1 held ≡ key ∷ []
head_of key others held e = ap (take 1) e
