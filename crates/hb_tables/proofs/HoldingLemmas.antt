-- A call holds a key exactly where it began to and has not given it back since.
use Rattle.std.proofs.Common.{◌≡◌, ◌⊎◌, inl, inr, ⊎_elim, ◌≤◌, ℕ, eqb, Bool, true, false, cond, List, [], ◌∷◌, ◌++◌, Option, sym, refl, ap, ◌∙◌, subst, arith}
use Rattle.std.proofs.lemmas.Bool.{eqb-true}
use Rattle.hb_types.specs.declared.{ids.KeyId.KeyId, ids.CallNo.CallNo, ids.TypeSite.TypeSite}
use Rattle.hb_tables.proofs.{FrameLemmas.acts_cut, FrameLemmas.held_since, HistoryLemmas.sound}
use Rattle.hb_tables.specs.declared.{entry.Entry.Entry, entry.Act.Act, entry.Act.TheVariants.Hold, entry.Act.TheVariants.Free, entry.Act.TheVariants.Retype}
use Rattle.hb_tables.specs.declared.{entry.Act.TheVariants.Busy, entry.Act.TheVariants.WornType, entry.Act.TheVariants.Define, entry.Act.TheVariants.WornDef}
use Rattle.hb_tables.specs.declared.{entry.Act.TheVariants.Call}
use Rattle.hb_tables.specs.History.{spot, times, entry, IsLegal}
use Rattle.hb_tables.specs.{Frames.acts, Frames.frees_key, Frames.KeepsHold, Holdings.HoldsSince}
use Rattle.hb_tables.specs.Standing.{Stand, all_but, stand_done, standing_from, standing, count_of}
use Rattle.hb_tables.proofs.StandingLemmas.{count_last, count_but, held_stands}

-- a Hold of the key stands among these acts, with no Free behind it
record Began (q k : ℕ) (l : List Act) : Type 0 where
  front : List Act
  p : CallNo
  key : KeyId
  ty : Option TypeSite
  changes : ℕ
  back : List Act
  is : l ≡ front ++ Hold key p ty changes ∷ back
  call : q ≡ p.0
  same : k ≡ key.0
  keeps : KeepsHold q k back

-- one act keeps what stood, or is the Hold
Kept : ℕ → ℕ → List Stand → Act → Type 0
Kept q k hs a = (1 ≤ count_of k hs) × (frees_key q k a ≡ false)

Begins : ℕ → ℕ → Act → Type 0
Begins q k (Hold key p ty changes) = (q ≡ p.0) × (k ≡ key.0)
Begins q k _ = ⊥

one_act : (q k : ℕ) (hs : List Stand) (a : Act) → 1 ≤ count_of k (stand_done q hs a) → Kept q k hs a ⊎ Begins q k a
unfolding Kept Begins
one_act q k hs (Hold key p ty changes) h = go (eqb q p.0) refl (eqb k key.0) refl h
  where
    none : (b : Bool) → b ≡ false → (let z : ℕ = cond b 1 0 in z) ≡ 0
    none false e = refl
    none true e = absurd (cc e)

    go : (a : Bool) → eqb q p.0 ≡ a → (b : Bool) → eqb k key.0 ≡ b → 1 ≤ count_of k (cond a (hs ++ record { key = key.0; ty = ty; changes = changes } ∷ []) hs)
        → Kept q k hs (Hold key p ty changes) ⊎ Begins q k (Hold key p ty changes)
    go true ea true eb h = inr (eqb-true q p.0 ea, eqb-true k key.0 eb)
    go true ea false eb h = let n = count_last k hs (record { key = key.0; ty = ty; changes = changes }) in let z = none (eqb k key.0) eb in inl (omega (arith, n, z, h), refl)
    go false ea b eb h = inl (h, refl)
one_act q k hs (Free key p) h = go (eqb q p.0) refl (eqb k key.0) refl h
  where
    go : (a : Bool) → eqb q p.0 ≡ a → (b : Bool) → eqb k key.0 ≡ b → 1 ≤ count_of k (cond a (all_but key.0 hs) hs) → Kept q k hs (Free key p) ⊎ Begins q k (Free key p)
    go true ea true eb h = let n = count_but k key.0 hs ∙ ap (λ b. cond b 0 (count_of k hs)) eb in absurd (omega (arith, n, h))
    go true ea false eb h = let n = count_but k key.0 hs ∙ ap (λ b. cond b 0 (count_of k hs)) eb in inl (omega (arith, n, h), rw (ea, eb) refl)
    go false ea b eb h = inl (h, rw ea refl)
one_act _ _ _ _ h = inl (h, refl)

began : (q k : ℕ) (hs : List Stand) (l : List Act) → 1 ≤ count_of k (standing_from q hs l) → ((1 ≤ count_of k hs) × KeepsHold q k l) ⊎ Began q k l
unfolding Kept Begins
began q k hs [] h = inl (h, tt)
began q k hs (a ∷ l) h = ⊎_elim (λ r. first a r (one_act q k hs a r.0)) (λ r. inr (later r)) (began q k (stand_done q hs a) l h)
  where
    later : Began q k l → Began q k (a ∷ l)
    later r = record { front = a ∷ r.front; p = r.p; key = r.key; ty = r.ty; changes = r.changes; back = r.back; is = ap (λ w. a ∷ w) r.is; call = r.call; same = r.same; keeps = r.keeps }

    here : (a : Act) → Begins q k a → KeepsHold q k l → Began q k (a ∷ l)
    here (Hold key p ty changes) b keeps = record { front = []; p = p; key = key; ty = ty; changes = changes; back = l; is = refl; call = b.0; same = b.1; keeps = keeps }
    here _ b _ = absurd b

    first : (a : Act) → (1 ≤ count_of k (stand_done q hs a)) × KeepsHold q k l → Kept q k hs a ⊎ Begins q k a → ((1 ≤ count_of k hs) × KeepsHold q k (a ∷ l)) ⊎ Began q k (a ∷ l)
    first a r (inl x) = inl (x.0, (x.1, r.1))
    first a r (inr b) = inr (here a b r.1)

-- a call that holds a key began to, and has not given it back since
pub holds_since : (c : ℕ) (q : CallNo) (key : KeyId) (log : List Entry) → times (c, q.0) (spot key.0 log).calls ≡ 1 → HoldsSince c q key log
holds_since c q key log h = ⊎_elim (λ r. absurd (let l = r.0 in omega (arith, l))) found (began q.0 key.0 [] (acts c log) (omega (arith, h, e)))
  where
    e : times (c, q.0) (spot key.0 log).calls ≡ count_of key.0 (standing q.0 (acts c log))
    e = held_stands c q.0 key.0 log

    found : Began q.0 key.0 (acts c log) → HoldsSince c q key log
    found b =
        let at = acts_cut c log b.front (Hold b.key b.p b.ty b.changes) b.back b.is in
        let call : b.p ≡ q = λ i. record { 0 = sym b.call i } in let same : b.key ≡ key = λ i. record { 0 = sym b.same i } in
        record {
          before = at.before;
          ty = b.ty;
          changes = b.changes;
          after = at.after;
          is = at.is ∙ ap (λ x. at.before ++ entry c (Hold b.key x b.ty b.changes) ∷ at.after) call ∙ ap (λ x. at.before ++ entry c (Hold x q b.ty b.changes) ∷ at.after) same;
          keeps = subst (KeepsHold q.0 key.0) (sym at.last) b.keeps;
        }

-- and in a legal list it holds the key then
pub since_holds : (limit c : ℕ) (q : CallNo) (key : KeyId) (log : List Entry) → IsLegal limit log → HoldsSince c q key log → times (c, q.0) (spot key.0 log).calls ≡ 1
since_holds limit c q key log legal h =
    let once = (sound limit log legal key.0).once (c, q.0) in
    let k = held_since limit c h.before h.after q key h.ty h.changes (subst (IsLegal limit) h.is legal) h.keeps in
    let some : 1 ≤ times (c, q.0) (spot key.0 log).calls = subst (λ l. 1 ≤ times (c, q.0) (spot key.0 l).calls) (sym h.is) k.2 in
    omega (arith, once, some)
