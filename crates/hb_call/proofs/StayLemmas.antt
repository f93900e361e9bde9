-- What a call holds stays while it gives nothing back.
use Rattle.std.proofs.Common.{◌≡◌, ℕ, ◌≤◌, List, [], ◌∷◌, ◌++◌, sym, refl, ap, ◌∙◌, subst, arith, eq-eqb}
use Rattle.std.specs.Prelude.{Option}
use mathlib.Core.List.{IsPrefix}
use Rattle.hb_types.specs.declared.{ids.KeyId.KeyId, ids.CallNo.CallNo, ids.TypeSite.TypeSite}
use Rattle.hb_tree.specs.Table.{Table}
use Rattle.hb_names.specs.Names.{Name}
use Rattle.hb_names.proofs.NameLemmas.{place-longer}
use Rattle.hb_tables.specs.declared.{desk.Held.Held, entry.Entry.Entry, entry.Act.Act, entry.Act.TheVariants.Hold}
use Rattle.hb_tables.specs.History.{spot, times, journal, entry, IsLegal, Adds}
use Rattle.hb_tables.specs.{Names.name_of, Frames.acts, Frames.KeepsHold, Standing.count_of}
use Rattle.hb_tables.proofs.{HistoryLemmas.sound, FrontLemmas.acts_none, StandingLemmas.held_stands}
use Rattle.hb_tables.proofs.FrameLemmas.{hold_stays, hold_keeps, held_since, acts_append}
use Rattle.hb_call.specs.declared.answers.Answer.{Answer}
use Rattle.hb_call.specs.{Held.stands, Calling.HasType, Calling.AreTrue}

-- in a legal list no key is held twice by a call
pub held_once : (limit c q : ℕ) (log : List Entry) → IsLegal limit log → (k : ℕ) → count_of k (stands c q log) ≤ 1
held_once limit c q log legal k = let a = held_stands c q k log in let b = (sound limit log legal k).once (c, q) in omega (arith, a, b)

pub type_stays : (limit c q : ℕ) (old rest : List Entry) → IsLegal limit (old ++ rest) → (k : ℕ) → KeepsHold q k (acts c rest) → (found : Held) → HasType old (c, q) k found → HasType (old ++ rest) (c, q) k found
type_stays limit c q old rest legal k keeps found h =
    let one : times (c, q) (spot k old).calls ≡ 1 = h.0 in
    let held : 1 ≤ times (c, q) (spot k old).calls = omega (arith, one) in
    let once = (sound limit (old ++ rest) legal k).once (c, q) in
    let some = hold_stays k c q old rest keeps held in
    let same = hold_keeps limit k c q old rest legal keeps held in
    (omega (arith, once, some), h.1 ∙ sym same.0, h.2 ∙ sym same.1)

pub answers_stay : (t : Table) (names known : List Name) (limit c q : ℕ) (old rest : List Entry) (answers : List Answer) → IsPrefix names known → IsLegal limit (old ++ rest)
    → ((k : ℕ) → KeepsHold q k (acts c rest)) → AreTrue t names old (c, q) answers → AreTrue t known (old ++ rest) (c, q) answers
answers_stay t names known limit c q old rest [] longer legal keeps h = tt
answers_stay t names known limit c q old rest (a ∷ answers) longer legal keeps h = (
  place-longer names known (name_of t (a.class.0, a.name.0)) a.key.0 longer h.0,
  type_stays limit c q old rest legal a.key.0
      (keeps a.key.0) a.held h.1,
  answers_stay t names known limit c q old rest answers longer legal keeps h.2,
)

pub keeps_none : (c q k : ℕ) (between : List Entry) → journal c between ≡ [] → KeepsHold q k (acts c between)
keeps_none c q k between none = subst (KeepsHold q k) (sym (acts_none c between none)) tt

-- a caller's acts where one more stands last
pub acts_last : (c : ℕ) (between : List Entry) (a : Act) → journal c between ≡ [] → acts c (between ++ entry c a ∷ []) ≡ a ∷ []
acts_last c between a none =
    let e = eq-eqb c c refl in let one : acts c (entry c a ∷ []) ≡ a ∷ [] = rw e refl in
    acts_append c between (entry c a ∷ []) ∙ ap (λ w. w ++ acts c (entry c a ∷ [])) (acts_none c between none) ∙ one

-- lists that begin alike go on alike
cancel : (xs ys zs : List Act) → xs ++ ys ≡ xs ++ zs → ys ≡ zs
cancel [] ys zs h = h
cancel (x ∷ xs) ys zs h = cancel xs ys zs (cc)

pub acts_rest : (c : ℕ) (old rest new : List Entry) (more : List Act) → old ++ rest ≡ new → acts c new ≡ acts c old ++ more → acts c rest ≡ more
acts_rest c old rest new more is e = cancel (acts c old) (acts c rest) more (sym (acts_append c old rest) ∙ ap (acts c) is ∙ e)

-- what a Hold found is the type of its key
pub hold_finds : (limit c : ℕ) (q : CallNo) (key : KeyId) (ty : Option TypeSite) (n : ℕ) (old new : List Entry) → Adds c old new (Hold key q ty n) → IsLegal limit new
    → (ty ≡ (spot key.0 new).ty) × (n ≡ (spot key.0 new).changes)
hold_finds limit c q key ty n old new adds legal =
    let h = held_since limit c (old ++ adds.0) [] q key ty n (subst (IsLegal limit) adds.1 legal) tt in
    (sym (ap (λ l. (spot key.0 l).ty) adds.1 ∙ h.0), sym (ap (λ l. (spot key.0 l).changes) adds.1 ∙ h.1))
