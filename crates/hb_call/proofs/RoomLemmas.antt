-- Room for the calls of a caller at each key.
use Rattle.std.proofs.Common.{◌≡◌, ℕ, ◌+◌, ◌≤◌, List, [], ◌∷◌, ◌++◌, length, sym, refl, ap, ◌∙◌, subst, arith, eq-eqb}
use Rattle.std.proofs.lemmas.List.{append-nil}
use Rattle.hb_types.specs.declared.{ids.KeyId.KeyId, ids.CallNo.CallNo, ids.TypeSite.TypeSite}
use Rattle.std.specs.Prelude.{Option}
use Rattle.hb_tables.specs.declared.{entry.TheConstants.HOLDS_MAX, entry.Entry.Entry, entry.Act.Act, entry.Act.TheVariants.Hold, entry.Act.TheVariants.Free}
use Rattle.hb_tables.specs.declared.{entry.Act.TheVariants.Call}
use Rattle.hb_tables.specs.History.{Spot, spot, times, of_caller, entry, journal, key_of, done, Adds}
use Rattle.hb_tables.proofs.HistoryLemmas.{journal_append, own_calls, own_times, spread}
use Rattle.hb_tables.proofs.CallLemmas.{times_own, own_without, length_without}
use Rattle.hb_tables.proofs.AddingLemmas.{none_without}
use Rattle.hb_call.specs.Held.{HasRoom}

abbrev pub Room : ℕ → ℕ → Spot → Type 0
Room c q s = length (of_caller c s.calls) + 1 ≤ HOLDS_MAX + times (c, q) s.calls

pub room_learns : (c q : ℕ) (old between : List Entry) → journal c between ≡ [] → HasRoom old c q → HasRoom (old ++ between) c q
room_learns c q old between none room k =
    let same : journal c (old ++ between) ≡ journal c old = journal_append c old between ∙ ap (λ w. journal c old ++ w) none ∙ append-nil (journal c old) in
    let a = ap length (own_calls k c (old ++ between) old same) in let b = own_times k c q (old ++ between) old same in let r = room k in omega (arith, a, b, r)

pub room_more : (c q : ℕ) (log : List Entry) (a : Act) → ((s : Spot) → Room c q s → Room c q (done c s a)) → HasRoom log c q → HasRoom (log ++ entry c a ∷ []) c q
room_more c q log a one room k = spread k log (entry c a) (Room c q) (λ ne. room k) (λ is. one (spot (key_of a) log) (room (key_of a)))

pub room_hold : (c : ℕ) (q : CallNo) (key : KeyId) (ty : Option TypeSite) (n : ℕ) (old new : List Entry) → Adds c old new (Hold key q ty n) → HasRoom old c q.0 → HasRoom new c q.0
room_hold c q key ty n old new adds room =
    subst (λ w. HasRoom w c q.0) (sym adds.1) (room_more c q.0 (old ++ adds.0) (Hold key q ty n)
    (λ s r. let a = eq-eqb c c refl in let b = eq-eqb q.0 q.0 refl in rw (a, b) (omega (arith, r)))
    (room_learns c q.0 old adds.0 adds.2 room))

pub room_free : (c : ℕ) (q : CallNo) (key : KeyId) (old new : List Entry) → Adds c old new (Free key q) → HasRoom old c q.0 → HasRoom new c q.0
room_free c q key old new adds room =
    subst (λ w. HasRoom w c q.0) (sym adds.1) (room_more c q.0 (old ++ adds.0) (Free key q)
    (λ s r. let a = ap length (own_without c q.0 s.calls) in let b = length_without (c, q.0) (of_caller c s.calls) in let d = times_own c q.0 s.calls in let z = none_without (c, q.0) s.calls in
    omega (arith, r, a, b, d, z))
    (room_learns c q.0 old adds.0 adds.2 room))
