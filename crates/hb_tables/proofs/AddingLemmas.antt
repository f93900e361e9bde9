-- What a caller's own calls are once its front has grown.
use Rattle.std.proofs.Common.{◌≡◌, ℕ, Bool, true, false, cond, List, [], ◌∷◌, ◌++◌, sym, refl, ap, ◌∙◌, subst, arith, eq-eqb}
use Rattle.std.proofs.lemmas.List.{append-nil}
use Rattle.hb_types.specs.declared.{ids.KeyId.KeyId, ids.CallNo.CallNo, ids.TypeSite.TypeSite}
use Rattle.hb_tables.specs.declared.{entry.Entry.Entry, entry.Act.Act, entry.Act.TheVariants.Hold, entry.Act.TheVariants.Free}
use Rattle.hb_tables.specs.History.{Spot, spot, same_call, times, without, of_caller, done, entry, journal, Adds}
use Rattle.hb_tables.proofs.HistoryLemmas.{journal_append, own_times, own_calls, spot_more, turn_here}

-- a caller's own calls stay as they are while others go on
pub own_stays : (k c q : ℕ) (old between : List Entry) → journal c between ≡ [] → times (c, q) (spot k (old ++ between)).calls ≡ times (c, q) (spot k old).calls
own_stays k c q old between none = own_times k c q (old ++ between) old (journal_append c old between ∙ (ap (λ w. journal c old ++ w) none ∙ append-nil (journal c old)))

same_self : (x : ℕ × ℕ) → same_call x x ≡ true
same_self x = let a = eq-eqb x.0 x.0 refl in let b = eq-eqb x.1 x.1 refl in rw (a, b) refl

-- after its hold a call holds the key once
pub held_after : (c : ℕ) (old new : List Entry) (q : CallNo) (key : KeyId) (ty : Rattle.std.specs.Prelude.Option TypeSite) (n : ℕ) → Adds c old new (Hold key q ty n)
    → times (c, q.0) (spot key.0 old).calls ≡ 0 → times (c, q.0) (spot key.0 new).calls ≡ 1
held_after c old new q key ty n adds none =
    let e : Entry = entry c (Hold key q ty n) in
    let is : spot key.0 new ≡ done c (spot key.0 (old ++ adds.0)) (Hold key q ty n) = ap (spot key.0) adds.1 ∙ (spot_more key.0 (old ++ adds.0) e ∙ turn_here key.0 (spot key.0 (old ++ adds.0)) e refl) in
    let one = same_self (c, q.0) in let before = own_stays key.0 c q.0 old adds.0 adds.2 in
    subst (λ (s : Spot). times (c, q.0) s.calls ≡ 1) (sym is) (rw one (omega (arith, before, none)))

pub none_without : (x : ℕ × ℕ) (ys : List (ℕ × ℕ)) → times x (without x ys) ≡ 0
none_without x [] = refl
none_without x (y ∷ ys) =
    let seen : (b : Bool) → same_call x y ≡ b → times x (cond b (without x ys) (y ∷ without x ys)) ≡ 0 = elim [
      | true ↦ λ _. none_without x ys
      | false ↦ λ ne. (let r = none_without x ys in rw ne (omega (arith, r)))
    ] in seen (same_call x y) refl
