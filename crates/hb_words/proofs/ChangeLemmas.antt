-- A type's count of changes never falls.
use Rattle.std.proofs.Common.{ℕ, ◌≤◌, true, false, cond, List, [], ◌∷◌, ◌++◌, eqb, sym, subst, arith}
use Rattle.hb_tables.specs.declared.{entry.Entry.Entry, entry.Act.Act, entry.Act.TheVariants.Hold}
use Rattle.hb_tables.specs.History.{Spot, spot, spot_from, blank, turn, done, key_of}
use Rattle.hb_tables.proofs.HistoryLemmas.{spot_from_append}

done_changes : (c : ℕ) (s : Spot) (a : Act) → s.changes ≤ (done c s a).changes
done_changes c s (Hold key q ty changes) = omega arith
done_changes c s _ = omega arith

turn_changes : (k : ℕ) (s : Spot) (x : Entry) → s.changes ≤ (turn k s x).changes
turn_changes k s x = elim (eqb k (key_of x.act)) as (λ b. s.changes ≤ (cond b (done x.caller.0 s x.act) s).changes) [ true ↦ done_changes x.caller.0 s x.act | false ↦ omega arith ]

changes_from : (k : ℕ) (s : Spot) (xs : List Entry) → s.changes ≤ (spot_from k s xs).changes
changes_from k s [] = omega arith
changes_from k s (x ∷ xs) = let a = turn_changes k s x in let b = changes_from k (turn k s x) xs in omega (arith, a, b)

pub changes_grow : (k : ℕ) (xs rest : List Entry) → (spot k xs).changes ≤ (spot k (xs ++ rest)).changes
changes_grow k xs rest = subst (λ (w : Spot). (spot k xs).changes ≤ w.changes) (sym (spot_from_append k blank xs rest)) (changes_from k (spot k xs) rest)
