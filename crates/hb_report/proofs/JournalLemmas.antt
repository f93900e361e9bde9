-- How the entries of a caller are taken from a history, one behind the other.
use Rattle.std.proofs.Common.{◌≡◌, ◌≢◌, ◌⊎◌, inl, inr, ℕ, ◌+◌, ◌<◌, List, [], ◌∷◌, ◌++◌, length, drop, get_or, refl, ap, sym, ◌∙◌, append_assoc, cond, Bool, true, false, eqb}
use Rattle.std.proofs.lemmas.List.{drop_more}
use Rattle.std.proofs.lemmas.Bool.Decides.{eqb_tells}
use Rattle.hb_tables.specs.declared.entry.Entry.{Entry}
use Rattle.hb_tables.specs.History.{journal}

-- what comes of an entry to the caller's: the entry where it is the caller's, and else nothing
abbrev pub Comes : (c : ℕ) → Entry → (all now : List Entry) → Type 0
Comes c e all now = ((c ≡ e.caller.0) × (now ≡ all ++ e ∷ [])) ⊎ ((c ≢ e.caller.0) × (now ≡ all))

comes : (c : ℕ) (e : Entry) (all now rest : List Entry) → Comes c e all now → now ++ journal c rest ≡ all ++ journal c (e ∷ rest)
comes c e all now rest came = go (eqb c e.caller.0) (eqb_tells c e.caller.0) came
  where
    go : (own : Bool) → ((own ≡ true) × (c ≡ e.caller.0)) ⊎ ((own ≡ false) × (c ≢ e.caller.0)) → Comes c e all now
        → now ++ journal c rest ≡ all ++ cond own (e ∷ journal c rest) (journal c rest)
    go own (inl same) (inl here) = rw (same.0, here.1) (append_assoc all (e ∷ []) (journal c rest))
    go own (inl same) (inr other) = absurd (other.0 same.1)
    go own (inr apart) (inl here) = absurd (apart.1 here.0)
    go own (inr apart) (inr other) = rw (apart.0, other.1) refl

-- an entry at a place stands before those behind it
pub journal_goes : (c i : ℕ) (d : Entry) (all now es : List Entry) → i < length es → Comes c (get_or es i d) all now
    → now ++ journal c (drop (i + 1) es) ≡ all ++ journal c (drop i es)
journal_goes c i d all now es below came =
    comes c (get_or es i d) all now (drop (i + 1) es) came ∙ ap (λ (l : List Entry). all ++ journal c l) (sym (drop_more es i d below))
