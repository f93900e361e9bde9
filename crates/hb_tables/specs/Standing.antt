-- The Holds of a call that stand, read from its caller's acts alone.
use Rattle.std.specs.Prelude.{ℕ, ◌+◌, ◌==◌, cond, Option, List, [], ◌∷◌, ◌++◌}
use Rattle.hb_types.specs.declared.ids.TypeSite.{TypeSite}
use Rattle.hb_tables.specs.declared.{entry.Act.Act, entry.Act.TheVariants.Hold, entry.Act.TheVariants.Free, entry.Act.TheVariants.Retype, entry.Act.TheVariants.Busy}
use Rattle.hb_tables.specs.declared.{entry.Act.TheVariants.WornType, entry.Act.TheVariants.Define, entry.Act.TheVariants.WornDef, entry.Act.TheVariants.Call}

-- a Hold that stands: its key, and the site and the count that it found
pub record Stand : Type 0 where
  pub key : ℕ
  pub ty : Option TypeSite
  pub changes : ℕ

-- the others
abbrev pub all_but : ℕ → List Stand → List Stand
all_but k [] = []
all_but k (h ∷ hs) = cond (k == h.key) (all_but k hs) (h ∷ all_but k hs)

abbrev pub stand_done : ℕ → List Stand → Act → List Stand
stand_done q hs (Hold key p ty changes) = cond (q == p.0) (hs ++ record { key = key.0; ty = ty; changes = changes } ∷ []) hs
stand_done q hs (Free key p) = cond (q == p.0) (all_but key.0 hs) hs
stand_done q hs (Retype key site) = hs
stand_done q hs (Busy key pins) = hs
stand_done q hs (WornType key) = hs
stand_done q hs (Define key site) = hs
stand_done q hs (WornDef key) = hs
stand_done q hs (Call key p site args verdict) = hs

abbrev pub standing_from : ℕ → List Stand → List Act → List Stand
standing_from q hs [] = hs
standing_from q hs (a ∷ l) = standing_from q (stand_done q hs a) l

-- the Holds of the call q that stand after these acts of its caller, in their order
abbrev pub standing : ℕ → List Act → List Stand
standing q l = standing_from q [] l

-- how many of these are of a key
abbrev pub count_of : ℕ → List Stand → ℕ
count_of k [] = 0
count_of k (h ∷ hs) = cond (k == h.key) 1 0 + count_of k hs
