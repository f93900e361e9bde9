-- One caller's acts, and the frames of its calls.
use Rattle.std.specs.Prelude.{◌≡◌, ℕ, ◌==◌, ◌&&◌, Bool, false, cond, List, [], ◌∷◌}
use Rattle.hb_tables.specs.declared.{entry.Entry.Entry, entry.Act.Act, entry.Act.TheVariants.Hold, entry.Act.TheVariants.Free, entry.Act.TheVariants.Retype}
use Rattle.hb_tables.specs.declared.{entry.Act.TheVariants.Busy, entry.Act.TheVariants.WornType, entry.Act.TheVariants.Define, entry.Act.TheVariants.WornDef}
use Rattle.hb_tables.specs.declared.{entry.Act.TheVariants.Call}

-- the acts of one caller
abbrev pub acts : ℕ → List Entry → List Act
acts c [] = []
acts c (e ∷ es) = cond (c == e.caller.0) (e.act ∷ acts c es) (acts c es)

-- the call q gives a key back
abbrev pub frees : ℕ → Act → Bool
frees q (Free key p) = q == p.0
frees q (Hold key p ty changes) = false
frees q (Retype key site) = false
frees q (Busy key pins) = false
frees q (WornType key) = false
frees q (Define key site) = false
frees q (WornDef key) = false
frees q (Call key p site args verdict) = false

-- The frame of the call q is live behind these acts of its caller, which follow its Call.
abbrev pub StaysLive : ℕ → List Act → Type 0
StaysLive q [] = Unit {0}
StaysLive q (a ∷ l) = (frees q a ≡ false) × StaysLive q l

-- the call q gives this key back
abbrev pub frees_key : ℕ → ℕ → Act → Bool
frees_key q k (Free key p) = (q == p.0) && (k == key.0)
frees_key q k (Hold key p ty changes) = false
frees_key q k (Retype key site) = false
frees_key q k (Busy key pins) = false
frees_key q k (WornType key) = false
frees_key q k (Define key site) = false
frees_key q k (WornDef key) = false
frees_key q k (Call key p site args verdict) = false

-- the call q keeps its hold of the key over these acts
abbrev pub KeepsHold : ℕ → ℕ → List Act → Type 0
KeepsHold q k [] = Unit {0}
KeepsHold q k (a ∷ l) = (frees_key q k a ≡ false) × KeepsHold q k l
