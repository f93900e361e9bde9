-- A call holds a key where it began to and has not given it back since.
use Rattle.std.specs.Prelude.{◌≡◌, ℕ, Option, List, ◌∷◌, ◌++◌}
use Rattle.hb_types.specs.declared.{ids.KeyId.KeyId, ids.CallNo.CallNo, ids.TypeSite.TypeSite}
use Rattle.hb_tables.specs.{History.entry, Frames.acts, Frames.KeepsHold}
use Rattle.hb_tables.specs.declared.{entry.Entry.Entry, entry.Act.TheVariants.Hold}

-- a Hold of the key by the call, behind which its caller has no Free of it
pub record HoldsSince (c : ℕ) (q : CallNo) (key : KeyId) (log : List Entry) : Type 0 where
  pub before : List Entry
  pub ty : Option TypeSite
  pub changes : ℕ
  pub after : List Entry
  pub is : log ≡ before ++ entry c (Hold key q ty changes) ∷ after
  pub keeps : KeepsHold q.0 key.0 (acts c after)
