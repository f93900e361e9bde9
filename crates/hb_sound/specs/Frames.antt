-- The frames of a caller's calls in a history.
use Rattle.std.specs.Prelude.{◌≡◌, ℕ, ◌<◌, false, List, [], ◌∷◌, ◌++◌, Option}
use Rattle.hb_types.specs.declared.{ids.ClassId.ClassId, types.Ty.Ty}
use Rattle.hb_tree.specs.Table.{Table}
use Rattle.hb_deriv.specs.Judge.{Key}
use Rattle.hb_names.specs.Names.{Name}
use Rattle.hb_tables.specs.declared.{entry.Act.Act, entry.Entry.Entry}
use Rattle.hb_tables.specs.{History.entry, Names.name_of, Rows.HoldsName}
use Rattle.hb_tables.specs.Frames.{acts, frees, StaysLive}
use Rattle.hb_eval.specs.State.{Bindings, Answer, Lost, Done, Halt}
use Rattle.hb_sound.specs.Sound.{Conforms, IsNamed, Rest}

-- a frame of a caller: the number of its call, its Call, and what stands before and behind this in the history
pub record Frame : Type 0 where
  pub q : ℕ
  pub call : Act
  pub before : List Entry
  pub after : List Entry

-- the frame is live where these acts of its caller are left, and the next call has this number
pub record IsLive (log : List Entry) (c : ℕ) (f : Frame) (next : ℕ) (left : List Act) : Type 0 where
  pub is : log ≡ f.before ++ entry c f.call ∷ f.after
  pub quiet : frees f.q f.call ≡ false
  pub since : List Act
  pub rest : acts c f.after ≡ since ++ left
  pub live : StaysLive f.q since
  pub older : f.q < next

-- All of these frames are, the innermost first. At script level there is none, and the acts are the last ones of the caller.
abbrev pub AreLive : List Entry → ℕ → List Frame → Rest
AreLive log c [] next left = (front : List Act) × (acts c log ≡ front ++ left)
AreLive log c (f ∷ fs) next left = IsLive log c f next left × AreLive log c fs next left

-- the frame's call holds the key of this method
abbrev pub Holds : Table → List Name → ℕ → Frame → Key → Type 0
Holds t names c f k = HoldsName names f.before (c, f.q) (name_of t k)

-- a call's end: a value of the type, where the caller's variables and self are there again; or a stop for a named cause
abbrev pub Ends : Rest → Ty → Bindings → Option ClassId → Answer → Type 0
Ends Inv t vars self Lost = Unit {0}
Ends Inv t vars self (Done v s) = Conforms v t × (s.vars ≡ vars) × (s.self ≡ self) × Inv s.next s.journal
Ends Inv t vars self (Halt e id s) = IsNamed e
