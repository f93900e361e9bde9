-- What the frames of a caller hold, and that its other calls hold nothing.
use Rattle.std.specs.Prelude.{◌≡◌, ℕ, ◌+◌, ◌≤◌, List, [], ◌∷◌, map}
use Rattle.std.specs.List.{AllByRecursion}
use Rattle.hb_tables.specs.declared.entry.Entry.{Entry}
use Rattle.hb_call.specs.declared.frame.Frame.{Frame}
use Rattle.hb_call.specs.Held.{HasCall, Holds, stands}
use Rattle.hb_eval.specs.declared.framed.Framed.{Framed}

-- the frame's call was decided, and holds exactly the frame's keys
pub record IsLive (c : ℕ) (front : List Entry) (f : Frame) : Type 0 where
  pub holds : Holds c f.q.0 f.held.items front
  pub called : HasCall c f.q.0 front

-- the numbers of the frames' calls
abbrev pub numbers : List Frame → List ℕ
numbers frames = map (λ (f : Frame). f.q.0) frames

-- these numbers rise, from the first on to below the next
abbrev pub Rise : (first : ℕ) → List ℕ → (next : ℕ) → Type 0
Rise first [] next = first ≤ next
Rise first (q ∷ qs) next = (first ≤ q) × Rise (q + 1) qs next

-- the number is none of these
abbrev pub IsNone : ℕ → List ℕ → Type 0
IsNone q qs = AllByRecursion (λ p. q ≡ p → ⊥) qs

-- Each frame of the caller is live, the last of the list on top, and its other calls hold nothing. Calls from `next` on are still to come.
pub record Holding (c next : ℕ) (frames : List Frame) (front : List Entry) : Type 0 where
  pub live : AllByRecursion (IsLive c front) frames
  pub rising : Rise 0 (numbers frames) next
  pub none : (q : ℕ) → IsNone q (numbers frames) → stands c q front ≡ []

-- the calls' frames of these
abbrev pub frames_of : List Framed → List Frame
frames_of framed = map (λ (f : Framed). f.frame) framed
