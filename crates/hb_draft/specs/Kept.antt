-- What a program under construction keeps from step to step.
use Rattle.std.specs.Prelude.{◌≡◌, ℕ, ◌+◌, ◌-◌, ◌<◌, ◌≤◌, max, List, [], ◌∷◌, ◌++◌, length, map, take, drop, nat_eq}
use Rattle.std.specs.List.{AllByRecursion, IsDistinct}
use Rattle.hb_types.specs.declared.ids.NodeId.{NodeId}
use Rattle.hb_tree.specs.Table.{Table}
use Rattle.hb_tree.specs.Nodes.{numbers_of}
use Rattle.hb_tree.specs.Counts.{height}
use Rattle.hb_tree.specs.TreeAt.{tree_at}
use Rattle.hb_tree.specs.Program.{IsProgram, all_parts}
use Rattle.hb_tree.specs.Roots.{roots}
use Rattle.hb_draft.specs.Laid.{IsLaid}

-- The lists are a program's at each step, and no node is a part, a root or in hand at two places.
-- An item was taken from the hand, a text and a body came with a node; so their numbers fit
pub record IsDraft (t : Table) (hand : List NodeId) : Type 0 where
  pub program : IsProgram t
  pub within : AllByRecursion (λ j. j < length t.nodes) (numbers_of hand)
  pub apart : IsDistinct nat_eq ((all_parts t ++ roots t) ++ numbers_of hand)
  pub few_items : length t.items + length hand ≤ length t.nodes
  pub few_texts : length t.texts ≤ length t.nodes
  pub few_bodies : length t.bodies ≤ length t.nodes
  pub laid : IsLaid t

-- the greatest of these numbers, and 0 where there is none
abbrev pub greatest : List ℕ → ℕ
greatest [] = 0
greatest (n ∷ ns) = max n (greatest ns)

-- the heights of the trees at these nodes
abbrev pub heights_of : Table → List NodeId → List ℕ
heights_of t ids = map (λ i. height (tree_at t i.0)) ids

-- the heights in hand once a tree took the last `count` for its parts
abbrev pub heights_after : ℕ → List ℕ → List ℕ
heights_after count hs = take (length hs - count) hs ++ (1 + greatest (drop (length hs - count) hs)) ∷ []

-- the heights of the trees in hand are kept beside them
pub record IsKept (t : Table) (hand : List NodeId) (heights : List ℕ) : Type 0 where
  pub draft : IsDraft t hand
  pub same : heights ≡ heights_of t hand
