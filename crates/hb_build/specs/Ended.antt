-- A body that ended: its definition is the next node.
use Rattle.std.specs.Prelude.{◌≡◌, ℕ, ◌-◌, ◌≤◌, List, ◌∷◌, length, take}
use Rattle.hb_tree.specs.declared.limits.TheConstants.{NODES_IN_BODY_MAX, CALLS_IN_BODY_MAX, VARIABLES_MAX}
use Rattle.hb_tree.specs.{Tree.Tree, Tree.IsBlock, Counts.nodes_in, Counts.calls_in, Counts.variables_in}
use Rattle.hb_draft.specs.Unfinished.{AreParams, in_hand}
use Rattle.hb_build.specs.declared.builder.Builder.{Builder}
use Rattle.hb_build.specs.{Acts.Answer, Acts.Lost, Acts.define, Sound.IsSound, Sound.pile_of, Sound.work_of}

-- the builder without the last one in hand
abbrev pub without_last : Builder → Builder
without_last b = record b { draft = record b.draft { nodes = take (length b.draft.nodes - 1) b.draft.nodes } }

-- the answer of the definition with these parameters and this block, which lies apart from the pile
abbrev pub definition : List ℕ → Tree → Builder → Answer
definition params block b = define params block (pile_of (without_last b)) (work_of (without_last b))

-- The last one in hand is the block of a body with these parameters, which keeps the limits of a body. All else is
-- sound without it, and the method to be defined lies on top.
pub record IsEnded (params : List ℕ) (b : Builder) : Type 0 where
  pub block : Tree
  pub others : List Tree
  pub hand_is : in_hand b.draft ≡ block ∷ others
  pub kind : IsBlock block
  pub few_nodes : nodes_in block ≤ NODES_IN_BODY_MAX
  pub few_calls : calls_in block ≤ CALLS_IN_BODY_MAX
  pub few_variables : variables_in params block ≤ VARIABLES_MAX
  pub are_params : AreParams b.draft.table params
  pub sound : IsSound (without_last b)
  pub fits : definition params block b ≡ Lost → ⊥
