-- The blocks from which a program's nodes are reached.
use Rattle.std.specs.Prelude.{ℕ, List, [], ◌∷◌, ◌++◌, map, Option, Some, None, nat_eq}
use Rattle.std.specs.List.{IsDistinct}
use Rattle.hb_types.specs.declared.ids.NodeId.{NodeId}
use Rattle.hb_tree.specs.{Table.Table, Program.all_parts}

abbrev pub setup_root : Option NodeId → List ℕ
setup_root None = []
setup_root (Some block) = block.0 ∷ []

-- the blocks of the setup and of the scripts
abbrev pub roots : Table → List ℕ
roots t = setup_root t.setup ++ map (λ script. script.1.0) t.scripts

-- no node is a part or a root at two places, so none is reached twice from the roots
abbrev pub IsReachedOnce : Table → Type 0
IsReachedOnce t = IsDistinct nat_eq (all_parts t ++ roots t)
