-- How a table grows while a program is read.
use Rattle.std.specs.Prelude.{◌≡◌, ℕ, List, ◌++◌, Some}
use Rattle.hb_tree.specs.{Table.Table, Nodes.node_at, Program.HasParts}
use Rattle.hb_tree.specs.declared.node.Node.{Node}

-- the second list begins with the first one
abbrev pub BeginsWith : {X : Type 0} → List X → List X → Type 0
BeginsWith {X} xs ys = (rest : List X) × (ys ≡ xs ++ rest)

-- each list is kept, and may go on
pub record Grows (old new : Table) : Type 0 where
  pub classes : BeginsWith old.classes new.classes
  pub names : BeginsWith old.names new.names
  pub texts : BeginsWith old.texts new.texts
  pub nodes : BeginsWith old.nodes new.nodes
  pub items : BeginsWith old.items new.items
  pub bodies : BeginsWith old.bodies new.bodies
  pub types : BeginsWith old.types new.types

-- each node's parts come before it, also in a table that is not finished
abbrev pub IsFounded : Table → Type 0
IsFounded t = (id : ℕ) (n : Node) → node_at t id ≡ Some n → HasParts t id n
