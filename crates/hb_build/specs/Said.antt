-- What a program says, apart from how its nodes are kept.
use Rattle.std.specs.Prelude.{ℕ, List, [], Option}
use Rattle.hb_types.specs.declared.types.MethodTy.{MethodTy}
use Rattle.hb_draft.specs.Made.{Given, Made, made_of}
use Rattle.hb_tree.specs.{Table.Table, Tree.Tree}

-- Classes, names and texts, the places of the nodes in their order, what each definition gives, the type and the node
-- of each declaration, the block of the setup, and the name and block of each script.
pub record Said : Type 0 where
  pub classes : List (List ℕ)
  pub names : List (List ℕ)
  pub texts : List (List ℕ)
  pub places : List (ℕ × ℕ)
  pub bodies : List Given
  pub types : List (MethodTy × ℕ)
  pub setup : Option Tree
  pub scripts : List (ℕ × Tree)

-- what is made, but for what is in hand
abbrev pub said_of : Made → Said
said_of m = record { classes = m.classes; names = m.names; texts = m.texts; places = m.places; bodies = m.bodies; types = m.types; setup = m.setup; scripts = m.scripts }

-- what a program says
abbrev pub said_in : Table → Said
said_in t = said_of (made_of (record { table = t; nodes = [] }))
