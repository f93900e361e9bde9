-- A program's parts as plain lists.
use Rattle.std.specs.Prelude.{ℕ, List, map, Option}
use Rattle.hb_types.specs.declared.{ids.NodeId.NodeId, ids.NameId.NameId, types.MethodTy.MethodTy}
use Rattle.hb_tree.specs.declared.{node.Placed.Placed, parts.Body.Body, parts.ProgramParts.ProgramParts}

pub record Table : Type 0 where
  pub classes : List (List ℕ)
  pub names : List (List ℕ)
  pub texts : List (List ℕ)
  pub nodes : List Placed
  pub items : List NodeId
  pub bodies : List Body
  pub types : List (MethodTy × NodeId)
  pub setup : Option NodeId
  pub scripts : List (NameId × NodeId)

abbrev pub table_of : ProgramParts → Table
table_of p = record {
  classes = map (λ v. v.items) p.classes.items;
  names = map (λ v. v.items) p.names.items;
  texts = map (λ v. v.items) p.texts.items;
  nodes = p.nodes.items;
  items = p.items.items;
  bodies = p.bodies.items;
  types = p.types.items;
  setup = p.setup;
  scripts = p.scripts.items;
}
