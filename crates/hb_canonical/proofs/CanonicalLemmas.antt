-- The canonical text of a program has the tokens that its pieces say.
use Rattle.std.proofs.Common.{◌≡◌, ℕ, List, [], ◌∷◌, ◌++◌, Option, Some, None, refl, arith}
use Rattle.std.specs.{Prelude.IfSome, List.AllByRecursion, List.flat_map}
use Rattle.hb_lex.specs.declared.kinds.TokenKind.TheVariants as k
use Rattle.hb_types.specs.declared.{ids.NodeId.NodeId, ids.NameId.NameId}
use Rattle.hb_tree.specs.{Table.Table, Spelling.IsClassName}
use Rattle.hb_tree.specs.declared.node.Node.{Node}
use Rattle.hb_tree.specs.declared.node.Node.TheVariants as node
use Rattle.hb_tree.specs.{Nodes.items_of, Nodes.numbers_of, Nodes.node_at, Pieces.Piece, Pieces.mark, Pieces.word}
use Rattle.hb_tree.specs.TreeAt.{forest_at, tree_at, tree_down, tree_of_place}
use Rattle.hb_tree.specs.Program.{IsProgram, IsBlockNode, IsExprNode, IsRootIn, IsScriptIn}
use Rattle.hb_tree.specs.Canon.{own, each, line, lines_of, class_line, setup_lines, script_lines, name_piece, pieces_of, canon}
use Rattle.hb_canonical.proofs.{SpellLemmas.has_pieces, LeafLemmas.class_token}
use Rattle.hb_canonical.specs.Canonical.{HasPieces}
use Rattle.hb_canonical.proofs.LooseLemmas.{AreLines, plain_mark, is_line, lines_append, well}
use Rattle.hb_canonical.proofs.PieceLemmas.{name_plain, down_plain, down_ends}

class_lines : (names : List (List ℕ)) → AllByRecursion IsClassName names → AreLines (flat_map class_line names)
class_lines [] h = λ before. tt
class_lines (name ∷ names) h =
    lines_append (class_line name) (flat_map class_line names)
    (is_line (mark k.KwClass ∷ word k.ClassName name ∷ []) (plain_mark k.KwClass (omega arith), (record { token = class_token name h.0; loose = refl }, tt)) (λ before. refl))
    (class_lines names h.1)

end_line : AreLines (line (mark k.KwEnd ∷ []))
end_line = is_line (mark k.KwEnd ∷ []) (plain_mark k.KwEnd (omega arith), tt) (λ before. refl)

module _ (t : Table) (ok : IsProgram t) where
  -- each item of a block on a line
  item_lines : (depth : ℕ) (is : List NodeId) → AllByRecursion (λ j. IsExprNode (node_at t j)) (numbers_of is) → AreLines (flat_map line (each t (forest_at (tree_down t depth) is)))
  item_lines depth [] h = λ before. tt
  item_lines depth (i ∷ is) h =
      lines_append (line (own t (tree_down t depth i.0))) (flat_map line (each t (forest_at (tree_down t depth) is)))
      (is_line (own t (tree_down t depth i.0)) (down_plain t ok depth i.0) (down_ends t ok depth i.0 h.0))
      (item_lines depth is h.1)

  block_lines : (id : ℕ) → IsBlockNode (node_at t id) → AreLines (lines_of t (tree_at t id))
  unfolding tree_at tree_down
  block_lines id h = go (node_at t id) refl h
    where
      go : (o : Option Node) → node_at t id ≡ o → IsBlockNode o → AreLines (lines_of t (tree_of_place t (tree_down t id) id o))
      go (Some (node.Block first count)) e h =
          lines_append (flat_map line (each t (forest_at (tree_down t id) (items_of t first count)))) (line (mark k.KwEnd ∷ []))
          (item_lines id (items_of t first count) (ok.nodes id (node.Block first count) e).exprs) end_line
      go _ e h = absurd h

  lines_of_setup : (o : Option NodeId) → IfSome o (IsRootIn t) → AreLines (setup_lines t o)
  lines_of_setup None h = λ before. tt
  lines_of_setup (Some block) h =
      lines_append (line (mark k.KwSetup ∷ [])) (lines_of t (tree_at t block.0))
      (is_line (mark k.KwSetup ∷ []) (plain_mark k.KwSetup (omega arith), tt) (λ before. refl))
      (block_lines block.0 h.block)

  lines_of_scripts : (scripts : List (NameId × NodeId)) → AllByRecursion (IsScriptIn t) scripts → AreLines (flat_map (script_lines t) scripts)
  lines_of_scripts [] h = λ before. tt
  lines_of_scripts (s ∷ scripts) h =
      let head : List Piece = mark k.KwScript ∷ name_piece t s.0.0 ∷ [] in
      lines_append (script_lines t s) (flat_map (script_lines t) scripts)
      (lines_append (line head) (lines_of t (tree_at t s.1.0))
      (is_line head (plain_mark k.KwScript (omega arith), (name_plain t ok s.0.0 h.0.name, tt)) (λ before. refl))
      (block_lines s.1.0 h.0.root.block))
      (lines_of_scripts scripts h.1)

  -- the pieces of a program are lines
  lines_of_program : AreLines (pieces_of t)
  lines_of_program =
      lines_append (flat_map class_line t.classes ++ setup_lines t t.setup) (flat_map (script_lines t) t.scripts)
      (lines_append (flat_map class_line t.classes) (setup_lines t t.setup) (class_lines t.classes ok.spelled.classes) (lines_of_setup t.setup ok.setup))
      (lines_of_scripts t.scripts ok.scripts)

  pub canonical_pieces : HasPieces (canon t) (pieces_of t)
  canonical_pieces = has_pieces (pieces_of t) (well None (pieces_of t) (lines_of_program None))
