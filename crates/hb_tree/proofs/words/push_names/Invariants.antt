use Rattle.std.proofs.Common.{◌≡◌, ◌∷◌, [], drop}
use Rattle.std.specs.List.{flat_map}
use Rattle.hb_lex.specs.declared.kinds.TokenKind.TheVariants as kind
use Rattle.hb_tree.specs.{Pieces.mark, Canon.name_piece, Page.written}
use Rattle.hb_tree.proofs.words.push_names.Given as goal

abbrev pub invariant-loop-name : goal.invariant-loop-name
invariant-loop-name l =
    written l.sheet (flat_map (λ x. mark kind.Comma ∷ name_piece l.prog x.0 ∷ []) (drop l.name-index l.rest))
    ≡ written l.initial.sheet (flat_map (λ x. mark kind.Comma ∷ name_piece l.prog x.0 ∷ []) l.rest)
