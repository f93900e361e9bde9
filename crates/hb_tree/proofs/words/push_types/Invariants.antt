use Rattle.std.proofs.Common.{◌≡◌, ◌∷◌, [], drop}
use Rattle.std.specs.List.{flat_map}
use Rattle.hb_lex.specs.declared.kinds.TokenKind.TheVariants as kind
use Rattle.hb_tree.specs.{Pieces.mark, Canon.type_piece, Page.written}
use Rattle.hb_tree.proofs.words.push_types.Given as goal

abbrev pub invariant-loop-ty : goal.invariant-loop-ty
invariant-loop-ty l =
    written l.sheet (flat_map (λ x. mark kind.Comma ∷ type_piece l.prog x ∷ []) (drop l.ty-index l.rest))
    ≡ written l.initial.sheet (flat_map (λ x. mark kind.Comma ∷ type_piece l.prog x ∷ []) l.rest)
