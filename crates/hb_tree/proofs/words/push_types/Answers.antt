use Rattle.std.proofs.Common.{◌∷◌, [], ◌-◌, take, drop, length, refl, arith}
use Rattle.std.specs.List.{flat_map}
use Rattle.hb_lex.specs.declared.kinds.TokenKind.TheVariants as kind
use Rattle.hb_tree.specs.{Pieces.mark, Canon.type_piece}
use Rattle.hb_tree.proofs.Pages.{wrote, walk_step, separated_none, separated_whole}
use Rattle.hb_tree.proofs.words.push_types.Goals as goal

pub returns-in_default : goal.returns-in_default
returns-in_default c = separated_none (λ y. type_piece c.args.prog.now y ∷ []) (mark kind.Comma) c.args.types.now c.args.sheet.now c.in_default.len_below

pub loop-ty-preserved : goal.loop-ty-preserved
loop-ty-preserved c =
    walk_step (λ x. mark kind.Comma ∷ type_piece c.args.prog.now x ∷ []) (flat_map (λ x. mark kind.Comma ∷ type_piece c.args.prog.now x ∷ [])) (λ x xs. refl)
    (take (length c.args.types.now - 1) (drop 1 c.args.types.now)) c.loop-ty.ty-index _ _ _ _
    c.loop-ty-test.true (wrote _ _ _ c.in_ok-mark.ensures c.in_ok-push_type-2.ensures) c.loop-ty.invariant

pub returns : goal.returns
returns c =
    separated_whole (λ y. type_piece c.args.prog.now y ∷ []) (mark kind.Comma) c.args.types.now c.loop-ty.ty-index _ _ _ _
    (omega arith) c.in_ok-push_type.ensures c.loop-ty-test.false c.loop-ty.invariant
