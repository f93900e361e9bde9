use Rattle.std.proofs.Common.{◌∷◌, [], ◌-◌, take, drop, length, refl, arith}
use Rattle.std.specs.List.{flat_map}
use Rattle.hb_lex.specs.declared.kinds.TokenKind.TheVariants as kind
use Rattle.hb_tree.specs.{Pieces.mark, Canon.name_piece}
use Rattle.hb_tree.proofs.Pages.{wrote, walk_step, separated_none, separated_whole}
use Rattle.hb_tree.proofs.words.push_names.Goals as goal

pub returns-in_default : goal.returns-in_default
returns-in_default c = separated_none (λ x. name_piece c.args.prog.now x.0 ∷ []) (mark kind.Comma) c.args.names.now c.args.sheet.now c.in_default.len_below

pub loop-name-preserved : goal.loop-name-preserved
loop-name-preserved c =
    walk_step (λ x. mark kind.Comma ∷ name_piece c.args.prog.now x.0 ∷ []) (flat_map (λ x. mark kind.Comma ∷ name_piece c.args.prog.now x.0 ∷ [])) (λ x xs. refl)
    (take (length c.args.names.now - 1) (drop 1 c.args.names.now)) c.loop-name.name-index _ _ _ _
    c.loop-name-test.true (wrote _ _ _ c.in_ok-mark.ensures c.in_ok-push_name-2.ensures) c.loop-name.invariant

pub returns : goal.returns
returns c =
    separated_whole (λ x. name_piece c.args.prog.now x.0 ∷ []) (mark kind.Comma) c.args.names.now c.loop-name.name-index _ _ _ _
    (omega arith) c.in_ok-push_name.ensures c.loop-name-test.false c.loop-name.invariant
