use Rattle.std.proofs.Common.{refl}
use Rattle.std.specs.List.{flat_map}
use Rattle.hb_tree.specs.{TreeAt.tree_at, Canon.line, Canon.own}
use Rattle.hb_tree.proofs.Pages.{wrote, wrote_last, walk_step, walk_end}
use Rattle.hb_tree.proofs.FormLemmas.{lines-each}
use Rattle.hb_tree.proofs.print.push_lines.Goals as goal

pub loop-item-preserved : goal.loop-item-preserved
loop-item-preserved c =
    walk_step (λ i. line (own c.args.prog.now (tree_at c.args.prog.now i.0))) (flat_map (λ i. line (own c.args.prog.now (tree_at c.args.prog.now i.0)))) (λ x xs. refl)
    c.items-item-items.result.now c.loop-item.item-index _ _ _ _
    c.loop-item-test.true (wrote _ _ _ c.in_ok-push_expression.ensures c.in_ok-line_end.ensures) c.loop-item.invariant

pub returns : goal.returns
returns c =
    let items = walk_end (λ i. line (own c.args.prog.now (tree_at c.args.prog.now i.0))) (flat_map (λ i. line (own c.args.prog.now (tree_at c.args.prog.now i.0)))) refl
    c.items-item-items.result.now c.loop-item.item-index _ _ c.loop-item-test.false c.loop-item.invariant in
    rw (c.items-item-items.ensures.tree, lines-each)
    (wrote_last _ _ _ _ _ items (wrote_last _ _ _ _ _ c.in_ok-mark.ensures c.line_end-2.ensures))
