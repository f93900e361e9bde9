use Rattle.std.proofs.Common.{refl}
use Rattle.hb_eval.proofs.BlockLemmas.{item_starts, item_last, items_end}
use Rattle.hb_eval.proofs.blocks.next_item.Goals as goal

pub returns-then-at-items-2-clause-starts : goal.returns-then-at-items-2-clause-starts
returns-then-at-items-2-clause-starts c names calls keeps =
    item_starts (record { program = c.args.prog.now; names = names; calls = calls }) c.args.block c.args.at c.items_of-items.result.now _
    (record { 0 = 0 }) c.args.state.now _ _ c.first.ensures.state c.first.ensures.value c.requires.block c.items_of-items.ensures.tree c.items_of-items.ensures.exprs c.if-at-items.true refl

pub returns-else-at-items-2-clause-starts : goal.returns-else-at-items-2-clause-starts
returns-else-at-items-2-clause-starts c names calls keeps =
    item_last (record { program = c.args.prog.now; names = names; calls = calls }) c.args.block c.args.at c.items_of-items.result.now _
    (record { 0 = 0 }) c.args.state.now _ _ c.next.ensures.state c.next.ensures.value c.items_of-items.ensures.tree c.items_of-items.ensures.exprs c.if-at-items.true c.if-at-items-2.false refl

pub returns-else-at-items-clause-starts : goal.returns-else-at-items-clause-starts
returns-else-at-items-clause-starts c names calls keeps =
    items_end (record { program = c.args.prog.now; names = names; calls = calls }) c.args.block c.args.at c.items_of-items.result.now c.args.state.now c.args.state.now _ refl c.in_hand.ensures
    c.items_of-items.ensures.tree c.if-at-items.false
