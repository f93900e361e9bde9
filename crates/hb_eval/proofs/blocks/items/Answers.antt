use Rattle.hb_eval.proofs.BlockLemmas.{items_on}
use Rattle.hb_eval.proofs.blocks.items.Goals as goal

pub returns-clause-moves : goal.returns-clause-moves
returns-clause-moves c names calls keeps =
    items_on (record { program = c.args.prog.now; names = names; calls = calls }) c.args.block c.args.at c.args.state.now c.next_item.new.state c.next_item.result (c.next_item.ensures.starts names calls keeps)
