use Rattle.hb_eval.proofs.BlockLemmas.{block_starts}
use Rattle.hb_eval.proofs.blocks.start_block.Goals as goal

pub returns-clause-starts : goal.returns-clause-starts
returns-clause-starts c names calls keeps =
    block_starts (record { program = c.args.prog.now; names = names; calls = calls }) c.args.block c.args.state.now c.next_item.new.state c.next_item.result c.requires (c.next_item.ensures.starts names calls keeps)
