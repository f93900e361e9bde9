use Rattle.hb_eval.proofs.BlockLemmas.{turned}
use Rattle.hb_eval.proofs.blocks.turn.Goals as goal

pub returns-clause-moves : goal.returns-clause-moves
returns-clause-moves c names calls keeps =
    turned (record { program = c.args.prog.now; names = names; calls = calls }) keeps c.args.condition c.args.block c.args.state.now c.first.new.state c.first.result c.requires.fine
    c.first.ensures.state c.first.ensures.value
