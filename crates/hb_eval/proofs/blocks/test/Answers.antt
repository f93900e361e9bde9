use Rattle.std.proofs.Common.{◌∙◌, sym}
use Rattle.hb_eval.proofs.BlockLemmas.{looped}
use Rattle.hb_eval.proofs.blocks.test.Goals as goal

pub returns-else-is_false-clause-moves : goal.returns-else-is_false-clause-moves
returns-else-is_false-clause-moves c names calls keeps =
    looped (record { program = c.args.prog.now; names = names; calls = calls }) c.args.condition c.args.block c.args.state.now c.start_block-of.new.state c.start_block-of.result c.under.result
    c.requires.fine (sym c.is_false.ensures ∙ c.if-is_false.false) (c.start_block-of.ensures.starts names calls keeps) c.start_block-of.ensures.under c.under.ensures
