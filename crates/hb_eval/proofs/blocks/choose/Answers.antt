use Rattle.std.proofs.Common.{◌∙◌, sym}
use Rattle.hb_eval.proofs.BlockLemmas.{first_chosen, second_chosen}
use Rattle.hb_eval.proofs.blocks.choose.Goals as goal

pub returns-then-is_false-clause-moves : goal.returns-then-is_false-clause-moves
returns-then-is_false-clause-moves c names calls keeps =
    second_chosen (record { program = c.args.prog.now; names = names; calls = calls }) c.args.a c.args.b c.args.state.now c.start_block.new.state c.start_block.result
    (sym c.is_false.ensures ∙ c.if-is_false.true) (c.start_block.ensures.starts names calls keeps)

pub returns-else-is_false-clause-moves : goal.returns-else-is_false-clause-moves
returns-else-is_false-clause-moves c names calls keeps =
    first_chosen (record { program = c.args.prog.now; names = names; calls = calls }) c.args.a c.args.b c.args.state.now c.start_block-else-is_false.new.state c.start_block-else-is_false.result
    (sym c.is_false.ensures ∙ c.if-is_false.false) (c.start_block-else-is_false.ensures.starts names calls keeps)
