use Rattle.std.proofs.Common.{arith}
use Rattle.hb_gen.specs.Generated.{block_in}
use Rattle.hb_gen.proofs.NumberLemmas.{all_of, one_more}
use Rattle.hb_gen.proofs.texts.push_blocks.Goals as goal

pub loop-before-preserved : goal.loop-before-preserved
loop-before-preserved c = one_more (block_in c.args.j) _ _ _ _ c.loop-before.invariant c.in_ok-push_block_in.ensures

pub returns : goal.returns
returns c = all_of (block_in c.args.j) _ _ _ c.args.n c.loop-before.invariant (omega arith)
