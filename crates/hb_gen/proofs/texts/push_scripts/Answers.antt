use Rattle.std.proofs.Common.{arith}
use Rattle.hb_gen.specs.Generated.{script}
use Rattle.hb_gen.proofs.NumberLemmas.{all_of, one_more}
use Rattle.hb_gen.proofs.texts.push_scripts.Goals as goal

pub loop-before-preserved : goal.loop-before-preserved
loop-before-preserved c = one_more (script c.args.n) _ _ _ _ c.loop-before.invariant c.in_ok-push_script.ensures

pub returns : goal.returns
returns c = all_of (script c.args.n) _ _ _ _ c.loop-before.invariant (omega arith)
