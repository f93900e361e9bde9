use Rattle.std.proofs.Common.{arith}
use Rattle.hb_gen.specs.Generated.{class_line}
use Rattle.hb_gen.proofs.NumberLemmas.{all_of, one_more}
use Rattle.hb_gen.proofs.texts.push_classes.Goals as goal

pub loop-before-preserved : goal.loop-before-preserved
loop-before-preserved c = one_more class_line _ _ _ _ c.loop-before.invariant c.in_ok-push_class.ensures

pub returns : goal.returns
returns c = all_of class_line _ _ _ c.args.n c.loop-before.invariant (omega arith)
