use Rattle.std.proofs.Common.{arith, ℕ, length, reverse, ap, length-append}
use Rattle.std.proofs.lemmas.List.{drop_all, length-reverse}
use Rattle.hb_build.proofs.{ParameterLemmas.one-parameter-more, ParameterLemmas.no-parameter-more, lists.parameter_count.Goals.in-Parameter, lists.parameter_count.Goals.in_default}
use Rattle.hb_build.specs.Sound.{parameters_of}
use Rattle.hb_build.proofs.lists.parameter_count.Goals as goal

pub loop-count-preserved : goal.loop-count-preserved
loop-count-preserved c = elim c.match-matches.branch [
  | in-Parameter w ↦
      let e = ap length (one-parameter-more c.args.held.now c.loop-count.count _ w.in-Parameter.field-0 c.loop-count-test.true w.in-Parameter.is) in
      record { within = omega arith; are = omega (arith, e, length-append {A = ℕ}) }
  | in_default w ↦ cc
]

pub returns-else-matches-clause-count : goal.returns-else-matches-clause-count
returns-else-matches-clause-count c = elim c.match-matches.branch [
  | in-Parameter w ↦ cc
  | in_default w ↦
      let e = ap length (no-parameter-more c.args.held.now c.loop-count.count _ c.loop-count-test.true w.in_default.not-Parameter) in
      omega (arith, e)
]

pub returns-after-loop-count-clause-count : goal.returns-after-loop-count-clause-count
returns-after-loop-count-clause-count c =
    let e = ap length (ap parameters_of (drop_all c.loop-count.count (reverse c.args.held.now) (rw length-reverse c.loop-count-test.false))) in
    omega (arith, e)
