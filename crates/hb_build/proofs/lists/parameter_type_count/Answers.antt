use Rattle.std.proofs.Common.{arith, length, reverse, ap, length-append}
use Rattle.std.proofs.lemmas.List.{drop_all, length-reverse}
use Rattle.hb_types.specs.declared.types.Ty.{Ty}
use Rattle.hb_build.proofs.{ParameterLemmas.one-type-more, ParameterLemmas.no-type-more, lists.parameter_type_count.Goals.in-ParameterType}
use Rattle.hb_build.proofs.{lists.parameter_type_count.Goals.in_default}
use Rattle.hb_build.specs.Sound.{parameter_types_of}
use Rattle.hb_build.proofs.lists.parameter_type_count.Goals as goal

pub loop-count-preserved : goal.loop-count-preserved
loop-count-preserved c = elim c.match-matches.branch [
  | in-ParameterType w ↦
      let e = ap length (one-type-more c.args.held.now c.loop-count.count _ w.in-ParameterType.field-0 c.loop-count-test.true w.in-ParameterType.is) in
      record { within = omega arith; are = omega (arith, e, length-append {A = Ty}) }
  | in_default w ↦ cc
]

pub returns-else-matches-clause-count : goal.returns-else-matches-clause-count
returns-else-matches-clause-count c = elim c.match-matches.branch [
  | in-ParameterType w ↦ cc
  | in_default w ↦
      let e = ap length (no-type-more c.args.held.now c.loop-count.count _ c.loop-count-test.true w.in_default.not-ParameterType) in
      omega (arith, e)
]

pub returns-after-loop-count-clause-count : goal.returns-after-loop-count-clause-count
returns-after-loop-count-clause-count c =
    let e = ap length (ap parameter_types_of (drop_all c.loop-count.count (reverse c.args.held.now) (rw length-reverse c.loop-count-test.false))) in
    omega (arith, e)
