use Rattle.std.proofs.Common.{◌≡◌, reverse, ◌∙◌}
use Rattle.hb_build.specs.declared.held.Held.TheVariants as held
use Rattle.hb_build.proofs.{ParameterLemmas.type-item, ParameterLemmas.types-begin, ParameterLemmas.types-end, lists.parameter_types.Goals.in-ParameterType+in_ok-push}
use Rattle.hb_build.proofs.{lists.parameter_types.Goals.in_default}
use Rattle.hb_build.proofs.lists.parameter_types.Goals as goal

pub loop-thing-init : goal.loop-thing-init
loop-thing-init c = let e = c.new-types.ensures.items in rw e (types-begin (reverse c.args.held.now))

pub loop-thing-preserved : goal.loop-thing-preserved
loop-thing-preserved c =
    let item = type-item c.args.held.now c.parameter_type_count.result c.loop-thing.thing-index held.Operand c.parameter_type_count.ensures.count c.loop-thing-test.true in
    elim c.match-thing.branch [
      | in-ParameterType+in_ok-push w ↦
          let before = c.loop-thing.invariant in
          let same : w.in-ParameterType.ty ≡ item.0 = cc (w.in-ParameterType.is, item.1) in
          let is = w.types-is in
          let pushed = w.in_ok-push.ensures.items in
          let last = item.2 in
          rw (is, pushed, before, same, last)
      | in_default w ↦ absurd (w.in_default.not-ParameterType item.0 item.1)
    ]

pub returns : goal.returns
returns c = c.loop-thing.invariant ∙ types-end c.args.held.now c.parameter_type_count.result c.loop-thing.thing-index c.parameter_type_count.ensures.count c.loop-thing-test.false
