use Rattle.std.proofs.Common.{◌≡◌, ◌∷◌, [], reverse, ◌∙◌}
use Rattle.std.proofs.lemmas.List.{map-append}
use Rattle.hb_build.specs.declared.held.Held.TheVariants as held
use Rattle.hb_types.specs.declared.ids.NameId.{NameId}
use Rattle.hb_build.proofs.{ParameterLemmas.parameter-item, ParameterLemmas.parameters-begin, ParameterLemmas.parameters-end, lists.parameters.Goals.in-Parameter+in_ok-push}
use Rattle.hb_build.proofs.{lists.parameters.Goals.in_default}
use Rattle.hb_build.proofs.lists.parameters.Goals as goal

pub loop-thing-init : goal.loop-thing-init
loop-thing-init c = let e = c.new-names.ensures.items in rw e (parameters-begin (reverse c.args.held.now))

pub loop-thing-preserved : goal.loop-thing-preserved
loop-thing-preserved c =
    let item = parameter-item c.args.held.now c.parameter_count.result c.loop-thing.thing-index held.Operand c.parameter_count.ensures.count c.loop-thing-test.true in
    elim c.match-thing.branch [
      | in-Parameter+in_ok-push w ↦
          let before = c.loop-thing.invariant in
          let same : w.in-Parameter.name ≡ item.0 = cc (w.in-Parameter.is, item.1) in
          let is = w.names-is in
          let pushed = w.in_ok-push.ensures.items in
          let made = map-append (λ (x : NameId). x.0) c.loop-thing.names.items (w.in-Parameter.name ∷ []) in
          let last = item.2 in
          rw (is, pushed, made, before, same, last)
      | in_default w ↦ absurd (w.in_default.not-Parameter item.0 item.1)
    ]

pub returns : goal.returns
returns c = c.loop-thing.invariant ∙ parameters-end c.args.held.now c.parameter_count.result c.loop-thing.thing-index c.parameter_count.ensures.count c.loop-thing-test.false
