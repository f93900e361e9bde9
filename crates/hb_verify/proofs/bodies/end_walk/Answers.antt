use Rattle.std.proofs.Common.{sym}
use Rattle.hb_verify.proofs.BodyLemmas.{none_left, step_left, type_above, use_left}
use Rattle.hb_verify.proofs.bodies.end_walk.Goals as goal

pub returns-then-at-scene : goal.returns-then-at-scene
returns-then-at-scene c =
    step_left c.args.scene.uses.now c.args.scene.steps.now c.args.at c.args.limit c.args.found
    (record { node = record { 0 = 0 }; ty = c.args.found }) c.if-at-scene.true

pub returns-then-not-below : goal.returns-then-not-below
returns-then-not-below c =
    type_above c.args.scene.uses.now c.args.scene.steps.now c.args.at c.args.limit c.args.found c.if-at-scene.false (sym c.if-not-below.ensures.computed)

pub returns-then-at-scene-2 : goal.returns-then-at-scene-2
returns-then-at-scene-2 c =
    use_left c.args.scene.uses.now c.args.scene.steps.now c.args.at c.args.limit c.args.found
    (record { class = record { 0 = 0 }; name = record { 0 = 0 }; site = record { 0 = 0 } })
    c.if-at-scene.false (sym c.if-not-below.ensures.computed) c.if-at-scene-2.true

pub returns : goal.returns
returns c =
    none_left c.args.scene.uses.now c.args.scene.steps.now c.args.at c.args.limit c.args.found
    c.if-at-scene.false (sym c.if-not-below.ensures.computed) c.if-at-scene-2.false
