use Rattle.std.proofs.Common.{sym, refl, arith}
use Rattle.hb_check.proofs.BodyLemmas.{answers_count, block_ran, answers_ill, answers_look, answers_result, answers_good, never_full}
use Rattle.hb_check.proofs.ParameterLemmas.{count_test, count_same}
use Rattle.hb_check.proofs.bodies.check.Goals as goal

pub returns-then-given-ty-clause-answers : goal.returns-then-given-ty-clause-answers
returns-then-given-ty-clause-answers g c =
    let params = c.body-given.ensures.meets.params in
    rw (c.requires.unanswered, c.requires.unrefused, c.bad.ensures)
    (answers_count c.args.prog.now c.args.class.0 c.args.body.0 c.args.declared.0 c.body-given.result c.type_of-ty.result c.body-given.ensures.value c.type_of-ty.ensures.value
    (count_test c.body-given.result.params c.body-given.result.count c.type_of-ty.result.count (omega (arith, params.places, params.few)) c.if-given-ty.true))

pub returns-in-Err-Ill-clause-answers : goal.returns-in-Err-Ill-clause-answers
returns-in-Err-Ill-clause-answers g c =
    let params = c.body-given.ensures.meets.params in
    let same = count_same c.body-given.result.params c.body-given.result.count c.type_of-ty.result.count (omega (arith, params.places, params.few)) c.if-given-ty.false in
    let block = block_ran c.args.prog.now c.args.class.0 c.args.body.0 c.args.declared.0 c.body-given.result c.type_of-ty.result c.body-given.ensures.value c.type_of-ty.ensures.value
    (rw (c.requires.unanswered, c.requires.unrefused, c.new-notes.ensures.uses, c.new-notes.ensures.steps) refl) c.parameters-env.ensures (rw c.in-Err-Ill.field-0-is at c.in-Err-Ill.ensures.checks) in
    rw c.in-Err-Ill.ill-is (answers_ill c.args.prog.now c.args.class.0 c.args.body.0 c.args.declared.0 c.body-given.result c.type_of-ty.result c.body-given.ensures.value
    c.type_of-ty.ensures.value c.in-Err-Ill.ill same block)

pub returns-in-Err-Look-clause-answers : goal.returns-in-Err-Look-clause-answers
returns-in-Err-Look-clause-answers g c =
    let params = c.body-given.ensures.meets.params in
    let same = count_same c.body-given.result.params c.body-given.result.count c.type_of-ty.result.count (omega (arith, params.places, params.few)) c.if-given-ty.false in
    let block = block_ran c.args.prog.now c.args.class.0 c.args.body.0 c.args.declared.0 c.body-given.result c.type_of-ty.result c.body-given.ensures.value c.type_of-ty.ensures.value
    (rw (c.requires.unanswered, c.requires.unrefused, c.new-notes.ensures.uses, c.new-notes.ensures.steps) refl) c.parameters-env.ensures (rw c.in-Err-Look.field-0-is at c.in-Err-Look.ensures.checks) in
    rw c.in-Err-Look.cause-is (answers_look c.args.prog.now c.args.class.0 c.args.body.0 c.args.declared.0 c.body-given.result c.type_of-ty.result c.body-given.ensures.value
    c.type_of-ty.ensures.value c.in-Err-Look.cause same block)

pub unreachable-requires : goal.unreachable-requires
unreachable-requires g c =
    let block = block_ran c.args.prog.now c.args.class.0 c.args.body.0 c.args.declared.0 c.body-given.result c.type_of-ty.result c.body-given.ensures.value c.type_of-ty.ensures.value
    (rw (c.requires.unanswered, c.requires.unrefused, c.new-notes.ensures.uses, c.new-notes.ensures.steps) refl) c.parameters-env.ensures (rw c.in-Err-Full.field-0-is at c.in-Err-Full.ensures.checks) in
    never_full c.args.prog.now c.args.class.0 c.args.body.0 c.args.declared.0 c.body-given.result c.type_of-ty.result c.body-given.ensures.value c.type_of-ty.ensures.value c.body-given.ensures.meets.few_variables block

pub returns-then-below-clause-answers : goal.returns-then-below-clause-answers
returns-then-below-clause-answers g c =
    let params = c.body-given.ensures.meets.params in
    let same = count_same c.body-given.result.params c.body-given.result.count c.type_of-ty.result.count (omega (arith, params.places, params.few)) c.if-given-ty.false in
    let block = block_ran c.args.prog.now c.args.class.0 c.args.body.0 c.args.declared.0 c.body-given.result c.type_of-ty.result c.body-given.ensures.value c.type_of-ty.ensures.value
    (rw (c.requires.unanswered, c.requires.unrefused, c.new-notes.ensures.uses, c.new-notes.ensures.steps) refl) c.parameters-env.ensures c.in-Ok.ensures.checks in
    answers_good c.args.prog.now c.args.class.0 c.args.body.0 c.args.declared.0 c.body-given.result c.type_of-ty.result c.body-given.ensures.value c.type_of-ty.ensures.value _ _ _ _ same
    (sym c.if-below.ensures.computed) block refl refl refl refl refl

pub returns-in-Ok-clause-answers : goal.returns-in-Ok-clause-answers
returns-in-Ok-clause-answers g c =
    let params = c.body-given.ensures.meets.params in
    let same = count_same c.body-given.result.params c.body-given.result.count c.type_of-ty.result.count (omega (arith, params.places, params.few)) c.if-given-ty.false in
    let block = block_ran c.args.prog.now c.args.class.0 c.args.body.0 c.args.declared.0 c.body-given.result c.type_of-ty.result c.body-given.ensures.value c.type_of-ty.ensures.value
    (rw (c.requires.unanswered, c.requires.unrefused, c.new-notes.ensures.uses, c.new-notes.ensures.steps) refl) c.parameters-env.ensures c.in-Ok.ensures.checks in
    rw c.bad-else-below.ensures (answers_result c.args.prog.now c.args.class.0 c.args.body.0 c.args.declared.0 c.body-given.result c.type_of-ty.result c.body-given.ensures.value
    c.type_of-ty.ensures.value _ _ same (sym c.if-below.ensures.computed) block)
