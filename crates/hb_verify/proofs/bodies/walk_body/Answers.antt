use Rattle.std.proofs.Common.{arith, ◌≤◌, length}
use Rattle.std.proofs.lemmas.Result.{err_from_is_err_and}
use Rattle.hb_verify.proofs.BodyLemmas.{block_walked, ends_count, ends_early, ends_last, few_ends}
use Rattle.hb_verify.proofs.ParameterLemmas.{count_test, count_same}
use Rattle.hb_verify.proofs.bodies.walk_body.Goals as goal

pub returns-then-body-ty-clause-ends : goal.returns-then-body-ty-clause-ends
returns-then-body-ty-clause-ends c =
    let params = c.body-body.ensures.meets.params in
    ends_count c.args.prog.now c.args.raw.now c.body-body.result c.type_of-ty.result c.body-body.ensures.value c.type_of-ty.ensures.value c.args.at.now
    (count_test c.body-body.result.params c.body-body.result.count c.type_of-ty.result.count
    (omega (arith, params.places, params.few)) c.if-body-ty.true) c.requires.begins.1

pub returns-in_err-found-clause-ends : goal.returns-in_err-found-clause-ends
returns-in_err-found-clause-ends c =
    let t = c.args.prog.now in
    let raw = c.args.raw.now in
    let params = c.body-body.ensures.meets.params in
    let few : c.body-body.result.count ≤ length c.body-body.result.params = omega (arith, params.places, params.few) in
    let count = count_same c.body-body.result.params c.body-body.result.count c.type_of-ty.result.count few c.if-body-ty.false in
    let p = err_from_is_err_and c.from_residual.result c.from_residual.ensures.1 in
    rw (p.1, p.2)
    (ends_early t raw c.body-body.result c.type_of-ty.result c.body-body.ensures.value c.type_of-ty.ensures.value c.walk_node.new.at _
    count c.body-body.ensures.meets.few_variables
    (block_walked t raw c.body-body.result c.type_of-ty.result c.body-body.ensures.value c.type_of-ty.ensures.value
    c.deref.ensures.value c.deref-2.ensures.value c.requires.begins.0 c.requires.begins.1 c.parameters-env.ensures c.in_err-found.ensures.walks))

pub returns-in_err-found-clause-few : goal.returns-in_err-found-clause-few
returns-in_err-found-clause-few c =
    few_ends c.args.prog.now c.args.raw.now c.body-body.result c.type_of-ty.result c.body-body.ensures.value c.type_of-ty.ensures.value
    c.walk_node.new.at c.from_residual.result c.body-body.ensures.meets.few_nodes (returns-in_err-found-clause-ends c)

pub returns-clause-ends : goal.returns-clause-ends
returns-clause-ends c =
    let t = c.args.prog.now in
    let raw = c.args.raw.now in
    let params = c.body-body.ensures.meets.params in
    let few : c.body-body.result.count ≤ length c.body-body.result.params = omega (arith, params.places, params.few) in
    let count = count_same c.body-body.result.params c.body-body.result.count c.type_of-ty.result.count few c.if-body-ty.false in
    ends_last t raw c.body-body.result c.type_of-ty.result c.body-body.ensures.value c.type_of-ty.ensures.value c.walk_node.new.at _ _
    c.deref.ensures.value c.deref-2.ensures.value count
    (block_walked t raw c.body-body.result c.type_of-ty.result c.body-body.ensures.value c.type_of-ty.ensures.value
    c.deref.ensures.value c.deref-2.ensures.value c.requires.begins.0 c.requires.begins.1 c.parameters-env.ensures c.in_ok-found.ensures.walks)
    c.end_walk.ensures

pub returns-clause-few : goal.returns-clause-few
returns-clause-few c =
    few_ends c.args.prog.now c.args.raw.now c.body-body.result c.type_of-ty.result c.body-body.ensures.value c.type_of-ty.ensures.value
    c.walk_node.new.at c.end_walk.result c.body-body.ensures.meets.few_nodes (returns-clause-ends c)
