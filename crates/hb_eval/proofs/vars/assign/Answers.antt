use Rattle.std.proofs.Common.{◌<◌, length, ◌∙◌, ap, arith, vec_len, Vec, Global, drop}
use Rattle.hb_types.specs.declared.ids.NameId.{NameId}
use Rattle.hb_eval.specs.declared.value.Value.{Value}
use Rattle.hb_eval.specs.State.{bind}
use Rattle.hb_eval.proofs.VariableLemmas.{not_in_above, set_above}
use Rattle.hb_eval.proofs.vars.assign.Goals as goal

pub loop-i-preserved : goal.loop-i-preserved
loop-i-preserved c =
    let inv = c.loop-i.invariant in
    let lt : c.loop-i.i < length c.loop-i.vars.items = omega (arith, c.loop-i.vars.ok, ap vec_len inv.0, c.len-i-end.ensures) in
    (inv.0, omega (arith, inv.1), not_in_above c.args.base c.loop-i.i c.loop-i.vars.items c.args.name.0 c.index.result.now inv.1 inv.2 lt c.index.ensures c.if-index-name.false)

pub returns-then-index-name-clause-bound : goal.returns-then-index-name-clause-bound
returns-then-index-name-clause-bound c =
    let inv = c.loop-i.invariant in
    let lt : c.loop-i.i < length c.loop-i.vars.items = omega (arith, c.loop-i.vars.ok, ap vec_len inv.0, c.len-i-end.ensures) in
    set_above c.args.base c.loop-i.i c.loop-i.vars.items c.args.name.0 c.args.value c.index.result.now inv.1 inv.2 lt c.index.ensures c.if-index-name.true
    ∙ ap (λ (vs : Vec (NameId × Value) Global). bind (drop c.args.base vs.items) c.args.name.0 c.args.value) inv.0
