use Rattle.hb_call.proofs.EnteringLemmas.{bytes_found}
use Rattle.hb_eval.proofs.NamedLemmas.{defined_on, declared_on}
use Rattle.hb_eval.proofs.named.method.Goals as goal

pub returns-in-Def-Named-default-clause-acts : goal.returns-in-Def-Named-default-clause-acts
returns-in-Def-Named-default-clause-acts g c =
    defined_on _ _ _ _ c.args.prog.now c.args.id.0 _ c.in-Def-Named-default.class c.in-Def-Named-default.name c.in-Def-Named-default.site _ c.name.result.now _ c.args.state.now _ c.define.result
    c.in-Def-Named-default.ensures.tree c.in-Def-Named-default.field-0-is
    (bytes_found c.args.prog.now.names c.in-Def-Named-default.name.0 c.name.result.now c.name.ensures.value) c.known_body-site.ensures.same c.define.ensures.acts

pub returns-in-Declare-Named-default-default-clause-acts : goal.returns-in-Declare-Named-default-default-clause-acts
returns-in-Declare-Named-default-default-clause-acts g c =
    declared_on _ _ _ _ c.args.prog.now c.args.id.0 _ c.in-Declare-Named-default-default.class c.in-Declare-Named-default-default.name c.in-Declare-Named-default-default.site _
    c.in-Declare-Named-default-default.asks c.name-in-Declare-Named-default-default.result.now _ c.args.state.now _ c.declare.result
    c.in-Declare-Named-default-default.ensures.tree c.in-Declare-Named-default-default.field-0-is
    (bytes_found c.args.prog.now.names c.in-Declare-Named-default-default.name.0 c.name-in-Declare-Named-default-default.result.now c.name-in-Declare-Named-default-default.ensures.value)
    c.known_type-site.ensures.same c.declare.ensures.acts
