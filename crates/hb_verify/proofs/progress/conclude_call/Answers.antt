use Rattle.std.proofs.Common.{ap, ◌∙◌}
use Rattle.std.proofs.lemmas.Result.{err_from_is_err_and}
use Rattle.std.specs.Prelude.{Option}
use Rattle.hb_types.specs.declared.types.MethodTy.{MethodTy}
use Rattle.hb_deriv.specs.Judge.{called}
use Rattle.hb_verify.specs.Rules.{outcome}
use Rattle.hb_deriv.specs.Programs.{sites_of}
use Rattle.hb_verify.proofs.FollowLemmas.{call_follows, call_lost, call_other, concluded_none}
use Rattle.hb_verify.proofs.progress.conclude_call.Goals as goal

pub returns-in_err-site-in-Class-clause-follows : goal.returns-in_err-site-in-Class-clause-follows
returns-in_err-site-in-Class-clause-follows c G =
    let p = err_from_is_err_and c.from_residual.result c.from_residual.ensures.1 in
    rw (c.in-Class.is, p.1, p.2) (call_lost
    (sites_of c.args.scene.prog.now) c.args.node.0 c.args.name.0 c.in-Class.class.0 G c.args.args.now _ _ _ c.in_err-site-in-Class.ensures.finds)

pub returns-in-Some-clause-follows : goal.returns-in-Some-clause-follows
returns-in-Some-clause-follows c G =
    let t = c.args.scene.prog.now in
    let site = c.in_ok-site-in-Class.site in
    let verdict = called c.args.node.0 G c.args.args.now (sites_of t site.0) in
    rw c.in-Class.is (call_follows (sites_of t) c.args.node.0 c.args.name.0 c.in-Class.class.0 G c.args.args.now _ _ site c.in_ok-site-in-Class.ensures.finds
    (c.conclude.ensures.follows G verdict
    (ap (λ (o : Option MethodTy). outcome (called c.args.node.0 G c.args.args.now o)) c.in-Some.ensures.value ∙ c.called.ensures c.args.node.0 G)))

pub returns-in-None-clause-follows : goal.returns-in-None-clause-follows
returns-in-None-clause-follows c G =
    let t = c.args.scene.prog.now in
    let site = c.in_ok-site-in-Class.site in
    rw c.in-Class.is (call_follows (sites_of t) c.args.node.0 c.args.name.0 c.in-Class.class.0 G c.args.args.now _ _ site c.in_ok-site-in-Class.ensures.finds
    (concluded_none _ _ _ _ _ _ (ap (λ (o : Option MethodTy). outcome (called c.args.node.0 G c.args.args.now o)) c.in-None.ensures.value)))

pub returns-in_default : goal.returns-in_default
returns-in_default c = record { within = c.requires.within; follows = λ G. call_other _ _ _ _ _ G _ _ _ c.in_default.not-Class }
