use Rattle.std.proofs.lemmas.Result.{err_from_is_err_and}
use Rattle.hb_deriv.specs.Programs.{sites_of}
use Rattle.hb_check.proofs.LookLemmas.{runs_refused, runs_absent, runs_forgotten, runs_found}
use Rattle.hb_check.proofs.looking.ask.Goals as goal

pub returns-in_err-type_of-clause-runs : goal.returns-in_err-type_of-clause-runs
returns-in_err-type_of-clause-runs g c none G =
    let p = err_from_is_err_and c.from_residual.result c.from_residual.ensures.1 in
    rw (p.1, p.2) (runs_refused (sites_of c.args.prog.now) G c.args.node c.args.class c.args.name _ _ _ _ _ _ _ none c.in_err-type_of.ensures.refusal.0 c.in_err-type_of.ensures.refusal.1)

pub returns-in_err-push-in-Some-clause-runs : goal.returns-in_err-push-in-Some-clause-runs
returns-in_err-push-in-Some-clause-runs g c none G =
    let p = err_from_is_err_and c.from_residual-in_err-push-in-Some.result c.from_residual-in_err-push-in-Some.ensures.1 in
    rw (p.1, p.2) (runs_forgotten (sites_of c.args.prog.now) G c.args.node c.args.class c.args.name _ _ _ c.in-Some.site _ _ _ _ none
    (rw c.in-Some.is at c.in_ok-type_of.ensures.answer.0) c.in_ok-type_of.ensures.answer.1 c.in_err-push-in-Some.ensures.items)

pub returns-in-None-clause-runs : goal.returns-in-None-clause-runs
returns-in-None-clause-runs g c none G =
    runs_absent (sites_of c.args.prog.now) G c.args.node c.args.class c.args.name _ _ _ _ _ _ none (rw c.in-None.is at c.in_ok-type_of.ensures.answer.0) c.in_ok-type_of.ensures.answer.1

pub returns-in_ok-push-in-Some-clause-runs : goal.returns-in_ok-push-in-Some-clause-runs
returns-in_ok-push-in-Some-clause-runs g c none G =
    runs_found (sites_of c.args.prog.now) G c.args.node c.args.class c.args.name _ _ _ c.in-Some.site _ _ _ _ _ (c.declared.ensures.value G) none
    (rw c.in-Some.is at c.in_ok-type_of.ensures.answer.0) c.in_ok-type_of.ensures.answer.1 c.in_ok-push-in-Some.ensures.items
