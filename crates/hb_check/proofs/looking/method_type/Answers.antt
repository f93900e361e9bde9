use Rattle.std.proofs.Common.{◌∙◌, sym}
use Rattle.hb_deriv.specs.Programs.{sites_of}
use Rattle.hb_check.proofs.LookLemmas.{runs_known}
use Rattle.hb_check.proofs.looking.method_type.Goals as goal

pub returns-in-Some-clause-runs : goal.returns-in-Some-clause-runs
returns-in-Some-clause-runs g c G =
    runs_known (sites_of c.args.prog.now) G c.args.node c.args.class c.args.name _ _ _ c.in-Some.site _ _ (c.declared.ensures.value G) (sym c.site_of.ensures ∙ c.in-Some.is)
