use Rattle.hb_deriv.proofs.LookLemmas.{looks_onward}
use Rattle.hb_deriv.proofs.laws.looks_go_on.Goals as goal

pub returns : goal.returns
returns c t u s ks rest k h same = looks_onward t u s ks rest k h same
