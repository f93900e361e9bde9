use Rattle.hb_deriv.proofs.FaultLemmas.{one_verdict, never_both, one_fault}
use Rattle.hb_deriv.proofs.laws.judged_or_fails.Goals as goal

pub returns : goal.returns
returns c = record { one = one_verdict; apart = never_both; first = one_fault }
