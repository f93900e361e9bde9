use Rattle.hb_deriv.proofs.FaultLemmas.{fails_of, fails_from, body_fails_of, body_fails_from}
use Rattle.hb_deriv.proofs.laws.fault_is_computed.Goals as goal

pub returns : goal.returns
returns c = record {
  sound = fails_from;
  complete = λ types self e G f h. fails_of h;
  body = body_fails_from;
  fails = body_fails_of;
}
