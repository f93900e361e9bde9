use Rattle.hb_deriv.proofs.JudgementLemmas.{judge_of, judged_of, body_judged, judge_body_of}
use Rattle.hb_deriv.proofs.laws.judged_is_computed.Goals as goal

pub returns : goal.returns
returns c = record {
  sound = judged_of;
  complete = λ types self e G G1 t h. judge_of h;
  body = body_judged;
  judged = λ types s h. ((h.behind, h.ty), judge_body_of types s h);
}
