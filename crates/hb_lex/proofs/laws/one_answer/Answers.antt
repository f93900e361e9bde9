use Rattle.std.proofs.Common.{◌≡◌, None, Ok, Err}
use Rattle.hb_lex.proofs.One.{one_answer}
use Rattle.hb_lex.proofs.laws.one_answer.Goals as goal

pub returns : goal.returns
returns c = record {
  tokens = λ text xs ys h g. let same : Ok xs ≡ Ok ys = one_answer h.0 g.0 0 None text (Ok xs) (Ok ys) h.1 g.1 in cc;
  apart = λ text tokens fault h g. cc (one_answer h.0 g.0 0 None text (Ok tokens) (Err fault) h.1 g.1);
  fault = λ text e f h g. let same : Err e ≡ Err f = one_answer h.0 g.0 0 None text (Err e) (Err f) h.1 g.1 in cc;
}
