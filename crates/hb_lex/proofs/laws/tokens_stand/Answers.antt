use Rattle.std.proofs.Common.{None, Ok, Err, refl}
use Rattle.hb_lex.proofs.Standing.{stands_from}
use Rattle.hb_lex.proofs.laws.tokens_stand.Goals as goal

pub returns : goal.returns
returns c = record {
  ordered = λ text tokens h. (stands_from text h.0 0 None text (Ok tokens) refl h.1).0;
  fault = λ text fault h. stands_from text h.0 0 None text (Err fault) refl h.1;
  standing = λ text tokens h. (stands_from text h.0 0 None text (Ok tokens) refl h.1).1;
}
