use Rattle.hb_deriv_text.proofs.WholeLemmas.{written_is_read, same_is_read}
use Rattle.hb_deriv_text.proofs.laws.written_is_read.Goals as goal

pub returns : goal.returns
returns c = record {
  first = λ t content program small sayable. written_is_read t program small content sayable;
  same = λ t content program small apart sayable. same_is_read t program small apart content sayable;
}
