use Rattle.hb_deriv_text.proofs.ReadLemmas.{read_is_written}
use Rattle.hb_deriv_text.proofs.FitLemmas.{read_fits}
use Rattle.hb_deriv_text.proofs.FaultLemmas.{text_is_read, refused_at_fault}
use Rattle.hb_deriv_text.proofs.laws.texts_are_read.Goals as goal

pub returns : goal.returns
returns c = record {
  read = λ t bytes program small. (
    text_is_read t program small bytes,
    λ r. record { content = r.0; sayable = read_fits t bytes r.0 r.1; written = read_is_written t bytes r.0 r.1 },
  );
  fault = λ t bytes at program small h. refused_at_fault t program small bytes at h;
}
