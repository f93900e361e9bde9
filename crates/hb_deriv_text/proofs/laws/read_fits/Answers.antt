use Rattle.hb_deriv_text.proofs.FitLemmas.{read_fits}
use Rattle.hb_deriv_text.proofs.laws.read_fits.Goals as goal

pub returns : goal.returns
returns c t bytes content h = read_fits t bytes content h
