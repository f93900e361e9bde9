use Rattle.hb_deriv.specs.Programs.{sites_of}
use Rattle.hb_deriv.proofs.GoodLemmas.{good_derives}
use Rattle.hb_deriv.proofs.laws.programs_derivation_derives.Goals as goal

pub returns : goal.returns
returns c t d h types agrees = (h.subject, h.is, good_derives (sites_of t) h.subject d h.good types agrees)
