use Rattle.hb_deriv.proofs.GoodLemmas.{good_derives}
use Rattle.hb_deriv.proofs.laws.good_derives.Goals as goal

pub returns : goal.returns
returns c sites s d good types h = good_derives sites s d good types h
