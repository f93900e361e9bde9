use Rattle.hb_deriv.proofs.GoodLemmas.{derived_is_good}
use Rattle.hb_deriv.proofs.laws.derived_is_good.Goals as goal

pub returns : goal.returns
returns c sites s d types h p = derived_is_good sites s d types h p
