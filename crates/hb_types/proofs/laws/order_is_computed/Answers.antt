use Rattle.hb_types.proofs.Below.{is_below_of, is_below_from}
use Rattle.hb_types.proofs.laws.order_is_computed.Goals as goal

pub returns : goal.returns
returns c a b = (is_below_from a b, is_below_of a b)
