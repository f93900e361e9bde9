use Rattle.hb_ordered.proofs.OneLemmas.{one_history}
use Rattle.hb_ordered.proofs.laws.an_order_has_one_history.Goals as goal

pub returns : goal.returns
returns c t limit steps order names others log log' runs runs' a b = one_history t limit steps order names others log log' runs runs' a b
