use Rattle.hb_renamed.proofs.WholeLemmas.{differ_in_order}
use Rattle.hb_renamed.proofs.laws.one_script_has_one_history.Goals as goal

pub returns : goal.returns
returns c t limit steps names others log second runs told single h k = differ_in_order t limit steps names others log second runs told single h k
