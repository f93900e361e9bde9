use Rattle.hb_renamed.proofs.HistoryLemmas.{history_renamed}
use Rattle.hb_renamed.proofs.laws.names_in_another_order_have_a_history.Goals as goal

pub returns : goal.returns
returns c t limit steps names others log runs differ alike h = history_renamed names others h.differ differ alike t limit steps log runs h
