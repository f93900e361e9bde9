use Rattle.hb_top.proofs.OneReportLemmas.{one-report}
use Rattle.hb_top.proofs.top.one_report.Goals as goal

pub returns : goal.returns
returns c = one-report c.an_order_has_one_history.ensures
