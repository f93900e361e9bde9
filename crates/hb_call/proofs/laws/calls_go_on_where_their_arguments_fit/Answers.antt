use Rattle.hb_call.proofs.PastLemmas.{past}
use Rattle.hb_call.proofs.laws.calls_go_on_where_their_arguments_fit.Goals as goal

pub returns : goal.returns
returns c = record { past = past; filled = λ t names c log q key site args v h. h.row.1 }
