use Rattle.hb_tables.proofs.RowLemmas.{row_longer, rows_longer}
use Rattle.hb_tables.proofs.laws.calls_fit_longer_lists.Goals as goal

pub returns : goal.returns
returns c = record { one = row_longer; all = λ limit t names more log l. record { legal = l.legal; calls = rows_longer t names more log l.calls } }
