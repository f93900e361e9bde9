use Rattle.std.proofs.Common.{arith}
use Rattle.hb_row.proofs.ListLemmas.{prefix_whole}
use Rattle.hb_row.proofs.laws.full_rows_are_known.Goals as goal

pub returns : goal.returns
returns c s names j v row at live full = let few = row.0.few in prefix_whole v.known names (row.1 j v at live) (omega (arith, few, full))
