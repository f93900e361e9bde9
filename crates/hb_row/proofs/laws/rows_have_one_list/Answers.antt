use Rattle.hb_row.proofs.EndLemmas.{tells_all}
use Rattle.hb_row.proofs.laws.rows_have_one_list.Goals as goal

pub returns : goal.returns
returns c s r = (r.names, (tells_all s r, λ j v at live. (r.seats j v at live).front))
