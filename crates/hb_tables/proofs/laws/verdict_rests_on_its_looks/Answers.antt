use Rattle.hb_tables.proofs.VerdictLemmas.{verdict_same}
use Rattle.hb_tables.proofs.laws.verdict_rests_on_its_looks.Goals as goal

pub returns : goal.returns
returns c = λ t types others class b m kinds h. let s = verdict_same t types others class b m kinds h in (s.verdict, s.keys)
